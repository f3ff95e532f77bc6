-- Which line of the text tells an entry, an order or a death.
use Rattle.std.proofs.Common.{◌≡◌, ℕ, zero, suc, ◌+◌, ◌<◌, ◌≤◌, Bool, true, false, List, [], ◌∷◌, ◌++◌, map, length, take, get_or, Option, Some, None, is_some, option_map, refl, sym, ap, subst, ◌∙◌, arith, length-append}
use Rattle.std.specs.Prelude.{slice_get, slice_index_or, if◌then◌else◌}
use Rattle.std.proofs.lemmas.List.{length-map, take_more}
use Rattle.std.proofs.lemmas.Option.{none-some, slice_get-get_or, slice_get_past, slice_get-map, same_Some}
use Rattle.node_kit.specs.declared.course.Kept.{Kept}
use Rattle.node_kit.specs.declared.course.Order.{Order}
use Rattle.node_kit.specs.declared.journal.Entry.{Entry}
use Rattle.audit_text.specs.declared.item.Item.{Item}
use Rattle.audit_text.specs.declared.item.Item.TheVariants as item
use Rattle.audit_text.specs.Texts.{death_items, entry_items, node_items, items_in, parts_of, head_items, row_at}
use Rattle.audit_verdict.specs.Telling.{IsLineOfEntry, IsLineOfOrder, IsLineOfDeath, before_orders, before_nodes, death_lines, lines_in}
use Rattle.audit_verdict.specs.declared.place.EntryPlace.{EntryPlace}

-- ---- places of lists put together

on_left : {X : Type 0} (xs ys : List X) (i : ℕ) (x : X) → slice_get xs i ≡ Some x → slice_get (xs ++ ys) i ≡ Some x
on_left [] ys i x at = absurd (none-some x at)
on_left (z ∷ xs) ys zero x at = at
on_left (z ∷ xs) ys (suc i) x at = on_left xs ys i x at

on_right : {X : Type 0} (xs ys : List X) (i n : ℕ) (x : X) → n ≡ length xs + i → slice_get ys i ≡ Some x → slice_get (xs ++ ys) n ≡ Some x
on_right {X} [] ys i n x is at = let same : n ≡ i = omega (arith, is) in subst (λ (m : ℕ). slice_get ys m ≡ Some x) (sym same) at
on_right (z ∷ xs) ys i zero x is at = absurd (omega (arith, is))
on_right (z ∷ xs) ys i (suc n) x is at = on_right xs ys i n x (omega (arith, is)) at

-- ---- deaths

deaths_told : (cuts backs : List (Option ℕ)) (cub : ℕ) (ds : List (Option ℕ)) → length (death_items cuts backs cub ds) ≡ death_lines ds
deaths_told cuts backs cub [] = refl
deaths_told cuts backs cub (None ∷ ds) = deaths_told cuts backs (cub + 1) ds
deaths_told cuts backs cub (Some beat ∷ ds) = let rest = deaths_told cuts backs (cub + 1) ds in omega (arith, rest)

death_there : (cuts backs : List (Option ℕ)) (cub n q : ℕ) (ds : List (Option ℕ)) (beat : ℕ) → slice_get ds n ≡ Some (Some beat) → q ≡ cub + n
    → slice_get (death_items cuts backs cub ds) (death_lines (take n ds)) ≡ Some (item.Death (record { 0 = q }) beat (row_at cuts q) (row_at backs q))
death_there cuts backs cub n q [] beat at is = absurd (none-some (Some beat) at)
death_there cuts backs cub zero q (None ∷ ds) beat at is = absurd (none-some beat (same_Some None (Some beat) at))
death_there cuts backs cub zero q (Some b ∷ ds) beat at is =
    let same : b ≡ beat = same_Some b beat (same_Some (Some b) (Some beat) at) in
    let here : cub ≡ q = omega (arith, is) in
    ap (λ (m : ℕ). Some (item.Death (record { 0 = m }) b (row_at cuts m) (row_at backs m))) here
    ∙ ap (λ (c : ℕ). Some (item.Death (record { 0 = q }) c (row_at cuts q) (row_at backs q))) same
death_there cuts backs cub (suc n) q (None ∷ ds) beat at is = death_there cuts backs (cub + 1) n q ds beat at (omega (arith, is))
death_there cuts backs cub (suc n) q (Some b ∷ ds) beat at is =
    on_right (item.Death (record { 0 = cub }) b (row_at cuts cub) (row_at backs cub) ∷ []) (death_items cuts backs (cub + 1) ds)
    (death_lines (take n ds)) (death_lines (take n ds) + 1) (item.Death (record { 0 = q }) beat (row_at cuts q) (row_at backs q)) (omega arith)
    (death_there cuts backs (cub + 1) n q ds beat at (omega (arith, is)))

-- ---- nodes and entries

node_length : (m : ℕ) (j : List Entry) (js : List (List Entry)) → length (item.Node (record { 0 = m }) ∷ entry_items j) ≡ length j + 1
node_length m j js = let same = length-map j (λ (e : Entry). item.Entry e) in omega (arith, same)

node_there : (m n q : ℕ) (js : List (List Entry)) (j : List Entry) → slice_get js n ≡ Some j → q ≡ m + n
    → slice_get (node_items m js) (lines_in (take n js)) ≡ Some (item.Node (record { 0 = q }))
node_there m n q [] j at is = absurd (none-some j at)
node_there m zero q (g ∷ js) j at is = let here : m ≡ q = omega (arith, is) in ap (λ (c : ℕ). Some (item.Node (record { 0 = c }))) here
node_there m (suc n) q (g ∷ js) j at is =
    on_right (item.Node (record { 0 = m }) ∷ entry_items g) (node_items (m + 1) js) (lines_in (take n js)) (length g + 1 + lines_in (take n js))
    (item.Node (record { 0 = q })) (let same = node_length m g js in omega (arith, same))
    (node_there (m + 1) n q js j at (omega (arith, is)))

entry_there : (m n i : ℕ) (js : List (List Entry)) (j : List Entry) (e : Entry) → slice_get js n ≡ Some j → slice_get j i ≡ Some e
    → slice_get (node_items m js) (lines_in (take n js) + 1 + i) ≡ Some (item.Entry e)
entry_there m n i [] j e at here = absurd (none-some j at)
entry_there m zero i (g ∷ js) j e at here =
    let same : g ≡ j = same_Some g j at in
    let mine : slice_get (entry_items g) i ≡ Some (item.Entry e) =
    slice_get-map (λ (f : Entry). item.Entry f) g i
    ∙ ap (option_map (λ (f : Entry). item.Entry f)) (subst (λ (l : List Entry). slice_get l i ≡ Some e) (sym same) here) in
    on_left (item.Node (record { 0 = m }) ∷ entry_items g) (node_items (m + 1) js) (0 + 1 + i) (item.Entry e)
    (on_right (item.Node (record { 0 = m }) ∷ []) (entry_items g) i (0 + 1 + i) (item.Entry e) (omega arith) mine)
entry_there m (suc n) i (g ∷ js) j e at here =
    on_right (item.Node (record { 0 = m }) ∷ entry_items g) (node_items (m + 1) js) (lines_in (take n js) + 1 + i)
    (length g + 1 + lines_in (take n js) + 1 + i) (item.Entry e) (let same = node_length m g js in omega (arith, same))
    (entry_there (m + 1) n i js j e at here)

-- ---- in the text

-- lines put together as those of a text, and how far the orders and the nodes stand behind its head
module _ (head deaths faults files orders nodes digests end : List Item) where
  abbrev whole : List Item
  whole = head ++ (deaths ++ faults ++ files ++ orders ++ nodes ++ digests) ++ end

  in_deaths : (i n : ℕ) (x : Item) → n ≡ length head + i → slice_get deaths i ≡ Some x → slice_get whole n ≡ Some x
  in_deaths i n x is at =
      on_left (head ++ (deaths ++ faults ++ files ++ orders ++ nodes ++ digests)) end n x
      (on_right head (deaths ++ faults ++ files ++ orders ++ nodes ++ digests) i n x is
      (on_left (deaths ++ faults ++ files ++ orders ++ nodes) digests i x
      (on_left (deaths ++ faults ++ files ++ orders) nodes i x
      (on_left (deaths ++ faults ++ files) orders i x
      (on_left (deaths ++ faults) files i x (on_left deaths faults i x at))))))

  in_orders : (i n : ℕ) (x : Item) → n ≡ length head + (length deaths + length faults + length files) + i → slice_get orders i ≡ Some x
      → slice_get whole n ≡ Some x
  in_orders i n x is at =
      let before = length deaths + length faults + length files + i in
      let one = length-append deaths faults in
      let two = length-append (deaths ++ faults) files in
      on_left (head ++ (deaths ++ faults ++ files ++ orders ++ nodes ++ digests)) end n x
      (on_right head (deaths ++ faults ++ files ++ orders ++ nodes ++ digests) before n x (omega (arith, is))
      (on_left (deaths ++ faults ++ files ++ orders ++ nodes) digests before x
      (on_left (deaths ++ faults ++ files ++ orders) nodes before x
      (on_right (deaths ++ faults ++ files) orders i before x (omega (arith, one, two)) at))))

  in_nodes : (i n : ℕ) (x : Item) → n ≡ length head + (length deaths + length faults + length files) + length orders + i
      → slice_get nodes i ≡ Some x → slice_get whole n ≡ Some x
  in_nodes i n x is at =
      let before = length deaths + length faults + length files + length orders + i in
      let one = length-append deaths faults in
      let two = length-append (deaths ++ faults) files in
      let three = length-append (deaths ++ faults ++ files) orders in
      on_left (head ++ (deaths ++ faults ++ files ++ orders ++ nodes ++ digests)) end n x
      (on_right head (deaths ++ faults ++ files ++ orders ++ nodes ++ digests) before n x (omega (arith, is))
      (on_left (deaths ++ faults ++ files ++ orders ++ nodes) digests before x
      (on_right (deaths ++ faults ++ files ++ orders) nodes i before x (omega (arith, one, two, three)) at)))

-- ---- in the text of a kept run

order_there : (k : Kept) (i : ℕ) (o : Order) → slice_get k.orders i ≡ Some o
    → slice_get (items_in (parts_of k)) (before_orders k + i) ≡ Some (item.Order o)
unfolding items_in
order_there k i o at =
    let q = parts_of k in
    let deaths = deaths_told q.cuts q.backs 0 q.deaths in
    let faults = length-map q.faults (λ f. item.Fault f) in
    let files = length-map q.files (λ f. item.File f) in
    in_orders (head_items q) (death_items q.cuts q.backs 0 q.deaths) (map (λ f. item.Fault f) q.faults) (map (λ f. item.File f) q.files)
    (map (λ p. item.Order p) q.orders) (node_items 0 q.journals) (map (λ d. item.Digest d) q.digests) (item.End ∷ [])
    i (before_orders k + i) (item.Order o) (omega (arith, deaths, faults, files))
    (slice_get-map (λ (p : Order). item.Order p) k.orders i ∙ ap (option_map (λ (p : Order). item.Order p)) at)

in_journals : (k : Kept) (i : ℕ) (x : Item) → slice_get (node_items 0 k.journals) i ≡ Some x
    → slice_get (items_in (parts_of k)) (before_nodes k + i) ≡ Some x
unfolding items_in
in_journals k i x at =
    let q = parts_of k in
    let deaths = deaths_told q.cuts q.backs 0 q.deaths in
    let faults = length-map q.faults (λ f. item.Fault f) in
    let files = length-map q.files (λ f. item.File f) in
    let orders = length-map q.orders (λ (p : Order). item.Order p) in
    in_nodes (head_items q) (death_items q.cuts q.backs 0 q.deaths) (map (λ f. item.Fault f) q.faults) (map (λ f. item.File f) q.files)
    (map (λ p. item.Order p) q.orders) (node_items 0 q.journals) (map (λ d. item.Digest d) q.digests) (item.End ∷ [])
    i (before_nodes k + i) x (omega (arith, deaths, faults, files, orders)) at

in_lives : (k : Kept) (i : ℕ) (x : Item) → slice_get (death_items k.course.cuts k.course.backs 0 k.course.deaths) i ≡ Some x
    → slice_get (items_in (parts_of k)) (5 + i) ≡ Some x
unfolding items_in
in_lives k i x at =
    let q = parts_of k in
    in_deaths (head_items q) (death_items q.cuts q.backs 0 q.deaths) (map (λ f. item.Fault f) q.faults) (map (λ f. item.File f) q.files)
    (map (λ p. item.Order p) q.orders) (node_items 0 q.journals) (map (λ d. item.Digest d) q.digests) (item.End ∷ [])
    i (5 + i) x refl at

-- ---- by places

pub entry_line : (k : Kept) (e : EntryPlace) (journal : List Entry) (entry : Entry) (line : ℕ) → slice_get k.journals e.node.0 ≡ Some journal
    → slice_get journal e.place ≡ Some entry → line ≡ before_nodes k + lines_in (take e.node.0 k.journals) + e.place + 2 → IsLineOfEntry k e line
entry_line k e journal entry line here at is =
    let before = before_nodes k in
    let below = lines_in (take e.node.0 k.journals) in
    record {
      journal = journal;
      here = here;
      entry = entry;
      at = at;
      says = (
        before + (below + 1 + e.place),
        omega (arith, is),
        in_journals k (below + 1 + e.place) (item.Entry entry) (entry_there 0 e.node.0 e.place k.journals journal entry here at),
      );
      head = before + below + 1;
      node = (before + below, refl, in_journals k below (item.Node e.node) (node_there 0 e.node.0 e.node.0 k.journals journal here (omega arith)));
      behind = omega (arith, is);
    }

pub no_node : (k : Kept) (e : EntryPlace) (line : ℕ) → length k.journals ≤ e.node.0 → IsLineOfEntry k e line → ⊥
no_node k e line over h = none-some h.journal (sym (slice_get_past k.journals e.node.0 over) ∙ h.here)

pub order_line : (k : Kept) (j line : ℕ) → j < length k.orders → line ≡ before_orders k + j + 1 → IsLineOfOrder k j line
order_line k j line low is = record {
  there = low;
  first = before_orders k + 1;
  orders = λ i o at. (before_orders k + i, omega arith, order_there k i o at);
  behind = omega (arith, is);
}

pub death_line : (k : Kept) (cub beat line : ℕ) → slice_get k.course.deaths cub ≡ Some (Some beat)
    → line ≡ death_lines (take cub k.course.deaths) + 6 → IsLineOfDeath k cub line
death_line k cub beat line at is = record {
  beat = beat;
  here = at;
  left = row_at k.course.cuts cub;
  back = row_at k.course.backs cub;
  says = (
    5 + death_lines (take cub k.course.deaths),
    omega (arith, is),
    in_lives k (death_lines (take cub k.course.deaths)) (item.Death (record { 0 = cub }) beat (row_at k.course.cuts cub) (row_at k.course.backs cub))
        (death_there k.course.cuts k.course.backs 0 cub cub k.course.deaths beat at (omega arith)),
  );
}

-- ---- sums

deaths_joined : (xs ys : List (Option ℕ)) → death_lines (xs ++ ys) ≡ death_lines xs + death_lines ys
deaths_joined [] ys = omega arith
deaths_joined (None ∷ xs) ys = deaths_joined xs ys
deaths_joined (Some b ∷ xs) ys = let rest = deaths_joined xs ys in omega (arith, rest)

lines_joined : (xs ys : List (List Entry)) → lines_in (xs ++ ys) ≡ lines_in xs + lines_in ys
lines_joined [] ys = omega arith
lines_joined (j ∷ xs) ys = let rest = lines_joined xs ys in omega (arith, rest)

one_death : (o : Option ℕ) (n : ℕ) → n + death_lines (o ∷ []) ≡ (if is_some o then n + 1 else n)
one_death None n = omega arith
one_death (Some b) n = omega arith

pub deaths_more : (ds : List (Option ℕ)) (i : ℕ) (d : Option ℕ) → i < length ds
    → death_lines (take (i + 1) ds) ≡ (if is_some (slice_index_or ds i d) then death_lines (take i ds) + 1 else death_lines (take i ds))
deaths_more ds i d low =
    ap death_lines (take_more ds i d low) ∙ deaths_joined (take i ds) (get_or ds i d ∷ [])
    ∙ one_death (get_or ds i d) (death_lines (take i ds))

pub few_deaths : (ds : List (Option ℕ)) (i : ℕ) → death_lines (take i ds) ≤ i
few_deaths ds zero = omega arith
few_deaths [] (suc i) = omega arith
few_deaths (None ∷ ds) (suc i) = let rest = few_deaths ds i in omega (arith, rest)
few_deaths (Some b ∷ ds) (suc i) = let rest = few_deaths ds i in omega (arith, rest)

pub lines_more : (js : List (List Entry)) (i : ℕ) (d : List Entry) → i < length js
    → lines_in (take (i + 1) js) ≡ lines_in (take i js) + length (slice_index_or js i d) + 1
lines_more js i d low =
    ap lines_in (take_more js i d low) ∙ lines_joined (take i js) (get_or js i d ∷ []) ∙ omega arith

-- ---- answers

got : {X : Type 0} (xs : List X) (i : ℕ) → i < length xs → (x : X) × (slice_get xs i ≡ Some x)
got [] i low = absurd (omega (arith, low))
got (x ∷ xs) zero low = (x, refl)
got (x ∷ xs) (suc i) low = got xs i (omega (arith, low))

-- the sums by which the line of an entry is found
pub entry_told : (k : Kept) (e : EntryPlace) (js : List (List Entry)) (before nodes head line result : ℕ) → js ≡ k.journals
    → e.node.0 < length js → e.place < length (slice_index_or js e.node.0 []) → before ≡ before_nodes k
    → nodes ≡ lines_in (take e.node.0 js) → head ≡ before + nodes → line ≡ head + e.place → result ≡ line + 2 → IsLineOfEntry k e result
entry_told k e js before nodes head line result same low inside b n h l r =
    let journal = slice_index_or js e.node.0 [] in
    let here : slice_get k.journals e.node.0 ≡ Some journal =
    subst (λ (q : List (List Entry)). slice_get q e.node.0 ≡ Some journal) same (slice_get-get_or js e.node.0 [] low) in
    let entry = got journal e.place inside in
    let below : nodes ≡ lines_in (take e.node.0 k.journals) =
    subst (λ (q : List (List Entry)). nodes ≡ lines_in (take e.node.0 q)) same n in
    entry_line k e journal entry.0 result here entry.1 (omega (arith, b, below, h, l, r))

pub no_node_told : (k : Kept) (e : EntryPlace) (js : List (List Entry)) → js ≡ k.journals → length js ≤ e.node.0 → (line : ℕ)
    → IsLineOfEntry k e line → ⊥
no_node_told k e js same over line h =
    no_node k e line (subst (λ (q : List (List Entry)). length q ≤ e.node.0) same over) h

pub no_entry_told : (k : Kept) (e : EntryPlace) (js : List (List Entry)) → js ≡ k.journals → e.node.0 < length js
    → length (slice_index_or js e.node.0 []) ≤ e.place → (line : ℕ) → IsLineOfEntry k e line → ⊥
no_entry_told k e js same low over line h =
    let journal = slice_index_or js e.node.0 [] in
    let here : slice_get k.journals e.node.0 ≡ Some journal =
    subst (λ (q : List (List Entry)). slice_get q e.node.0 ≡ Some journal) same (slice_get-get_or js e.node.0 [] low) in
    let one : h.journal ≡ journal = same_Some h.journal journal (sym h.here ∙ here) in
    none-some h.entry (sym (slice_get_past journal e.place over) ∙ subst (λ (j : List Entry). slice_get j e.place ≡ Some h.entry) one h.at)

pub order_told : (k : Kept) (j before line result : ℕ) → j < length k.orders → before ≡ before_orders k → line ≡ before + j
    → result ≡ line + 1 → IsLineOfOrder k j result
order_told k j before line result low b l r = order_line k j result low (omega (arith, b, l, r))

pub no_order_told : (k : Kept) (j : ℕ) → length k.orders ≤ j → (line : ℕ) → IsLineOfOrder k j line → ⊥
no_order_told k j over line h = let low = h.there in omega (arith, over, low)

-- whether a cub has a death, and if so, its beat
has_beat : (o : Option ℕ) → is_some o ≡ true → (beat : ℕ) × (o ≡ Some beat)
has_beat None e = absurd (cc)
has_beat (Some beat) e = (beat, refl)

pub death_told : (k : Kept) (cub : ℕ) (ds : List (Option ℕ)) (dies : Bool) (below result : ℕ) → ds ≡ k.course.deaths → cub < length ds
    → dies ≡ is_some (slice_index_or ds cub None) → dies ≡ true → below ≡ death_lines (take cub ds) → result ≡ below + 6
    → IsLineOfDeath k cub result
death_told k cub ds dies below result same low is on b r =
    let beat = has_beat (slice_index_or ds cub None) (sym is ∙ on) in
    let here : slice_get k.course.deaths cub ≡ Some (Some beat.0) =
    subst (λ (q : List (Option ℕ)). slice_get q cub ≡ Some (Some beat.0)) same
    (slice_get-get_or ds cub None low ∙ ap (λ (o : Option ℕ). Some o) beat.1) in
    let count : below ≡ death_lines (take cub k.course.deaths) = subst (λ (q : List (Option ℕ)). below ≡ death_lines (take cub q)) same b in
    death_line k cub beat.0 result here (omega (arith, count, r))

pub no_cub_told : (k : Kept) (cub : ℕ) (ds : List (Option ℕ)) → ds ≡ k.course.deaths → length ds ≤ cub → (line : ℕ)
    → IsLineOfDeath k cub line → ⊥
no_cub_told k cub ds same over line h =
    none-some (Some h.beat)
    (sym (slice_get_past k.course.deaths cub (subst (λ (q : List (Option ℕ)). length q ≤ cub) same over)) ∙ h.here)

pub no_death_told : (k : Kept) (cub : ℕ) (ds : List (Option ℕ)) (dies : Bool) → ds ≡ k.course.deaths → cub < length ds
    → dies ≡ is_some (slice_index_or ds cub None) → dies ≡ false → (line : ℕ) → IsLineOfDeath k cub line → ⊥
no_death_told k cub ds dies same low is none line h =
    let here : slice_get k.course.deaths cub ≡ Some (slice_index_or ds cub None) =
    subst (λ (q : List (Option ℕ)). slice_get q cub ≡ Some (slice_index_or ds cub None)) same (slice_get-get_or ds cub None low) in
    let one : slice_index_or ds cub None ≡ Some h.beat = same_Some (slice_index_or ds cub None) (Some h.beat) (sym here ∙ h.here) in
    let e : false ≡ true = sym none ∙ is ∙ ap (λ (o : Option ℕ). is_some o) one in
    absurd (cc)
