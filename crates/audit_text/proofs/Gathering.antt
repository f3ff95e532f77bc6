-- The parts of a value from the items of its text: no two values have the same.
use Rattle.std.proofs.Common.{◌≡◌, ℕ, zero, suc, ◌+◌, ◌<◌, ◌≤◌, true, List, [], ◌∷◌, ◌++◌, Option, Some, None, refl, sym, ap}
use Rattle.std.proofs.Common.{◌∙◌, subst, arith, ⊎_elim, length, drop, map, append-nil}
use Rattle.std.specs.Prelude.{nat_lt, slice_get}
use Rattle.std.proofs.lemmas.Bool.{lt-ltb, cases_lt}
use Rattle.std.proofs.lemmas.List.Elements.{recursion_from_All}
use Rattle.std.proofs.lemmas.Option.{slice_get_past}
use Rattle.node_kit.specs.declared.course.Digest32.{Digest32}
use Rattle.node_kit.specs.declared.course.Kept.{Kept}
use Rattle.node_kit.specs.declared.course.Order.{Order}
use Rattle.node_kit.specs.declared.course.ReadFault.{ReadFault}
use Rattle.node_kit.specs.declared.journal.Entry.{Entry}
use Rattle.node_kit.specs.Courses.{CutsDeath, ReturnsLater}
use Rattle.node_kit.specs.Life.{death_of, cut_of, back_of}
use Rattle.slot_plan.specs.declared.params.Params.{Params}
use Rattle.stripe_layout.specs.declared.catalogue.FileInfo.{FileInfo}
use Rattle.audit_text.specs.declared.item.Item.{Item}
use Rattle.audit_text.specs.declared.item.Item.TheVariants as item
use Rattle.audit_text.specs.Fits.{ItemFits}
use Rattle.audit_text.specs.Laws.{OneLine, OneValue, FitsTypes}
use Rattle.audit_text.specs.Texts.{Parts, parts_of, row_at, death_items, entry_items, node_items, head_items, body_items, items_in, text_of}
use Rattle.audit_text.proofs.Feeds.{one_line, same_items}

-- the parts behind a place: deaths as items, and the entries before the next node
record Gathered : Type 0 where
  parts : Parts
  dying : List Item
  begun : List Entry

abbrev gather : Item → Gathered → Gathered
gather item.Version g = g
gather (item.Plan p) g = record g { parts = record g.parts { params = p } }
gather (item.Beats n) g = record g { parts = record g.parts { beats = n } }
gather (item.Delay d) g = record g { parts = record g.parts { delay = d } }
gather (item.Offsets offsets) g = record g { parts = record g.parts { offsets = offsets } }
gather (item.Death cub beat left back) g = record g { dying = item.Death cub beat left back ∷ g.dying }
gather (item.Fault f) g = record g { parts = record g.parts { faults = f ∷ g.parts.faults } }
gather (item.File f) g = record g { parts = record g.parts { files = f ∷ g.parts.files } }
gather (item.Order o) g = record g { parts = record g.parts { orders = o ∷ g.parts.orders } }
gather (item.Node n) g = record { parts = record g.parts { journals = g.begun ∷ g.parts.journals }; dying = g.dying; begun = [] }
gather (item.Entry e) g = record g { begun = e ∷ g.begun }
gather (item.Digest d) g = record g { parts = record g.parts { digests = d ∷ g.parts.digests } }
gather item.End g = g

abbrev all_of : List Item → Gathered → Gathered
all_of [] g = g
all_of (i ∷ rest) g = gather i (all_of rest g)

all-append : (xs ys : List Item) (g : Gathered) → all_of (xs ++ ys) g ≡ all_of xs (all_of ys g)
all-append [] ys g = refl
all-append (x ∷ xs) ys g = ap (gather x) (all-append xs ys g)

of_deaths : (cuts backs : List (Option ℕ)) (c : ℕ) (ds : List (Option ℕ)) (g : Gathered)
    → all_of (death_items cuts backs c ds) g ≡ record g { dying = death_items cuts backs c ds ++ g.dying }
of_deaths cuts backs c [] g = refl
of_deaths cuts backs c (None ∷ ds) g = of_deaths cuts backs (c + 1) ds g
of_deaths cuts backs c (Some b ∷ ds) g =
    ap (gather (item.Death (record { 0 = c }) b (row_at cuts c) (row_at backs c))) (of_deaths cuts backs (c + 1) ds g)

of_faults : (fs : List ReadFault) (g : Gathered) → all_of (map (λ f. item.Fault f) fs) g ≡ record g { parts = record g.parts { faults = fs ++ g.parts.faults } }
of_faults [] g = refl
of_faults (f ∷ fs) g = ap (gather (item.Fault f)) (of_faults fs g)

of_files : (fs : List FileInfo) (g : Gathered) → all_of (map (λ f. item.File f) fs) g ≡ record g { parts = record g.parts { files = fs ++ g.parts.files } }
of_files [] g = refl
of_files (f ∷ fs) g = ap (gather (item.File f)) (of_files fs g)

of_orders : (os : List Order) (g : Gathered) → all_of (map (λ o. item.Order o) os) g ≡ record g { parts = record g.parts { orders = os ++ g.parts.orders } }
of_orders [] g = refl
of_orders (o ∷ os) g = ap (gather (item.Order o)) (of_orders os g)

of_digests : (ds : List Digest32) (g : Gathered) → all_of (map (λ d. item.Digest d) ds) g ≡ record g { parts = record g.parts { digests = ds ++ g.parts.digests } }
of_digests [] g = refl
of_digests (d ∷ ds) g = ap (gather (item.Digest d)) (of_digests ds g)

of_entries : (es : List Entry) (g : Gathered) → all_of (entry_items es) g ≡ record g { begun = es ++ g.begun }
of_entries [] g = refl
of_entries (e ∷ es) g = ap (gather (item.Entry e)) (of_entries es g)

-- behind the nodes no entry is begun
abbrev closed : Gathered → Gathered
closed g = record { parts = g.parts; dying = g.dying; begun = [] }

of_nodes : (n : ℕ) (js : List (List Entry)) (g : Gathered)
    → all_of (node_items n js) (closed g) ≡ record { parts = record g.parts { journals = js ++ g.parts.journals }; dying = g.dying; begun = [] }
of_nodes n [] g = refl
of_nodes n (j ∷ js) g =
    ap (gather (item.Node (record { 0 = n })))
    (all-append (entry_items j) (node_items (n + 1) js) (closed g)
    ∙ ap (all_of (entry_items j)) (of_nodes (n + 1) js g)
    ∙ of_entries j (record { parts = record g.parts { journals = js ++ g.parts.journals }; dying = g.dying; begun = [] }))
    ∙ ap (λ (q : List Entry). record { parts = record g.parts { journals = q ∷ (js ++ g.parts.journals) }; dying = g.dying; begun = [] }) (append-nil j)

-- nothing is behind the end but what each field is of some value
abbrev bare : Parts → Parts
bare q = record q { deaths = []; cuts = []; backs = []; faults = []; files = []; orders = []; journals = []; digests = [] }

abbrev empty : Parts → Gathered
empty q = record { parts = bare q; dying = []; begun = [] }

-- what is gathered behind each section
abbrev behind_nodes : Parts → Parts → Gathered
behind_nodes q r = record (empty r) { parts = record (bare r) { digests = q.digests ++ [] } }

abbrev behind_orders : Parts → Parts → Gathered
behind_orders q r =
    let g = behind_nodes q r in record g { parts = record g.parts { journals = q.journals ++ [] } }

abbrev behind_files : Parts → Parts → Gathered
behind_files q r =
    let g = behind_orders q r in record g { parts = record g.parts { orders = q.orders ++ [] } }

abbrev behind_faults : Parts → Parts → Gathered
behind_faults q r =
    let g = behind_files q r in record g { parts = record g.parts { files = q.files ++ [] } }

abbrev behind_deaths : Parts → Parts → Gathered
behind_deaths q r =
    let g = behind_faults q r in record g { parts = record g.parts { faults = q.faults ++ [] } }

of_body : (q r : Parts) → all_of (body_items q) (empty r)
    ≡ record (behind_deaths q r) { dying = death_items q.cuts q.backs 0 q.deaths ++ [] }
of_body q r =
    let ds : List Item = death_items q.cuts q.backs 0 q.deaths in
    let fs : List Item = map (λ f. item.Fault f) q.faults in
    let is : List Item = map (λ f. item.File f) q.files in
    let os : List Item = map (λ o. item.Order o) q.orders in
    let ns : List Item = node_items 0 q.journals in
    let ss : List Item = map (λ d. item.Digest d) q.digests in
    all-append (ds ++ fs ++ is ++ os ++ ns) ss (empty r)
    ∙ ap (all_of (ds ++ fs ++ is ++ os ++ ns)) (of_digests q.digests (empty r))
    ∙ all-append (ds ++ fs ++ is ++ os) ns (behind_nodes q r)
    ∙ ap (all_of (ds ++ fs ++ is ++ os)) (of_nodes 0 q.journals (behind_nodes q r))
    ∙ all-append (ds ++ fs ++ is) os (behind_orders q r)
    ∙ ap (all_of (ds ++ fs ++ is)) (of_orders q.orders (behind_orders q r))
    ∙ all-append (ds ++ fs) is (behind_files q r)
    ∙ ap (all_of (ds ++ fs)) (of_files q.files (behind_files q r))
    ∙ all-append ds fs (behind_faults q r)
    ∙ ap (all_of ds) (of_faults q.faults (behind_faults q r))
    ∙ of_deaths q.cuts q.backs 0 q.deaths (behind_deaths q r)

-- what is gathered of all items of a value's text
abbrev told : Parts → Gathered
told q = record { parts = record q { deaths = []; cuts = []; backs = [] }; dying = death_items q.cuts q.backs 0 q.deaths; begun = [] }

of_items : (q r : Parts) → all_of (items_in q) (empty r) ≡ told q
unfolding items_in
of_items q r =
    all-append (head_items q ++ body_items q) (item.End ∷ []) (empty r)
    ∙ all-append (head_items q) (body_items q) (empty r)
    ∙ ap (all_of (head_items q)) (of_body q r)
    ∙ rw (append-nil q.faults, append-nil q.files, append-nil q.orders, append-nil q.journals, append-nil q.digests, append-nil (death_items q.cuts q.backs 0 q.deaths)) refl

-- ---- deaths from their items

abbrev cub_in : List Item → ℕ → ℕ
cub_in (item.Death cub beat left back ∷ rest) d = cub.0
cub_in other d = d

abbrev beat_in : List Item → ℕ
beat_in (item.Death cub beat left back ∷ rest) = beat
beat_in other = 0

abbrev left_in : List Item → Option ℕ
left_in (item.Death cub beat left back ∷ rest) = left
left_in other = None

abbrev back_in : List Item → Option ℕ
back_in (item.Death cub beat left back ∷ rest) = back
back_in other = None

-- the rows of cuts and of returns
record Rows : Type 0 where
  cuts : List (Option ℕ)
  backs : List (Option ℕ)

abbrev dying_items : Rows → ℕ → List (Option ℕ) → List Item
dying_items r c ds = death_items r.cuts r.backs c ds

-- no death of a cub before the first one is told
not_before : (r : Rows) (c : ℕ) (ds : List (Option ℕ)) → c ≤ cub_in (dying_items r c ds) c
not_before r c [] = omega arith
not_before r c (Some b ∷ ds) = omega arith
not_before r c (None ∷ ds) = weaker (dying_items r (c + 1) ds) (not_before r (c + 1) ds) where
  weaker : (is : List Item) → c + 1 ≤ cub_in is (c + 1) → c ≤ cub_in is c
  weaker [] h = omega arith
  weaker (item.Death cub beat left back ∷ rest) h = omega (arith, h)
  weaker (other ∷ rest) h = omega arith

same_deaths : (r s : Rows) (c : ℕ) (ds es : List (Option ℕ)) → length ds ≡ length es
    → dying_items r c ds ≡ dying_items s c es → ds ≡ es
same_deaths r s c [] [] l e = refl
same_deaths r s c [] (x ∷ es) l e = absurd (omega (arith, l))
same_deaths r s c (x ∷ ds) [] l e = absurd (omega (arith, l))
same_deaths r s c (None ∷ ds) (None ∷ es) l e =
    ap (λ (q : List (Option ℕ)). None ∷ q) (same_deaths r s (c + 1) ds es (omega (arith, l)) e)
same_deaths r s c (Some a ∷ ds) (Some b ∷ es) l e =
    rw (ap beat_in e, same_deaths r s (c + 1) ds es (omega (arith, l)) (ap (λ (q : List Item). drop 1 q) e)) refl
same_deaths r s c (None ∷ ds) (Some b ∷ es) l e =
    absurd (omega (arith, not_before r (c + 1) ds, ap (λ (q : List Item). cub_in q (c + 1)) e))
same_deaths r s c (Some a ∷ ds) (None ∷ es) l e =
    absurd (omega (arith, not_before s (c + 1) es, ap (λ (q : List Item). cub_in q (c + 1)) e))

-- of a cub that dies the rows tell the same
record TellSame (r s : Rows) (c : ℕ) : Type 0 where
  left : row_at r.cuts c ≡ row_at s.cuts c
  back : row_at r.backs c ≡ row_at s.backs c

same_rows_of : (r s : Rows) (c : ℕ) (ds : List (Option ℕ)) → dying_items r c ds ≡ dying_items s c ds
    → (m b : ℕ) → slice_get ds m ≡ Some (Some b) → TellSame r s (c + m)
same_rows_of r s c [] e m b at = absurd (cc)
same_rows_of r s c (None ∷ ds) e zero b at = absurd (cc)
same_rows_of r s c (Some a ∷ ds) e zero b at =
    let here : c + 0 ≡ c = omega arith in
    rw here (record { left = ap left_in e; back = ap back_in e })
same_rows_of r s c (None ∷ ds) e (suc m) b at =
    let there : c + 1 + m ≡ c + suc m = omega arith in
    subst (λ (k : ℕ). TellSame r s k) there (same_rows_of r s (c + 1) ds e m b at)
same_rows_of r s c (Some a ∷ ds) e (suc m) b at =
    let there : c + 1 + m ≡ c + suc m = omega arith in
    subst (λ (k : ℕ). TellSame r s k) there (same_rows_of r s (c + 1) ds (ap (λ (q : List Item). drop 1 q) e) m b at)

-- two rows of one length that tell the same are one
same_row : (xs ys : List (Option ℕ)) → length xs ≡ length ys → ((n : ℕ) → row_at xs n ≡ row_at ys n) → xs ≡ ys
same_row [] [] l f = refl
same_row [] (y ∷ ys) l f = absurd (omega (arith, l))
same_row (x ∷ xs) [] l f = absurd (omega (arith, l))
same_row (x ∷ xs) (y ∷ ys) l f = rw (f 0, same_row xs ys (omega (arith, l)) (λ n. f (suc n))) refl

-- a row says nothing behind its end
row-past : (xs : List (Option ℕ)) (n : ℕ) → length xs ≤ n → row_at xs n ≡ None
row-past xs n h = rw (slice_get_past xs n h) refl

-- a cub that does not die has no cut and no return
uncut : (o : Option ℕ) → CutsDeath None o → o ≡ None
uncut None h = refl
uncut (Some x) h = absurd h

not-back : (o : Option ℕ) → ReturnsLater None o → o ≡ None
not-back None h = refl
not-back (Some x) h = absurd h

-- ---- so the items tell the parts

abbrev rows_of : Parts → Rows
rows_of q = record { cuts = q.cuts; backs = q.backs }

-- the rows of a part are as long as there are cubs, and tell nothing of who does not die
record AreRows (cubs : ℕ) (q : Parts) : Type 0 where
  deaths : length q.deaths ≡ cubs
  cuts : length q.cuts ≡ cubs
  backs : length q.backs ≡ cubs
  none : (n : ℕ) → n < cubs → row_at q.deaths n ≡ None → (row_at q.cuts n ≡ None) × (row_at q.backs n ≡ None)

same_telling : (cubs : ℕ) (q r : Parts) → AreRows cubs q → AreRows cubs r → q.deaths ≡ r.deaths
    → dying_items (rows_of q) 0 q.deaths ≡ dying_items (rows_of r) 0 r.deaths → (n : ℕ) → TellSame (rows_of q) (rows_of r) n
same_telling cubs q r f g same e n = ⊎_elim
    (λ (low : n < cubs). inside low (row_at q.deaths n) refl)
    (λ (high : cubs ≤ n).
    let a = row-past q.cuts n (omega (arith, high, f.cuts)) in
    let b = row-past r.cuts n (omega (arith, high, g.cuts)) in
    let c = row-past q.backs n (omega (arith, high, f.backs)) in
    let d = row-past r.backs n (omega (arith, high, g.backs)) in
    record { left = a ∙ sym b; back = c ∙ sym d })
    (cases_lt n cubs)
  where
    found : (low : n < cubs) (b : ℕ) → row_at q.deaths n ≡ Some b → (o : Option (Option ℕ)) → slice_get q.deaths n ≡ o
        → slice_get q.deaths n ≡ Some (Some b)
    found low b at None is = absurd (cc)
    found low b at (Some x) is = cc

    inside : n < cubs → (o : Option ℕ) → row_at q.deaths n ≡ o → TellSame (rows_of q) (rows_of r) n
    inside low None at =
        let mine = f.none n low at in
        let theirs = g.none n low (ap (λ (ds : List (Option ℕ)). row_at ds n) (sym same) ∙ at) in
        record { left = mine.0 ∙ sym theirs.0; back = mine.1 ∙ sym theirs.1 }
    inside low (Some b) at =
        let items = e ∙ ap (dying_items (rows_of r) 0) (sym same) in
        let here : 0 + n ≡ n = omega arith in
        subst (λ (k : ℕ). TellSame (rows_of q) (rows_of r) k) here
        (same_rows_of (rows_of q) (rows_of r) 0 q.deaths items n b (found low b at (slice_get q.deaths n) refl))

same_parts : (cubs : ℕ) (q r : Parts) → AreRows cubs q → AreRows cubs r → items_in q ≡ items_in r → q ≡ r
same_parts cubs q r f g e =
    let same : told q ≡ told r = sym (of_items q q) ∙ ap (λ (is : List Item). all_of is (empty q)) e ∙ of_items r q in
    let dying = ap (λ (x : Gathered). x.dying) same in
    let deaths : q.deaths ≡ r.deaths =
    same_deaths (rows_of q) (rows_of r) 0 q.deaths r.deaths (f.deaths ∙ sym g.deaths) dying in
    let tell = same_telling cubs q r f g deaths dying in
    let cuts : q.cuts ≡ r.cuts = same_row q.cuts r.cuts (f.cuts ∙ sym g.cuts) (λ n. (tell n).left) in
    let backs : q.backs ≡ r.backs = same_row q.backs r.backs (f.backs ∙ sym g.backs) (λ n. (tell n).back) in
    let others : ◌≡◌ {A = Parts} (record q { deaths = []; cuts = []; backs = [] }) (record r { deaths = []; cuts = []; backs = [] }) =
    ap (λ (x : Gathered). x.parts) same in
    ap (λ (p : Parts). record p { deaths = q.deaths; cuts = q.cuts; backs = q.backs }) others
    ∙ ap (λ (ds : List (Option ℕ)). record r { deaths = ds; cuts = q.cuts; backs = q.backs }) deaths
    ∙ ap (λ (ds : List (Option ℕ)). record r { cuts = ds; backs = q.backs }) cuts
    ∙ ap (λ (ds : List (Option ℕ)). record r { backs = ds }) backs

-- what fits has such rows
fit_rows : (k : Kept) → FitsTypes k → AreRows k.course.plan.params.cubs (parts_of k)
fit_rows k f = record {
  deaths = f.cubs;
  cuts = f.cuts;
  backs = f.backs;
  none = λ n low at.
      let in_course : nat_lt n k.course.plan.params.cubs ≡ true = lt-ltb n k.course.plan.params.cubs low in
      let dead : death_of k.course n ≡ None = rw in_course at in
      let cut : cut_of k.course n ≡ row_at k.course.cuts n = rw in_course refl in
      let back : back_of k.course n ≡ row_at k.course.backs n = rw in_course refl in (
        sym cut ∙ uncut (cut_of k.course n) (subst (λ (o : Option ℕ). CutsDeath o (cut_of k.course n)) dead (f.cut_deaths n)),
        sym back ∙ not-back (back_of k.course n) (subst (λ (o : Option ℕ). ReturnsLater o (back_of k.course n)) dead (f.returns_later n)),
      );
}

pub one_value : OneValue
unfolding text_of
one_value k j f g e =
    let items : items_in (parts_of k) ≡ items_in (parts_of j) =
    same_items (items_in (parts_of k)) (items_in (parts_of j)) (recursion_from_All ItemFits _ f.numbers) (recursion_from_All ItemFits _ g.numbers) e in
    let params : k.course.plan.params ≡ j.course.plan.params = ap (λ (x : Gathered). x.parts.params) (sym (of_items (parts_of k) (parts_of k)) ∙ ap (λ (is : List Item). all_of is (empty (parts_of k))) items ∙ of_items (parts_of j) (parts_of k)) in
    let cubs : j.course.plan.params.cubs ≡ k.course.plan.params.cubs = ap (λ (p : Params). p.cubs) (sym params) in
    same_parts k.course.plan.params.cubs (parts_of k) (parts_of j) (fit_rows k f)
    (subst (λ (n : ℕ). AreRows n (parts_of j)) cubs (fit_rows j g)) items

pub one_item : OneLine
one_item i j f g e = one_line i j f g e
