-- The lines of a writable value are read in turn, and the text is whole behind the last one.
use Rattle.std.proofs.Common.{◌≡◌, ℕ, zero, suc, ◌+◌, ◌<◌, ◌≤◌, ◌^◌, true, List, [], ◌∷◌, ◌++◌, Option, Some, None, refl, sym, subst, ⊎_elim, arith, length}
use Rattle.std.proofs.Common.{map, append_assoc, append-nil}
use Rattle.std.specs.Prelude.{nat_lt}
use Rattle.std.specs.List.{AllByRecursion, fold}
use Rattle.std.proofs.lemmas.Bool.{lt-ltb, cases_lt}
use Rattle.std.proofs.lemmas.Option.{slice_get_past}
use Rattle.node_kit.specs.Courses.{IsCourse, ReturnsLater}
use Rattle.node_kit.specs.Life.{death_of, back_of}
use Rattle.node_kit.specs.declared.course.Course.{Course}
use Rattle.node_kit.specs.declared.course.Digest32.{Digest32}
use Rattle.node_kit.specs.declared.course.Kept.{Kept}
use Rattle.node_kit.specs.declared.course.Order.{Order}
use Rattle.node_kit.specs.declared.course.ReadFault.{ReadFault}
use Rattle.node_kit.specs.declared.journal.Entry.{Entry}
use Rattle.stripe_layout.specs.declared.catalogue.FileInfo.{FileInfo}
use Rattle.audit_text.specs.declared.item.Item.{Item}
use Rattle.audit_text.specs.declared.item.Item.TheVariants as item
use Rattle.audit_text.specs.Texts.{parts_of, row_at, death_items, entry_items, node_items, items_in}
use Rattle.audit_read.specs.Writable.{IsDeath, ReturnsIn, IsFault, IsFile, AreOrders, IsJournal, IsWritable, node_count, starts_in}
use Rattle.audit_read.specs.Drafts.{Admits, TellsAll, given_with, told_with, begun_told, opened, after}
use Rattle.audit_read.specs.declared.draft.Draft.{Draft}
use Rattle.audit_read.specs.declared.draft.Draft.TheVariants as draft
use Rattle.audit_read.specs.declared.given.Given.{Given}
use Rattle.audit_read.specs.declared.told.Told.{Told}
use Rattle.audit_read.proofs.Lists.{padded_with_length, length_push, spread}

abbrev pub IsWholeDraft : Draft → Type 0
IsWholeDraft (draft.Whole t) = Unit {0}
IsWholeDraft d = ⊥

-- these lines are read in turn, and the text is whole behind them
abbrev pub ReadsOut : Draft → List Item → Type 0
ReadsOut d [] = IsWholeDraft d
ReadsOut d (i ∷ rest) = Admits d i × ReadsOut (after d i) rest

-- what is read behind some of them
pub reads_behind : (d : Draft) (xs ys : List Item) → ReadsOut d (xs ++ ys) → ReadsOut (fold after d xs) ys
reads_behind d [] ys r = r
reads_behind d (x ∷ xs) ys r = reads_behind (after d x) xs ys r.1

-- what holds of each cub from a place on holds behind that place
from_next : (P : ℕ → ℕ → Type 0) (c : ℕ) → ((m : ℕ) → P m (c + m)) → (m : ℕ) → P (suc m) (c + 1 + m)
from_next P c f m = subst (λ (k : ℕ). P (suc m) k) (shifted c m) (f (suc m)) where
  shifted : (c m : ℕ) → c + suc m ≡ c + 1 + m
  shifted c m = omega arith

walk_deaths : (g : Given) (cuts backs : List (Option ℕ)) (c : ℕ) (ds : List (Option ℕ)) (rest : List Item)
    → length g.faults ≡ 0 → length g.files ≡ 0 → length g.orders ≡ 0
    → length g.deaths ≤ c → c + length ds ≤ g.params.cubs → AllByRecursion (IsDeath g.beats) ds
    → ((m : ℕ) → ReturnsLater (row_at ds m) (row_at backs (c + m))) → ((k : ℕ) → ReturnsIn g.beats (row_at backs k))
    → ((e f h : List (Option ℕ)) → ReadsOut (draft.Given (record g { deaths = e; cuts = f; backs = h })) rest)
    → ReadsOut (draft.Given g) (death_items cuts backs c ds ++ rest)
walk_deaths g cuts backs c [] rest a b o le fit all later early then = then g.deaths g.cuts g.backs
walk_deaths g cuts backs c (None ∷ ds) rest a b o le fit all later early then =
    walk_deaths g cuts backs (c + 1) ds rest a b o (omega (arith, le)) (omega (arith, fit)) all.1
    (from_next (λ m k. ReturnsLater (row_at (None ∷ ds) m) (row_at backs k)) c later) early then
walk_deaths g cuts backs c (Some beat ∷ ds) rest a b o le fit all later early then = (
  record {
    faults = a;
    files = b;
    orders = o;
    next = le;
    inside = omega (arith, fit);
    early = all.0;
    later = subst (λ (k : ℕ). ReturnsLater (Some beat) (row_at backs k)) (here c) (later 0);
    in_run = early c;
  },
  walk_deaths (given_with g (item.Death (record { 0 = c }) beat (row_at cuts c) (row_at backs c))) cuts backs (c + 1) ds rest a b o
      (omega (arith, padded_with_length g.deaths c (Some beat) le)) (omega (arith, fit)) all.1
      (from_next (λ m k. ReturnsLater (row_at (Some beat ∷ ds) m) (row_at backs k)) c later) early then,
) where
  here : (c : ℕ) → c + 0 ≡ c
  here c = omega arith

walk_faults : (g : Given) (fs : List ReadFault) (rest : List Item)
    → length g.files ≡ 0 → length g.orders ≡ 0 → AllByRecursion (IsFault g.params g.beats) fs
    → ReadsOut (draft.Given (record g { faults = g.faults ++ fs })) rest
    → ReadsOut (draft.Given g) (map (λ f. item.Fault f) fs ++ rest)
walk_faults g [] rest b o all then =
    subst (λ (q : List ReadFault). ReadsOut (draft.Given (record g { faults = q })) rest) (append-nil g.faults) then
walk_faults g (f ∷ fs) rest b o all then = (
  (b, o, all.0),
  walk_faults (given_with g (item.Fault f)) fs rest b o all.1
      (subst (λ (q : List ReadFault). ReadsOut (draft.Given (record g { faults = q })) rest) (sym (append_assoc g.faults (f ∷ []) fs)) then),
)

walk_files : (g : Given) (is : List FileInfo) (rest : List Item)
    → length g.orders ≡ 0 → length g.files + length is < 2 ^ 32 → AllByRecursion (IsFile g.params) is
    → ReadsOut (draft.Given (record g { files = g.files ++ is })) rest
    → ReadsOut (draft.Given g) (map (λ f. item.File f) is ++ rest)
walk_files g [] rest o few all then =
    subst (λ (q : List FileInfo). ReadsOut (draft.Given (record g { files = q })) rest) (append-nil g.files) then
walk_files g (f ∷ is) rest o few all then = (
  (o, omega (arith, few), all.0),
  walk_files (given_with g (item.File f)) is rest o (omega (arith, few, length_push g.files f)) all.1
      (subst (λ (q : List FileInfo). ReadsOut (draft.Given (record g { files = q })) rest) (sym (append_assoc g.files (f ∷ []) is)) then),
)

walk_orders : (g : Given) (os : List Order) (rest : List Item)
    → AreOrders g.params g.beats g.files g.orders os
    → ((n b : ℕ) → ReadsOut (draft.Given (record g { orders = g.orders ++ os; starts = n; latest = b })) rest)
    → ReadsOut (draft.Given g) (map (λ o. item.Order o) os ++ rest)
walk_orders g [] rest all then =
    subst (λ (q : List Order). ReadsOut (draft.Given (record g { orders = q })) rest) (append-nil g.orders) (then g.starts g.latest)
walk_orders g (o ∷ os) rest all then = (
  all.0,
  walk_orders (given_with g (item.Order o)) os rest all.1
      (λ n b. subst (λ (q : List Order). ReadsOut (draft.Given (record g { orders = q; starts = n; latest = b })) rest) (sym (append_assoc g.orders (o ∷ []) os)) (then n b)),
)

walk_entries : (t : Told) (es : List Entry) (rest : List Item)
    → length t.digests ≡ 0 → IsJournal t.given.params t.given.beats es
    → ReadsOut (draft.Told (record t { current = t.current ++ es })) rest
    → ReadsOut (draft.Told t) (entry_items es ++ rest)
walk_entries t [] rest none all then =
    subst (λ (q : List Entry). ReadsOut (draft.Told (record t { current = q })) rest) (append-nil t.current) then
walk_entries t (e ∷ es) rest none all then = (
  (none, all.0),
  walk_entries (told_with t (item.Entry e)) es rest none all.1
      (subst (λ (q : List Entry). ReadsOut (draft.Told (record t { current = q })) rest) (sym (append_assoc t.current (e ∷ []) es)) then),
)

walk_nodes : (t : Told) (n : ℕ) (js : List (List Entry)) (rest : List Item)
    → length t.digests ≡ 0 → n ≡ length t.journals + 1 → n + length js ≡ node_count t.given.params
    → AllByRecursion (IsJournal t.given.params t.given.beats) js
    → ((all : List (List Entry)) (last : List Entry) → length all + 1 ≡ node_count t.given.params
    → ReadsOut (draft.Told (record t { journals = all; current = last })) rest)
    → ReadsOut (draft.Told t) (node_items n js ++ rest)
walk_nodes t n [] rest none here count all then = then t.journals t.current (omega (arith, here, count))
walk_nodes t n (j ∷ js) rest none here count all then =
    let next : Told = record t { journals = t.journals ++ t.current ∷ []; current = [] } in
    let read : Told = record next { current = j } in (
      (none, here, omega (arith, count)),
      subst (λ (q : List Item). ReadsOut (draft.Told next) q) (sym (append_assoc (entry_items j) (node_items (n + 1) js) rest))
          (walk_entries next j (node_items (n + 1) js ++ rest) none all.0
          (walk_nodes read (n + 1) js rest none (omega (arith, here, length_push t.journals t.current)) (omega (arith, count)) all.1 then)),
    )

walk_digests : (t : Told) (ds : List Digest32) (rest : List Item)
    → TellsAll t → length t.digests + length ds ≡ starts_in t.given.orders
    → ((all : List Digest32) → length all ≡ starts_in t.given.orders → ReadsOut (draft.Told (record t { digests = all })) rest)
    → ReadsOut (draft.Told t) (map (λ d. item.Digest d) ds ++ rest)
walk_digests t [] rest full count then = then t.digests (omega (arith, count))
walk_digests t (d ∷ ds) rest full count then = (
  (full, omega (arith, count)),
  walk_digests (told_with t (item.Digest d)) ds rest full (omega (arith, count, length_push t.digests d)) then,
)

-- the journals and digests of a run, from its first node on
walk_told : (g : Given) (j : List Entry) (js : List (List Entry)) (ds : List Digest32)
    → length (j ∷ js) ≡ node_count g.params → AllByRecursion (IsJournal g.params g.beats) (j ∷ js)
    → length ds ≡ starts_in g.orders
    → ReadsOut (draft.Given g) (node_items 0 (j ∷ js) ++ (map (λ d. item.Digest d) ds ++ item.End ∷ []))
walk_told g j js ds count all told =
    let rest : List Item = map (λ d. item.Digest d) ds ++ item.End ∷ [] in
    let first : Told = begun_told g in
    let read : Told = record first { current = j } in (
      refl,
      subst (λ (q : List Item). ReadsOut (draft.Told first) q) (sym (append_assoc (entry_items j) (node_items 1 js) rest))
          (walk_entries first j (node_items 1 js ++ rest) refl all.0
          (walk_nodes read 1 js rest refl refl (omega (arith, count)) all.1
          (λ journals last full.
          walk_digests (record read { journals = journals; current = last }) ds (item.End ∷ []) full (omega (arith, told))
          (λ digests same. ((full, same), tt))))),
    )

walk_journals : (g : Given) (js : List (List Entry)) (ds : List Digest32)
    → length js ≡ node_count g.params → AllByRecursion (IsJournal g.params g.beats) js
    → length ds ≡ starts_in g.orders
    → ReadsOut (draft.Given g) (node_items 0 js ++ (map (λ d. item.Digest d) ds ++ item.End ∷ []))
walk_journals g [] ds count all told = absurd (omega (arith, count))
walk_journals g (j ∷ js) ds count all told = walk_told g j js ds count all told

-- of each cub of a course the rows of deaths and returns say what the course does
rows_return : (c : Course) → IsCourse c → (m : ℕ) → ReturnsLater (row_at c.deaths m) (row_at c.backs (0 + m))
rows_return c h m = ⊎_elim
    (λ (low : m < c.plan.params.cubs).
    let cub : nat_lt m c.plan.params.cubs ≡ true = lt-ltb m c.plan.params.cubs low in
    let dead : death_of c m ≡ row_at c.deaths m = rw cub refl in
    let back : back_of c m ≡ row_at c.backs m = rw cub refl in
    here (rw (sym dead, sym back) (h.returns_later m)))
    (λ (high : c.plan.params.cubs ≤ m). here (rw (row-past c.backs m (omega (arith, high, h.backs))) tt))
    (cases_lt m c.plan.params.cubs)
  where
    here : ReturnsLater (row_at c.deaths m) (row_at c.backs m) → ReturnsLater (row_at c.deaths m) (row_at c.backs (0 + m))
    here r =
        let same : m ≡ 0 + m = omega arith in
        subst (λ (k : ℕ). ReturnsLater (row_at c.deaths m) (row_at c.backs k)) same r

    row-past : (row : List (Option ℕ)) (n : ℕ) → length row ≤ n → row_at row n ≡ None
    row-past row n le = rw (slice_get_past row n le) refl

-- what each element of a row says holds of each place of it
early_at : (beats : ℕ) (backs : List (Option ℕ)) → AllByRecursion (ReturnsIn beats) backs → (k : ℕ) → ReturnsIn beats (row_at backs k)
early_at beats [] all k = tt
early_at beats (b ∷ bs) all zero = all.0
early_at beats (b ∷ bs) all (suc k) = early_at beats bs all.1 k

pub walk : (k : Kept) → IsWritable k → ReadsOut draft.Empty (items_in (parts_of k))
unfolding items_in
walk k w =
    let c = k.course in
    let first : Given = opened c.plan.params c.beats c.delay c.offsets in
    let digests : List Item = map (λ d. item.Digest d) k.digests in (
      tt,
      (
        c.plan.sound,
        (
          (w.lasting, w.course.beats),
          (
            w.course.delay,
            (
              (w.course.offsets, w.course.skewed),
              subst (λ (q : List Item). ReadsOut (draft.Given first) q)
                  (sym (spread (death_items c.cuts c.backs 0 c.deaths) (map (λ f. item.Fault f) c.faults) (map (λ f. item.File f) k.catalogue.files)
                  (map (λ o. item.Order o) k.orders) (node_items 0 k.journals) digests (item.End ∷ [])))
                  (walk_deaths first c.cuts c.backs 0 c.deaths _ refl refl refl (omega arith) (omega (arith, w.course.deaths)) w.deaths
                  (λ m. rows_return c w.course m) (early_at c.beats c.backs w.returns)
                  (λ deaths cuts backs. walk_faults (record first { deaths = deaths; cuts = cuts; backs = backs }) c.faults _ refl refl w.faults
                  (walk_files (record first { deaths = deaths; cuts = cuts; backs = backs; faults = c.faults }) k.catalogue.files _ refl (omega (arith, k.catalogue.sound.count)) w.files
                  (walk_orders (record first { deaths = deaths; cuts = cuts; backs = backs; faults = c.faults; files = k.catalogue.files }) k.orders _ w.orders
                  (λ n b. walk_journals (record first { deaths = deaths; cuts = cuts; backs = backs; faults = c.faults; files = k.catalogue.files; orders = k.orders; starts = n; latest = b })
                  k.journals k.digests w.nodes w.journals w.digests))))),
            ),
          ),
        ),
      ),
    )
