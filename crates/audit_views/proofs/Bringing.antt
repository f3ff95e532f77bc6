-- What was brought to cubs is told by a table, and what they take and send is judged by it.
use Rattle.std.proofs.Common.{◌≡◌, ℕ, ◌+◌, ◌-◌, ◌<◌, ◌≤◌, Bool, true, false, ◌&&◌, ◌||◌, IsTrue, nat_lt, nat_le, cond, List, [], ◌∷◌, ◌++◌, refl, sym, ap, subst, ◌∙◌, ⊎_elim, inl, inr, arith}
use Rattle.std.specs.Prelude.{◌==◌, ◌↔◌, ◌⊎◌}
use Rattle.std.specs.List.{list_any}
use Rattle.std.proofs.lemmas.Bool.{eqb-true, eq-eqb, false≢true, both_ways}
use Rattle.tiger_base.specs.declared.number.LinkNo.{LinkNo}
use Rattle.tiger_base.specs.declared.message.Note.{Note}
use Rattle.tiger_base.specs.declared.message.Note.TheVariants as note
use Rattle.tiger_base.specs.declared.tenancy.Rec.{Rec}
use Rattle.tiger_base.specs.declared.tenancy.State.{State}
use Rattle.tiger_base.specs.declared.tenancy.Tenancy.{Tenancy}
use Rattle.tiger_base.specs.Records.{own_of}
use Rattle.slot_plan.specs.declared.params.Params.{Params}
use Rattle.node_kit.specs.declared.journal.Entry.{Entry}
use Rattle.node_kit.specs.declared.journal.What.{What}
use Rattle.node_kit.specs.declared.journal.What.TheVariants as what
use Rattle.node_kit.specs.Links.{links_of, ends_of}
use Rattle.run_facts.specs.Order.{Noted}
use Rattle.run_model.specs.Fronts.{AnyByRecursion}
use Rattle.run_model.specs.Views.{same_record}
use Rattle.run_model.specs.Moments.{Moment, next_moment, opening, view_of}
use Rattle.run_model.specs.Parts.{Brings, EntriesAreLocal, IsAtOrBefore, IsForCub, IsLocal, IsLocalEntry, IsLocalRecord, IsOwnRecordFor, is_from_before}
use Rattle.run_model.proofs.Reflects.{and_both, and_left, and_right, or_either, or_first, or_second, any_found, any_gives, at_most, less}
use Rattle.audit_frame.specs.Records.{is_same}
use Rattle.audit_frame.specs.declared.records.Held.{Held}
use Rattle.audit_frame.proofs.Added.{any_before, any_end, any_more}
use Rattle.audit_frame.proofs.Deciding.{GoesBySteps}
use Rattle.audit_frame.proofs.Recorded.{one_record, record_itself}
use Rattle.audit_frame.proofs.Spans.{same_test}
use Rattle.audit_views.specs.Standing.{has_record}
use Rattle.audit_views.specs.Local.{BringsAt, TellsBrought, has_by, is_soon, state_brings, note_brings}
use Rattle.audit_views.specs.Views.{is_in_view, TellsRecords}
use Rattle.audit_views.proofs.Members.{stands}

pub local_goes_by_steps : (p : Params) → GoesBySteps (EntriesAreLocal p) (IsLocal p) next_moment opening
local_goes_by_steps p log = ((λ h. h), (λ h. h))

-- ---- lists

any_weaker : {X : Type 0} (P Q : X → Type 0) (xs : List X) → ((x : X) → P x → Q x) → AnyByRecursion P xs → AnyByRecursion Q xs
any_weaker P Q [] f h = absurd h
any_weaker P Q (x ∷ xs) f h = ⊎_elim (λ a. inl (f x a)) (λ a. inr (any_weaker P Q xs f a)) h

any_split : {X : Type 0} (P Q R : X → Type 0) (D : Type 0) (xs : List X) → ((x : X) → P x → Q x ⊎ (D × R x)) → AnyByRecursion P xs
    → AnyByRecursion Q xs ⊎ (D × AnyByRecursion R xs)
any_split P Q R D [] f h = absurd h
any_split P Q R D (x ∷ xs) f h = ⊎_elim
    (λ a. ⊎_elim (λ q. inl (inl q)) (λ q. inr (q.0, inl q.1)) (f x a))
    (λ a. ⊎_elim (λ q. inl (inr q)) (λ q. inr (q.0, inr q.1)) (any_split P Q R D xs f a))
    h

-- ---- at a visit or before it

or_before : (visit given : ℕ) → IsAtOrBefore visit given → (visit ≡ given) ⊎ ((0 < given) × (visit ≡ given - 1))
or_before visit given h = ⊎_elim (λ e. inl e) (λ e. inr (omega (arith, e), omega (arith, e))) h

or_at : (visit given : ℕ) → 0 < given → visit ≡ given - 1 → IsAtOrBefore visit given
or_at visit given some e = inr (omega (arith, some, e))

at_or_before : (p : Params) (c : ℕ) (t : Tenancy) (visit : ℕ) (w : What) → Brings p c t visit w
    → BringsAt p c t visit w ⊎ ((0 < visit) × BringsAt p c t (visit - 1) w)
at_or_before p c t visit (what.Got link (note.ViewerState s)) h = ⊎_elim
    (λ e. inl (h.0, e, h.2))
    (λ e. inr (e.0, (h.0, e.1, h.2)))
    (or_before s.visit visit h.1)
at_or_before p c t visit (what.Put put) h = ⊎_elim
    (λ e. inl (h.0, e))
    (λ e. inr (e.0, (h.0, e.1)))
    (or_before t.first visit h.1)
at_or_before p c t visit other h = absurd h

brings_now : (p : Params) (c : ℕ) (t : Tenancy) (visit : ℕ) (w : What) → BringsAt p c t visit w → Brings p c t visit w
brings_now p c t visit (what.Got link (note.ViewerState s)) h = (h.0, inl h.1, h.2)
brings_now p c t visit (what.Put put) h = (h.0, inl h.1)
brings_now p c t visit other h = absurd h

brings_before : (p : Params) (c : ℕ) (t : Tenancy) (visit : ℕ) (w : What) → 0 < visit → BringsAt p c t (visit - 1) w → Brings p c t visit w
brings_before p c t visit (what.Got link (note.ViewerState s)) some h = (h.0, or_at s.visit visit some h.1, h.2)
brings_before p c t visit (what.Put put) some h = (h.0, or_at t.first visit some h.1)
brings_before p c t visit other some h = absurd h

came_judged : (p : Params) (brought : List Held) (m : Moment) (c : ℕ) (t : Tenancy) (visit : ℕ) (r : Bool) → r ≡ has_by c t visit brought
    → TellsBrought p brought m → IsTrue r ↔ AnyByRecursion (λ e. Brings p c t visit e.what) (m.journal c)
came_judged p brought m c t visit r is h =
    let here = has_record c (own_of t visit) brought in
    let before = has_record c (own_of t (visit - 1)) brought in
    let now = λ (e : Entry). BringsAt p c t visit e.what in
    let then = λ (e : Entry). BringsAt p c t (visit - 1) e.what in
    let all = λ (e : Entry). Brings p c t visit e.what in (
      (λ q. ⊎_elim
          (λ a. any_weaker now all (m.journal c) (λ e b. brings_now p c t visit e.what b) ((h c t visit).0 a))
          (λ a.
          let some = (less 0 visit).0 (and_left (nat_lt 0 visit) before a) in
          any_weaker then all (m.journal c) (λ e b. brings_before p c t visit e.what some b)
          ((h c t (visit - 1)).0 (and_right (nat_lt 0 visit) before a)))
          (or_either here (nat_lt 0 visit && before) (sym is ∙ q))),
      (λ q. is ∙ ⊎_elim
          (λ a. or_first here (nat_lt 0 visit && before) ((h c t visit).1 a))
          (λ a. or_second here (nat_lt 0 visit && before)
          (and_both (nat_lt 0 visit) before ((less 0 visit).1 a.0) ((h c t (visit - 1)).1 a.1)))
          (any_split all now then (0 < visit) (m.journal c) (λ e b. at_or_before p c t visit e.what b) q)),
    )

-- ---- what is sent

abbrev IsOwnAt : Tenancy → ℕ → Rec → Type 0
IsOwnAt t visit q = q ≡ own_of t visit

own_at : (s : State) (q : Rec) → IsOwnRecordFor s q → IsOwnAt s.tenancy s.visit q ⊎ ((0 < s.visit) × IsOwnAt s.tenancy (s.visit - 1) q)
own_at s q h = ⊎_elim
    (λ e. inl (λ i. record { tenancy = h.0 i; visit = e i; kind = h.1 i }))
    (λ e. inr (e.0, λ i. record { tenancy = h.0 i; visit = e.1 i; kind = h.1 i }))
    (or_before q.visit s.visit h.2)

is_own_now : (s : State) (q : Rec) → IsOwnAt s.tenancy s.visit q → IsOwnRecordFor s q
is_own_now s q e = (ap (λ (k : Rec). k.tenancy) e, ap (λ (k : Rec). k.kind) e, inl (ap (λ (k : Rec). k.visit) e))

is_own_before : (s : State) (q : Rec) → 0 < s.visit → IsOwnAt s.tenancy (s.visit - 1) q → IsOwnRecordFor s q
is_own_before s q some e =
    (ap (λ (k : Rec). k.tenancy) e, ap (λ (k : Rec). k.kind) e, or_at q.visit s.visit some (ap (λ (k : Rec). k.visit) e))

seen_there : (p : Params) (held : List Held) (m : Moment) (c : ℕ) (k : Rec) → TellsRecords p held m
    → IsTrue (has_record c k held) → AnyByRecursion (λ q. q ≡ k) (view_of m c)
seen_there p held m c k h t =
    let seen : IsTrue (is_in_view p m c k) = sym (h c k) ∙ t in
    any_found (λ q. q ≡ k) (same_record k) (λ q e. sym (one_record k q e)) (m.records c)
    (and_right (nat_lt c p.cubs) (list_any (same_record k) (m.records c)) seen)

there_seen : (p : Params) (held : List Held) (m : Moment) (c : ℕ) (k : Rec) → TellsRecords p held m → c < p.cubs
    → AnyByRecursion (λ q. q ≡ k) (view_of m c) → IsTrue (has_record c k held)
there_seen p held m c k h low any = h c k ∙ stands p m c k low
    (any_gives (λ q. q ≡ k) (same_record k) (λ q same. subst (λ (y : Rec). IsTrue (same_record k y)) (sym same) (record_itself k)) (m.records c) any)

sent_judged : (p : Params) (held : List Held) (m : Moment) (c : ℕ) (s : State) (r : Bool) → c < p.cubs
    → r ≡ has_by c s.tenancy s.visit held → TellsRecords p held m → IsTrue r ↔ AnyByRecursion (IsOwnRecordFor s) (view_of m c)
sent_judged p held m c s r low is h =
    let here = has_record c (own_of s.tenancy s.visit) held in
    let before = has_record c (own_of s.tenancy (s.visit - 1)) held in (
      (λ q. ⊎_elim
          (λ a. any_weaker (IsOwnAt s.tenancy s.visit) (IsOwnRecordFor s) (view_of m c) (is_own_now s)
          (seen_there p held m c (own_of s.tenancy s.visit) h a))
          (λ a.
          let some = (less 0 s.visit).0 (and_left (nat_lt 0 s.visit) before a) in
          any_weaker (IsOwnAt s.tenancy (s.visit - 1)) (IsOwnRecordFor s) (view_of m c) (λ k e. is_own_before s k some e)
          (seen_there p held m c (own_of s.tenancy (s.visit - 1)) h (and_right (nat_lt 0 s.visit) before a)))
          (or_either here (nat_lt 0 s.visit && before) (sym is ∙ q))),
      (λ q. is ∙ ⊎_elim
          (λ a. or_first here (nat_lt 0 s.visit && before) (there_seen p held m c (own_of s.tenancy s.visit) h low a))
          (λ a. or_second here (nat_lt 0 s.visit && before)
          (and_both (nat_lt 0 s.visit) before ((less 0 s.visit).1 a.0) (there_seen p held m c (own_of s.tenancy (s.visit - 1)) h low a.1)))
          (any_split (IsOwnRecordFor s) (IsOwnAt s.tenancy s.visit) (IsOwnAt s.tenancy (s.visit - 1)) (0 < s.visit) (view_of m c) (own_at s) q)),
    )

pub state_judged : (p : Params) (held : List Held) (m : Moment) (c reading : ℕ) (link : LinkNo) (n : Note) (s : State)
    (r : Bool) → n ≡ note.ViewerState s → c < p.cubs → r ≡ has_by c s.tenancy s.visit held → TellsRecords p held m
    → IsTrue r ↔ IsLocalEntry p m c reading (what.Sent link n)
state_judged p held m c reading link n s r is low e h =
    subst (λ (k : Note). IsTrue r ↔ IsLocalEntry p m c reading (what.Sent link k)) (sym is) (sent_judged p held m c s r low e h)

pub other_note_judged : (p : Params) (m : Moment) (c reading : ℕ) (link : LinkNo) (n : Note)
    → ((s : State) → n ≡ note.ViewerState s → ⊥) → IsTrue true ↔ IsLocalEntry p m c reading (what.Sent link n)
other_note_judged p m c reading link (note.ViewerState s) a = absurd (a s refl)
other_note_judged p m c reading link other a = ((λ h. tt), (λ h. refl))

-- ---- what is taken

pub too_much : (left right most : ℕ) → most < left → false ≡ nat_le (left + right) most
too_much left right most over = go (nat_le (left + right) most) refl where
  go : (b : Bool) → nat_le (left + right) most ≡ b → false ≡ b
  go true e = let le = (at_most (left + right) most).0 e in absurd (omega (arith, le, over))
  go false e = refl

pub rest_is : (left right most : ℕ) → left ≤ most → nat_le right (most - left) ≡ nat_le (left + right) most
rest_is left right most fits = same_test (nat_le right (most - left)) (nat_le (left + right) most)
    (λ h. let le = (at_most right (most - left)).0 h in (at_most (left + right) most).1 (omega (arith, le, fits)))
    (λ h. let le = (at_most (left + right) most).0 h in (at_most right (most - left)).1 (omega (arith, le, fits)))

pub record_judged : (p : Params) (brought : List Held) (m : Moment) (c reading : ℕ) (q : Rec) (mine came soon r : Bool)
    → r ≡ (mine && (came && soon)) → IsTrue mine ↔ IsForCub p c q.kind q.visit → came ≡ has_by c q.tenancy q.visit brought
    → soon ≡ is_soon p reading q → TellsBrought p brought m → IsTrue r ↔ IsLocalRecord p m c reading q
record_judged p brought m c reading q mine came soon r is own by early h =
    let judged = came_judged p brought m c q.tenancy q.visit came by h in (
      (λ t.
          let all : IsTrue (mine && (came && soon)) = sym is ∙ t in
          let rest = and_right mine (came && soon) all in
          record {
            for_cub = own.0 (and_left mine (came && soon) all);
            came = judged.0 (and_left came soon rest);
            soon = (at_most _ _).0 (sym early ∙ and_right came soon rest);
          }),
      (λ l. is ∙ and_both mine (came && soon) (own.1 l.for_cub)
          (and_both came soon (judged.1 l.came) (early ∙ (at_most _ _).1 l.soon))),
    )

-- ---- an entry

pub cub_judged : (p : Params) (m : Moment) (x : Noted) (w : What) (r : Bool) → x.entry.what ≡ w → x.node < p.cubs
    → IsTrue r ↔ IsLocalEntry p m x.node x.entry.stamp.reading w → IsTrue r ↔ IsLocal p m x
cub_judged p m x w r is low judged = (
  (λ t other. subst (λ (k : What). IsLocalEntry p m x.node x.entry.stamp.reading k) (sym is) (judged.0 t)),
  (λ h. judged.1 (subst (λ (k : What). IsLocalEntry p m x.node x.entry.stamp.reading k) is (h low))),
)

pub other_judged : (p : Params) (m : Moment) (x : Noted) → ((q : Rec) → x.entry.what ≡ what.Took q → ⊥)
    → ((link : LinkNo) (n : Note) → x.entry.what ≡ what.Sent link n → ⊥) → IsTrue true ↔ IsLocal p m x
other_judged p m x a b = ((λ t low. go x.entry.what a b), (λ h. refl)) where
  go : (w : What) → ((q : Rec) → w ≡ what.Took q → ⊥) → ((link : LinkNo) (n : Note) → w ≡ what.Sent link n → ⊥)
      → IsLocalEntry p m x.node x.entry.stamp.reading w
  go (what.Took q) a b = absurd (a q refl)
  go (what.Sent link n) a b = absurd (b link n refl)
  go other a b = tt

-- ---- what is brought by one entry more

brought_more : (p : Params) (old new : List Held) (m : Moment) (x : Noted)
    → ((c : ℕ) (t : Tenancy) (visit : ℕ) → IsTrue (has_record c (own_of t visit) new)
    ↔ (IsTrue (has_record c (own_of t visit) old) ⊎ ((x.node ≡ c) × BringsAt p c t visit x.entry.what)))
    → TellsBrought p old m → TellsBrought p new (next_moment m x)
unfolding next_moment
brought_more p old new m x more h c t visit = go (x.node == c) refl where
  go : (b : Bool) → (x.node == c) ≡ b
      → IsTrue (has_record c (own_of t visit) new)
      ↔ AnyByRecursion (λ e. BringsAt p c t visit e.what) (cond b (m.journal c ++ x.entry ∷ []) (m.journal c))
  go true e = (
    (λ q. ⊎_elim
        (λ a. any_before (λ e. BringsAt p c t visit e.what) (m.journal c) (x.entry ∷ []) ((h c t visit).0 a))
        (λ a. any_end (λ e. BringsAt p c t visit e.what) (m.journal c) x.entry a.1)
        ((more c t visit).0 q)),
    (λ q. (more c t visit).1 (⊎_elim
        (λ a. inl ((h c t visit).1 a))
        (λ a. inr (eqb-true x.node c e, a))
        (any_more (λ e. BringsAt p c t visit e.what) (m.journal c) x.entry q))),
  )
  go false e = (
    (λ q. ⊎_elim
        (λ a. (h c t visit).0 a)
        (λ a. absurd (both_ways (x.node == c) e (eq-eqb x.node c a.0)))
        ((more c t visit).0 q)),
    (λ q. (more c t visit).1 (inl ((h c t visit).1 q))),
  )

-- one record more, if an entry brings it
added_more : (p : Params) (n : ℕ) (w : What) (old new : List Held) (b : ℕ → Rec → Bool)
    → ((c : ℕ) (q : Rec) → has_record c q new ≡ (has_record c q old || b c q))
    → ((c : ℕ) (t : Tenancy) (visit : ℕ) → IsTrue (b c (own_of t visit)) ↔ ((n ≡ c) × BringsAt p c t visit w))
    → (c : ℕ) (t : Tenancy) (visit : ℕ) → IsTrue (has_record c (own_of t visit) new)
    ↔ (IsTrue (has_record c (own_of t visit) old) ⊎ ((n ≡ c) × BringsAt p c t visit w))
added_more p n w old new b added brings c t visit =
    let q = own_of t visit in (
      (λ h. ⊎_elim (λ a. inl a) (λ a. inr ((brings c t visit).0 a)) (or_either (has_record c q old) (b c q) (sym (added c q) ∙ h))),
      (λ h. added c q ∙ ⊎_elim
          (λ a. or_first (has_record c q old) (b c q) a)
          (λ a. or_second (has_record c q old) (b c q) ((brings c t visit).1 a)) h),
    )

-- whether two own records are one
own_same : (n c : ℕ) (s t : Tenancy) (at visit : ℕ) → IsTrue (is_same n (own_of s at) c (own_of t visit)) ↔ ((n ≡ c) × ((s ≡ t) × (at ≡ visit)))
own_same n c s t at visit = (
  (λ h.
      let same = one_record (own_of s at) (own_of t visit) (and_right (n == c) (same_record (own_of s at) (own_of t visit)) h) in (
        eqb-true n c (and_left (n == c) (same_record (own_of s at) (own_of t visit)) h),
        (ap (λ (k : Rec). k.tenancy) same, ap (λ (k : Rec). k.visit) same),
      )),
  (λ h. and_both (n == c) (same_record (own_of s at) (own_of t visit)) (eq-eqb n c h.0)
      (subst (λ (k : Rec). IsTrue (same_record (own_of s at) k)) (λ i. own_of (h.1.0 i) (h.1.1 i)) (record_itself (own_of s at)))),
)

put_brings : (p : Params) (n c : ℕ) (w : What) (put t : Tenancy) (visit : ℕ) → w ≡ what.Put put
    → IsTrue (is_same n (own_of put put.first) c (own_of t visit)) ↔ ((n ≡ c) × BringsAt p c t visit w)
put_brings p n c w put t visit is =
    subst (λ (k : What). IsTrue (is_same n (own_of put put.first) c (own_of t visit)) ↔ ((n ≡ c) × BringsAt p c t visit k)) (sym is)
    (let same = own_same n c put t put.first visit in (
      (λ h. let e = same.0 h in (e.0, (e.1.0, ap (λ (k : Tenancy). k.first) (sym e.1.0) ∙ e.1.1))),
      (λ h. same.1 (h.0, (h.1.0, ap (λ (k : Tenancy). k.first) h.1.0 ∙ h.1.1))),
    ))

state_gives : (p : Params) (n c : ℕ) (link : LinkNo) (s : State) (t : Tenancy) (visit : ℕ)
    → IsTrue (state_brings p n link.0 s c (own_of t visit)) ↔ ((n ≡ c) × BringsAt p c t visit (what.Got link (note.ViewerState s)))
state_gives p n c link s t visit =
    let same = own_same n c s.tenancy t s.visit visit in
    let from = is_from_before p n (ends_of (links_of p) link.0) in
    let one = is_same n (own_of s.tenancy s.visit) c (own_of t visit) in (
      (λ h.
          let e = same.0 (and_right from one h) in
          (e.0, (e.1.0, e.1.1, subst (λ (k : ℕ). IsTrue (is_from_before p k (ends_of (links_of p) link.0))) e.0 (and_left from one h)))),
      (λ h. and_both from one
          (subst (λ (k : ℕ). IsTrue (is_from_before p k (ends_of (links_of p) link.0))) (sym h.0) h.1.2)
          (same.1 (h.0, (h.1.0, h.1.1)))),
    )

note_gives : (p : Params) (n c : ℕ) (link : LinkNo) (k : Note) (t : Tenancy) (visit : ℕ)
    → IsTrue (note_brings p n link.0 k c (own_of t visit)) ↔ ((n ≡ c) × BringsAt p c t visit (what.Got link k))
note_gives p n c link (note.ViewerState s) t visit = state_gives p n c link s t visit
note_gives p n c link other t visit = ((λ h. absurd (false≢true h)), (λ h. absurd h.1))

got_brings : (p : Params) (n c : ℕ) (w : What) (link : LinkNo) (k : Note) (t : Tenancy) (visit : ℕ) → w ≡ what.Got link k
    → IsTrue (note_brings p n link.0 k c (own_of t visit)) ↔ ((n ≡ c) × BringsAt p c t visit w)
got_brings p n c w link k t visit is =
    subst (λ (v : What). IsTrue (note_brings p n link.0 k c (own_of t visit)) ↔ ((n ≡ c) × BringsAt p c t visit v)) (sym is)
    (note_gives p n c link k t visit)

-- ---- the table, for each kind of entry

pub put_brought : (p : Params) (old new : List Held) (m : Moment) (x : Noted) (t : Tenancy) → x.entry.what ≡ what.Put t
    → ((c : ℕ) (q : Rec) → has_record c q new ≡ (has_record c q old || is_same x.node (own_of t t.first) c q))
    → TellsBrought p old m → TellsBrought p new (next_moment m x)
put_brought p old new m x t is added =
    brought_more p old new m x (added_more p x.node x.entry.what old new (is_same x.node (own_of t t.first)) added
    (λ c u visit. put_brings p x.node c x.entry.what t u visit is))

pub got_brought : (p : Params) (old new : List Held) (m : Moment) (x : Noted) (link : LinkNo) (k : Note) → x.entry.what ≡ what.Got link k
    → ((c : ℕ) (q : Rec) → has_record c q new ≡ (has_record c q old || note_brings p x.node link.0 k c q))
    → TellsBrought p old m → TellsBrought p new (next_moment m x)
got_brought p old new m x link k is added =
    brought_more p old new m x (added_more p x.node x.entry.what old new (note_brings p x.node link.0 k) added
    (λ c u visit. got_brings p x.node c x.entry.what link k u visit is))

quiet : (p : Params) (c : ℕ) (t : Tenancy) (visit : ℕ) (w : What) → ((put : Tenancy) → w ≡ what.Put put → ⊥)
    → ((link : LinkNo) (k : Note) → w ≡ what.Got link k → ⊥) → BringsAt p c t visit w → ⊥
quiet p c t visit (what.Put put) a b h = a put refl
quiet p c t visit (what.Got link k) a b h = b link k refl
quiet p c t visit other a b h = h

pub none_brought : (p : Params) (brought : List Held) (m : Moment) (x : Noted) → ((t : Tenancy) → x.entry.what ≡ what.Put t → ⊥)
    → ((link : LinkNo) (k : Note) → x.entry.what ≡ what.Got link k → ⊥) → TellsBrought p brought m
    → TellsBrought p brought (next_moment m x)
none_brought p brought m x a b = brought_more p brought brought m x
    (λ c t visit. ((λ q. inl q), (λ q. ⊎_elim (λ q. q) (λ q. absurd (quiet p c t visit x.entry.what a b q.1)) q)))

pub opening_brought : (p : Params) (brought : List Held) → brought ≡ [] → TellsBrought p brought opening
opening_brought p brought is = rw is (λ n t visit. ((λ h. absurd (false≢true h)), (λ h. absurd h)))
