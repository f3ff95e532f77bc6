-- What lists of outputs make of the records that a journal tells.
use Rattle.std.proofs.Common.{◌≡◌, ℕ, List, [], ◌∷◌, ◌++◌, true, false, not, refl, ap, subst, ⊎_elim, inl, inr}
use Rattle.std.specs.List.{AllByRecursion}
use Rattle.std.proofs.lemmas.Bool.{eqb-true, eq-eqb, and_parts, and_from, not-true}
use Rattle.tiger_base.specs.declared.tenancy.Kind.{Kind}
use Rattle.tiger_base.specs.declared.tenancy.Kind.TheVariants.{Own, Backup}
use Rattle.tiger_base.specs.declared.tenancy.Rec.{Rec}
use Rattle.tiger_base.specs.declared.tenancy.Tenancy.{Tenancy}
use Rattle.tiger_base.specs.declared.message.Msg.{Msg}
use Rattle.tiger_base.specs.declared.message.Msg.TheVariants as msg
use Rattle.node_kit.specs.declared.journal.What.TheVariants as what
use Rattle.node_kit.specs.declared.outbox.Out.{Out}
use Rattle.node_kit.specs.declared.outbox.Out.TheVariants as out
use Rattle.run_model.specs.Fronts.{AnyByRecursion}
use Rattle.run_model.specs.Parts.{IsOwnRecordFor}
use Rattle.run_model.specs.Views.{same_kind, same_tenancy, same_record, recorded}
use Rattle.lists.specs.Elements.{In}
use Rattle.lists.proofs.Elements.{in_filter, from_filter}
use Rattle.proof_lives.specs.Records.{recorded_by, AreFromRecords}

-- records are the same if the test of the journal finds them so
pub kind_is : (a b : Kind) → same_kind a b ≡ true → a ≡ b
kind_is Own Own e = refl
kind_is Backup Backup e = refl
kind_is Own Backup e = absurd (cc)
kind_is Backup Own e = absurd (cc)

pub kind_same : (k : Kind) → same_kind k k ≡ true
kind_same Own = refl
kind_same Backup = refl

abbrev pub tenancy_by : ℕ → ℕ → ℕ → ℕ → ℕ → Tenancy
tenancy_by v f s n l = record { instance = record { 0 = v }; file = record { 0 = f }; slot = record { 0 = s }; first = n; last = l }

pub tenancy_is : (t u : Tenancy) → same_tenancy t u ≡ true → t ≡ u
tenancy_is t u e =
    let last = and_parts _ _ e in
    let first = and_parts _ _ last.0 in
    let slot = and_parts _ _ first.0 in
    let file = and_parts _ _ slot.0 in
    let e1 = eqb-true t.instance.0 u.instance.0 file.0 in
    let e2 = eqb-true t.file.0 u.file.0 file.1 in
    let e3 = eqb-true t.slot.0 u.slot.0 slot.1 in
    let e4 = eqb-true t.first u.first first.1 in
    let e5 = eqb-true t.last u.last last.1 in
    let z : tenancy_by t.instance.0 t.file.0 t.slot.0 t.first t.last ≡ tenancy_by u.instance.0 u.file.0 u.slot.0 u.first u.last = cc in
    z

abbrev pub record_by : Tenancy → ℕ → Kind → Rec
record_by t n k = record { tenancy = t; visit = n; kind = k }

pub record_is : (r q : Rec) → same_record r q ≡ true → r ≡ q
unfolding same_record
record_is r q e =
    let kind = and_parts _ _ e in
    let visit = and_parts _ _ kind.0 in
    let e1 = tenancy_is r.tenancy q.tenancy visit.0 in
    let e2 = eqb-true r.visit q.visit visit.1 in
    let e3 = kind_is r.kind q.kind kind.1 in
    let z : record_by r.tenancy r.visit r.kind ≡ record_by q.tenancy q.visit q.kind = cc in
    z

pub record_same : (r : Rec) → same_record r r ≡ true
unfolding same_record
record_same r =
    let t = r.tenancy in
    and_from _ _
    (and_from _ _
    (and_from _ _
    (and_from _ _ (and_from _ _ (and_from _ _ (eq-eqb t.instance.0 t.instance.0 refl) (eq-eqb t.file.0 t.file.0 refl)) (eq-eqb t.slot.0 t.slot.0 refl)) (eq-eqb t.first t.first refl))
    (eq-eqb t.last t.last refl))
    (eq-eqb r.visit r.visit refl))
    (kind_same r.kind)

-- one list of outputs, and then another
pub recorded_append : (xs ys : List (Out Msg)) (rs : List Rec) → recorded_by (xs ++ ys) rs ≡ recorded_by ys (recorded_by xs rs)
recorded_append [] ys rs = refl
recorded_append (out.Act w ∷ os) ys rs = recorded_append os ys (recorded rs w)
recorded_append (out.Send link m ∷ os) ys rs = recorded_append os ys rs

pub from_append : (xs ys : List (Out Msg)) (rs : List Rec) → AreFromRecords xs rs → AreFromRecords ys (recorded_by xs rs) → AreFromRecords (xs ++ ys) rs
from_append [] ys rs one two = two
from_append (out.Act w ∷ os) ys rs one two = from_append os ys (recorded rs w) one two
from_append (out.Send link (msg.ViewerState s) ∷ os) ys rs one two = (one.0, from_append os ys rs one.1 two)
from_append (out.Send link other ∷ os) ys rs one two = from_append os ys rs one two

-- P holds of some element if it holds of a given one
pub any_in : {X : Type 0} (P : X → Type 0) (x : X) (xs : List X) → In x xs → P x → AnyByRecursion P xs
any_in P x [] i h = absurd i
any_in P x (y ∷ ys) i h = ⊎_elim (λ e. inl (subst P e h)) (λ k. inr (any_in P x ys k h)) i

-- ---- outputs that leave the records as they are

-- an output takes and drops no record, tells of no death or return, and if it is a state, that follows from one of these records
abbrev pub IsQuiet : List Rec → Out Msg → Type 0
IsQuiet rs (out.Act (what.Took r)) = ⊥
IsQuiet rs (out.Act (what.Dropped r)) = ⊥
IsQuiet rs (out.Act what.Died) = ⊥
IsQuiet rs (out.Act what.Returned) = ⊥
IsQuiet rs (out.Send link (msg.ViewerState s)) = AnyByRecursion (IsOwnRecordFor s) rs
IsQuiet rs other = Unit {0}

pub quiet_recorded : (outs : List (Out Msg)) (rs : List Rec) → AllByRecursion (IsQuiet rs) outs → recorded_by outs rs ≡ rs
quiet_recorded [] rs h = refl
quiet_recorded (out.Act (what.Took r) ∷ os) rs h = absurd h.0
quiet_recorded (out.Act (what.Dropped r) ∷ os) rs h = absurd h.0
quiet_recorded (out.Act what.Died ∷ os) rs h = absurd h.0
quiet_recorded (out.Act what.Returned ∷ os) rs h = absurd h.0
quiet_recorded (out.Act other ∷ os) rs h = quiet_recorded os rs h.1
quiet_recorded (out.Send link m ∷ os) rs h = quiet_recorded os rs h.1

pub quiet_from : (outs : List (Out Msg)) (rs : List Rec) → AllByRecursion (IsQuiet rs) outs → AreFromRecords outs rs
quiet_from [] rs h = tt
quiet_from (out.Act (what.Took r) ∷ os) rs h = absurd h.0
quiet_from (out.Act (what.Dropped r) ∷ os) rs h = absurd h.0
quiet_from (out.Act what.Died ∷ os) rs h = absurd h.0
quiet_from (out.Act what.Returned ∷ os) rs h = absurd h.0
quiet_from (out.Act other ∷ os) rs h = quiet_from os rs h.1
quiet_from (out.Send link (msg.ViewerState s) ∷ os) rs h = (h.0, quiet_from os rs h.1)
quiet_from (out.Send link other ∷ os) rs h = quiet_from os rs h.1

-- ---- outputs that drop records, and neither take any nor send states nor tell of a death or a return

-- if an output drops a record, this holds of it
abbrev pub IsDrop : (Rec → Type 0) → Out Msg → Type 0
IsDrop P (out.Act (what.Took r)) = ⊥
IsDrop P (out.Act (what.Dropped r)) = P r
IsDrop P (out.Act what.Died) = ⊥
IsDrop P (out.Act what.Returned) = ⊥
IsDrop P (out.Send link (msg.ViewerState s)) = ⊥
IsDrop P other = Unit {0}

abbrev pub AreDrops : (Rec → Type 0) → List (Out Msg) → Type 0
AreDrops P outs = AllByRecursion (IsDrop P) outs

pub drops_from : (P : Rec → Type 0) (outs : List (Out Msg)) (rs : List Rec) → AreDrops P outs → AreFromRecords outs rs
drops_from P [] rs h = tt
drops_from P (out.Act w ∷ os) rs h = drops_from P os (recorded rs w) h.1
drops_from P (out.Send link (msg.ViewerState s) ∷ os) rs h = absurd h.0
drops_from P (out.Send link other ∷ os) rs h = drops_from P os rs h.1

-- another record than those that are dropped is told of after them
abbrev pub IsOther : Rec → Rec → Type 0
IsOther q r = same_record r q ≡ false

pub stays_told : (q : Rec) (outs : List (Out Msg)) (rs : List Rec) → In q rs → AreDrops (IsOther q) outs → In q (recorded_by outs rs)
stays_told q [] rs i h = i
stays_told q (out.Act (what.Took r) ∷ os) rs i h = absurd h.0
stays_told q (out.Act what.Died ∷ os) rs i h = absurd h.0
stays_told q (out.Act what.Returned ∷ os) rs i h = absurd h.0
stays_told q (out.Act (what.Dropped r) ∷ os) rs i h = stays_told q os _ (in_filter (λ x. not (same_record r x)) q rs i (ap not h.0)) h.1
stays_told q (out.Act other ∷ os) rs i h = stays_told q os rs i h.1
stays_told q (out.Send link m ∷ os) rs i h = stays_told q os rs i h.1

-- what is told of after them was told of before, and none of them drops it
pub was_told : (P : Rec → Type 0) (q : Rec) (outs : List (Out Msg)) (rs : List Rec) → In q (recorded_by outs rs) → AreDrops P outs
    → In q rs × AreDrops (IsOther q) outs
was_told P q [] rs i h = (i, tt)
was_told P q (out.Act (what.Took r) ∷ os) rs i h = absurd h.0
was_told P q (out.Act what.Died ∷ os) rs i h = absurd h.0
was_told P q (out.Act what.Returned ∷ os) rs i h = absurd h.0
was_told P q (out.Act (what.Dropped r) ∷ os) rs i h =
    let w = was_told P q os _ i h.1 in
    let f = from_filter (λ x. not (same_record r x)) q rs w.0 in
    (f.0, (not-true (same_record r q) f.1, w.1))
was_told P q (out.Act other ∷ os) rs i h = let w = was_told P q os rs i h.1 in (w.0, (tt, w.1))
was_told P q (out.Send link (msg.ViewerState s) ∷ os) rs i h = absurd h.0
was_told P q (out.Send link other ∷ os) rs i h = let w = was_told P q os rs i h.1 in (w.0, (tt, w.1))
