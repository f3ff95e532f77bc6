-- What a cub writes of its own is writable, and it sends no start.
use Rattle.std.proofs.Common.{◌≡◌, ℕ, ◌<◌, ◌≤◌, ◌^◌, List, true, false, Option, None, IsTrue, sym, subst, arith, ⊎_elim}
use Rattle.std.specs.List.{AllByRecursion}
use Rattle.std.proofs.lemmas.Bool.{cases_Bool}
use Rattle.tiger_base.specs.declared.number.Stamp.{Stamp}
use Rattle.tiger_base.specs.declared.tenancy.Rec.{Rec}
use Rattle.tiger_base.specs.declared.tenancy.Tenancy.{Tenancy}
use Rattle.tiger_base.specs.declared.tenancy.Want.{Want}
use Rattle.tiger_base.specs.declared.message.Msg.{Msg}
use Rattle.tiger_base.specs.declared.message.Msg.TheVariants as msg
use Rattle.tiger_base.specs.Limits.{most_reading}
use Rattle.slot_plan.specs.declared.params.Params.{Params}
use Rattle.slot_plan.specs.Conditions.{IsPlan}
use Rattle.node_kit.specs.declared.outbox.Out.{Out}
use Rattle.node_kit.specs.declared.outbox.Out.TheVariants as out
use Rattle.node_kit.specs.Form.{is_tenancy, is_place}
use Rattle.node_kit.specs.Steps.{Deed, Input, stamp_of}
use Rattle.node_kit.specs.Steps.Input.{Take, Tick}
use Rattle.partial_view.specs.declared.line.Line.{Line}
use Rattle.cub_rules.specs.declared.store.Store.{Store}
use Rattle.cub_rules.specs.State.{CubState, IsCub, IsStoreOf, IsLineOf, IsRecordOf}
use Rattle.cub_rules.specs.Cubs.{coming_back, cub_step, ending, was_away}
use Rattle.cub_rules.specs.Ticks.{ticking}
use Rattle.cub_changes.specs.Changes.{Change, did}
use Rattle.cub_changes.specs.Changes.Change.{SendPlaced}
use Rattle.cub_changes.specs.Causes.{Stage, Cause, Fills, IsAnswer, IsInsertion}
use Rattle.cub_changes.specs.Causes.Stage.{OnMessage, OnInsertion}
use Rattle.cub_changes.specs.Outputs.{Output, output, ComesOf}
use Rattle.cub_changes.specs.Outputs.Output.{Took, Dropped, Put, ReadFailed}
use Rattle.cub_changes.proofs.Chains.{ending_on, ending_back}
use Rattle.cub_changes.proofs.Closed.{IsClosed, OfEach, then_by}
use Rattle.cub_changes.proofs.Keeping.{IsSound, change_keeps}
use Rattle.cub_changes.proofs.Messages.{taking_in_form}
use Rattle.cub_changes.proofs.Numbers.{tenancy_parts, place_parts}
use Rattle.cub_changes.proofs.Outputs.{forms_of}
use Rattle.cub_changes.proofs.Rules.{coming_right}
use Rattle.cub_changes.proofs.Sound.{IsKnown, sound}
use Rattle.cub_changes.proofs.Ticks.{IsOfTick, ticking_since}
use Rattle.lists.specs.Elements.{In}
use Rattle.lists.proofs.Each.{all_append, all_in}
use Rattle.audit_read.specs.Writable.{IsAsk, IsPlace, IsTenancy, IsWhat}

-- an entry is writable, and a start that is sent asks for a number of blocks within the limits
abbrev pub IsFine : Params → Out Msg → Type 0
IsFine p (out.Act what) = IsWhat p what
IsFine p (out.Send link (msg.Start redundant ask)) = IsAsk ask
IsFine p (out.Send link other) = Unit {0}

abbrev pub AreFine : Params → List (Out Msg) → Type 0
AreFine p outs = AllByRecursion (IsFine p) outs

-- ---- what is in form is writable

pub tenancy_writable : (p : Params) (t : Tenancy) → IsTrue (is_tenancy p t) → IsTenancy p t
tenancy_writable p t form =
    let parts = tenancy_parts p t form in
    let last = parts.2 in
    (parts.0, parts.1, omega (arith, last))

pub place_writable : (p : Params) (slot visit : ℕ) → IsTrue (is_place p slot visit) → IsPlace p slot visit
place_writable p slot visit form =
    let parts = place_parts p slot visit form in
    let low = parts.1 in
    (parts.0, omega (arith, low))

record_writable : (p : Params) (c : ℕ) (r : Rec) → IsRecordOf p c r → IsTenancy p r.tenancy × (r.visit ≤ 2 ^ 32)
record_writable p c r own =
    let tenancy = tenancy_writable p r.tenancy own.in_form in
    let last = tenancy.2 in
    let over = own.not_over in
    (tenancy, omega (arith, last, over))

-- ---- what a cub does keeps what it may keep, and what it puts out is fine

record IsFineDeed (p : Params) (c : ℕ) (d : Deed Msg Store) : Type 0 where
  keeps : IsStoreOf p c d.state
  fine : AreFine p d.outs

abbrev Fine : Params → ℕ → Store → Deed Msg Store → Type 0
Fine p c h d = IsStoreOf p c h → IsFineDeed p c d

fine_closed : (p : Params) (c : ℕ) → IsClosed (Fine p c)
fine_closed p c = record {
  none = λ h kept. record { keeps = kept; fine = tt };
  both = λ h d e one two kept.
      let first = one kept in
      let second = two first.keeps in
      record { keeps = second.keeps; fine = all_append (IsFine p) d.outs e.outs first.fine second.fine };
}

module _ (p : Params) (c : ℕ) (stamp : Stamp) (plan : IsPlan p) (here : c < p.cubs) where
  module _ (from : Store) (began : IsStoreOf p c from) where
    -- a Put is of a tenancy in form, since its place is told
    put_form : (g : Stage) (t : Tenancy) (h : Store) → IsKnown p stamp g → IsInsertion g → Fills p c stamp from t h → IsStoreOf p c h
        → IsTrue (is_tenancy p t)
    put_form OnInsertion t h known is fills kept = sound p c stamp plan from began here OnInsertion known (SendPlaced t) h (h, fills) kept
    put_form other t h known is fills kept = absurd is

    -- a read that failed is of an answer in form
    failed_form : (g : Stage) (want : Want) (h : Store) → IsKnown p stamp g → IsAnswer g want None h → IsTrue (is_place p want.slot.0 want.visit)
    failed_form (OnMessage link (msg.ReadDone w found)) want h known is = rw is.0 known.1
    failed_form other want h known is = absurd is

    module _ (g : Stage) (known : IsKnown p stamp g) (x : Change) (h : Store) (cause : Cause p c stamp g from x h) (kept : IsStoreOf p c h) where
      line_writable : (y : Line) → In y h.view.lines → IsTenancy p y.rec.tenancy × (y.rec.visit ≤ 2 ^ 32)
      line_writable y i = record_writable p c y.rec (all_in (IsLineOf p c) y h.view.lines kept.lines i)

      form_fine : (o : Output) → ComesOf p c stamp x h o → IsFine p (output p c stamp o)
      form_fine (Took r) comes = record_writable p c r (subst (IsSound p c stamp) comes (sound p c stamp plan from began here g known x h cause kept))
      form_fine (Dropped y) comes = ⊎_elim
          (λ stop. line_writable y stop.1)
          (λ rest. ⊎_elim (λ served. line_writable y served.1.0) (λ past. line_writable y past.1.0) rest)
          comes
      form_fine (Put t) comes =
          let put = subst (λ (y : Change). Cause p c stamp g from y h) comes cause in
          tenancy_writable p t (put_form g t h known put.0 put.1 kept)
      form_fine (ReadFailed want) comes =
          place_writable p want.slot.0 want.visit (failed_form g want h known (subst (λ (y : Change). Cause p c stamp g from y h) comes cause))
      form_fine other comes = tt

      change_fine : IsFineDeed p c (did p c stamp x h)
      change_fine = record {
        keeps = change_keeps p c stamp x h (sound p c stamp plan from began here g known x h cause kept) kept;
        fine = forms_of p c stamp (IsFine p) x h form_fine;
      }

    each_fine : (g : Stage) → IsKnown p stamp g → OfEach (Fine p c) p c stamp g from
    each_fine g known x h cause kept = change_fine g known x h cause kept

  known_in_tick : stamp.reading ≤ most_reading → (g : Stage) → IsOfTick g → IsKnown p stamp g
  known_in_tick short (OnMessage link m) t = absurd t
  known_in_tick short OnInsertion t = short
  known_in_tick short other t = tt

  coming_fine : (h : Store) → Fine p c h (coming_back p c stamp h)
  coming_fine h kept = record { keeps = (coming_right p c stamp plan here h kept).keeps; fine = (tt, (tt, tt)) }

  ticking_fine : stamp.reading ≤ most_reading → (h : Store) → Fine p c h (ticking p c stamp h)
  ticking_fine short h kept =
      ticking_since (Fine p c) (fine_closed p c) p c stamp h
      (λ g d t so. each_fine d.state (so kept).keeps g (known_in_tick short g t)) kept

  ending_fine : (last : Option ℕ) → stamp.reading ≤ most_reading → (h : Store) → Fine p c h (ending p c last stamp h)
  ending_fine last short h =
      let back : Store → Deed Msg Store = coming_back p c stamp in
      let tick : Store → Deed Msg Store = ticking p c stamp in
      ⊎_elim
      (λ (away : was_away last stamp.beat ≡ true). subst (Fine p c h) (sym (ending_back p c stamp last h away))
      (then_by (Fine p c) (fine_closed p c) back tick h (coming_fine h) (ticking_fine short (back h).state)))
      (λ (on : was_away last stamp.beat ≡ false). subst (Fine p c h) (sym (ending_on p c stamp last h on)) (ticking_fine short h))
      (cases_Bool (was_away last stamp.beat))

cub_fine : (s : CubState) (i : Input Msg) (p : Params) (n : ℕ) → (stamp_of i).reading ≤ most_reading → IsCub s p n
    → AreFine s.params (cub_step s i).outs
cub_fine s (Take stamp link m) p n short at =
    (taking_in_form (Fine s.params s.cub) (fine_closed s.params s.cub) s.params s.cub stamp link m s.store
    (λ form. each_fine s.params s.cub stamp at.plan at.inside s.store at.store (OnMessage link m) (short, form)) at.store).fine
cub_fine s (Tick stamp) p n short at =
    (ending_fine s.params s.cub stamp at.plan at.inside s.last short s.store at.store).fine

-- what a cub puts out in an event within the time of a run
pub cub_puts : (s : CubState) (i : Input Msg) (p : Params) (n : ℕ) → (stamp_of i).reading ≤ most_reading → IsCub s p n
    → AreFine p (cub_step s i).outs
cub_puts s i p n short at = subst (λ (q : Params). AreFine q (cub_step s i).outs) at.params (cub_fine s i p n short at)
