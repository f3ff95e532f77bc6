-- What a cub puts out in one event has at most one Put of an instance.
use Rattle.std.proofs.Common.{◌≡◌, ℕ, List, ◌++◌, Bool, true, refl, sym, ap, subst, ◌∙◌, ⊎_elim, inl}
use Rattle.std.specs.List.{AllByRecursion}
use Rattle.std.proofs.lemmas.Bool.{eqb-true, true≢false}
use Rattle.tiger_base.specs.declared.number.Stamp.{Stamp}
use Rattle.tiger_base.specs.declared.tenancy.Tenancy.{Tenancy}
use Rattle.tiger_base.specs.declared.message.Msg.{Msg}
use Rattle.tiger_base.specs.Notes.{noted}
use Rattle.slot_plan.specs.declared.params.Params.{Params}
use Rattle.node_kit.specs.declared.journal.Entry.{Entry}
use Rattle.node_kit.specs.declared.journal.What.TheVariants as what
use Rattle.node_kit.specs.declared.outbox.Out.{Out}
use Rattle.node_kit.specs.declared.outbox.Out.TheVariants as out
use Rattle.node_kit.specs.Steps.{Deed, Input, IsAllowed, what_of, entry_of}
use Rattle.node_kit.specs.Steps.Input.{Take, Tick}
use Rattle.cub_rules.specs.declared.store.Store.{Store}
use Rattle.cub_rules.specs.Messages.{taking}
use Rattle.cub_rules.specs.Ticks.{inserting, ticking}
use Rattle.cub_changes.specs.Changes.{Change, did}
use Rattle.cub_changes.specs.Changes.Change.{PutStart}
use Rattle.cub_changes.specs.Outputs.Output.{Put}
use Rattle.cub_changes.proofs.Closed.{IsClosed}
use Rattle.cub_changes.proofs.Order.{AreOfStep, step_of, in_insertion}
use Rattle.cub_changes.proofs.Outputs.{tells_of}
use Rattle.cub_changes.proofs.Puts.{inserting_by}
use Rattle.run_facts.specs.Events.{NodeEvent, Past, outs_of, stamp_at, entries_at}
use Rattle.run_model.specs.Moments.{is_put_of}
use Rattle.proof_lives.specs.Histories.{input_of}
use Rattle.proof_lives.specs.Lives.{deed_of}
use Rattle.lists.specs.Elements.{In}
use Rattle.lists.proofs.Each.{all_in}
use Rattle.proof_lives.proofs.Inserting.{put_out}
use Rattle.proof_lives.proofs.Taking.{IsNoPut, AreNoPuts, taking_hears}
use Rattle.proof_lives.proofs.Seating.{Seats, seats_closed, seats_each}
use Rattle.proof_lives.proofs.Ticking.{before_inserting}
use Rattle.proof_lives.proofs.Waiting.{AreOnce, before_once}
use Rattle.proof_journals.proofs.Wrote.{got_at, got_in, sent_in, died_in, entries_are, died_is}
use Rattle.proof_journals.proofs.Ones.{IsNone, IsOne, none_one, one_append, one_map, one_of_part}

-- whether an output puts an instance
abbrev pub puts : ℕ → Out Msg → Bool
puts v o = is_put_of v (what_of noted o)

pub put_found : (v : ℕ) (o : Out Msg) → puts v o ≡ true → (t : Tenancy) × (o ≡ put_out t) × (t.instance.0 ≡ v)
put_found v (out.Send link m) e = absurd (cc)
put_found v (out.Act (what.Put t)) e = (t, refl, eqb-true _ _ e)
put_found v (out.Act other) e = absurd (cc)

pub no_puts_none : (v : ℕ) (outs : List (Out Msg)) → AreNoPuts outs → IsNone (puts v) outs
no_puts_none v outs silent o i e =
    let f = put_found v o e in
    all_in IsNoPut (put_out f.0) outs silent (subst (λ (x : Out Msg). In x outs) f.1 i)

-- ---- insertion
module _ (v : ℕ) where
  -- what is put is put once, and its start stands no more
  record Once (h : Store) (d : Deed Msg Store) : Type 0 where
    seats : Seats h d
    one : IsOne (puts v) d.outs

  once_both : (h : Store) (d e : Deed Msg Store) → Once h d → Once d.state e → Once h (record { outs = d.outs ++ e.outs; state = e.state })
  once_both h d e first second = record {
    seats = seats_closed.both h d e first.seats second.seats;
    one = one_append (puts v) d.outs e.outs first.one second.one
        (λ x y i l t s.
        let before = put_found v x t in
        let after = put_found v y s in
        let from = second.seats.from after.0 (subst (λ (z : Out Msg). In z e.outs) after.1 l) in
        first.seats.gone before.0 from.0 (subst (λ (z : Out Msg). In z d.outs) before.1 i) (inl from.1) (from.2 ∙ after.2 ∙ sym before.2));
  }

  once_closed : IsClosed Once
  once_closed = record { none = λ h. record { seats = seats_closed.none h; one = tt }; both = once_both }

  module _ (p : Params) (c : ℕ) (stamp : Stamp) where
    -- a change that is no Put puts nothing
    none_put : (x : Change) (h : Store) → ((t : Tenancy) → x ≡ PutStart t → ⊥) → IsNone (puts v) (did p c stamp x h).outs
    none_put x h other o i e =
        let f = put_found v o e in
        other f.0 (tells_of p c stamp x h (put_out f.0) (subst (λ (z : Out Msg). In z (did p c stamp x h).outs) f.1 i))

    one_put : (x : Change) (h : Store) → IsOne (puts v) (did p c stamp x h).outs
    one_put (PutStart t) h = ((λ _. λ o i e. i), tt)
    one_put other h = none_one (puts v) (did p c stamp other h).outs (none_put other h (λ t (e : other ≡ PutStart t). absurd (cc)))

    inserting_single : (h : Store) → AreOnce h.starts → IsOne (puts v) (inserting p c stamp h).outs
    inserting_single h o =
        (inserting_by Once once_closed p c stamp h (λ x q cause. record { seats = seats_each p c stamp h o x q cause; one = one_put x q })).one

    -- ---- a tick
    of_insertion : AreOfStep p c stamp (puts v) 2
    of_insertion x h (Put t) comes e = ap step_of comes
    of_insertion x h other comes e = absurd (cc)

    ticking_single : (h : Store) → AreOnce h.starts → IsOne (puts v) (ticking p c stamp h).outs
    ticking_single h o =
        one_of_part (puts v) (puts v) (λ x t. t) _ _ (in_insertion p c stamp (puts v) of_insertion h)
        (inserting_single (before_inserting p c stamp h) (before_once p c stamp h o))

-- an input: a message puts nothing
pub deed_single : (p : Params) (c v : ℕ) (i : Input Msg) (h : Store) → AreOnce h.starts → IsOne (puts v) (deed_of p c i h).outs
deed_single p c v (Take stamp link m) h o = none_one (puts v) (taking p c stamp link m h).outs (no_puts_none v _ (taking_hears p c stamp link m h).no_puts)
deed_single p c v (Tick stamp) h o = ticking_single v p c stamp h o

-- what an event writes has at most one Put of an instance where its outputs have
pub entries_one : {S : Type 0} (step : S → Input Msg → Deed Msg S) (p : Params) (n v : ℕ) (ev : NodeEvent Msg) (before : Past S)
    → AllByRecursion (IsAllowed noted p n) (outs_of step ev before) → IsOne (puts v) (outs_of step ev before)
    → IsOne (λ (e : Entry). is_put_of v e.what) (entries_at noted step ev before)
entries_one step p n v ev before fair one =
    let test : Entry → Bool = λ e. is_put_of v e.what in
    let got : IsNone test (got_in ev) = got_none (input_of ev) in
    let died : IsNone test (died_in ev) = λ e k t. true≢false (sym t ∙ ap test (died_is ev e k).0) in
    let outs : IsOne test (sent_in step ev before) = one_map (entry_of noted (stamp_at ev)) test (outs_of step ev before) one in
    subst (λ (es : List Entry). IsOne test es) (sym (entries_are step p n ev before fair))
    (one_append test (got_in ev) (sent_in step ev before ++ died_in ev) (none_one test (got_in ev) got)
    (one_append test (sent_in step ev before) (died_in ev) outs (none_one test (died_in ev) died) (λ x y i k t s. died y k s))
    (λ x y i k t s. got x i t))
  where
    got_none : (i : Input Msg) (e : Entry) → In e (got_at i) → is_put_of v e.what ≡ true → ⊥
    got_none (Take stamp link m) e k t = ⊎_elim
        (λ q. true≢false (sym t ∙ ap (λ (x : Entry). is_put_of v x.what) q))
        (λ q. q)
        k
    got_none (Tick stamp) e k t = k
