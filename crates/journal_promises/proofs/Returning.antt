-- The journal of a node tells its return as its history has it: Returned stands behind Died, and nowhere else.
use Rattle.std.proofs.Common.{◌≡◌, ℕ, zero, suc, ◌+◌, ◌-◌, ◌<◌, ◌≤◌, List, [], ◌∷◌, ◌++◌, map, Bool, true, false, cond, Option, Some, None, option_and_then, refl, sym, ap, ◌∙◌, subst, arith, ⊎_elim, append-nil, append_assoc}
use Rattle.std.specs.Prelude.{slice_get}
use Rattle.std.specs.List.{AllByRecursion}
use Rattle.std.proofs.lemmas.Bool.{cases_Bool, cases_lt, eqb-true, le-ltb}
use Rattle.tiger_base.specs.Limits.{most_reading}
use Rattle.tiger_base.specs.Notes.{noted}
use Rattle.tiger_base.specs.declared.message.Msg.{Msg}
use Rattle.tiger_base.specs.declared.number.Stamp.{Stamp}
use Rattle.slot_plan.specs.declared.params.Params.{Params}
use Rattle.node_kit.specs.declared.course.Course.{Course}
use Rattle.node_kit.specs.declared.journal.Entry.{Entry}
use Rattle.node_kit.specs.declared.journal.What.TheVariants as what
use Rattle.node_kit.specs.declared.outbox.Out.{Out}
use Rattle.node_kit.specs.declared.outbox.Out.TheVariants as out
use Rattle.node_kit.specs.Life.{Lifetime, back_of, lifetime_of, returns}
use Rattle.node_kit.specs.Steps.{Input, IsAllowed, entries_of, entry_of, stamp_of}
use Rattle.node_kit.specs.Steps.Input.{Take, Tick}
use Rattle.cub_rules.specs.Cubs.{was_away}
use Rattle.cub_rules.specs.State.{opening_store}
use Rattle.run_facts.specs.Events.{NodeEvent, Past, after, after_input, after_cut, entries_at, is_death, is_return, is_tick_input, kept_outs, left_outs, outs_of, stamp_at}
use Rattle.run_facts.specs.Events.NodeEvent.{Does, Ends, Dies, Returns}
use Rattle.run_facts.specs.Histories.{History, IsComplete, IsRun, IsUp, beat, last_of, open_beat, past, reading}
use Rattle.run_lives.proofs.Deaths.{along, dies_at}
use Rattle.run_lives.proofs.Entries.{before_cut, cut-writes, got_of}
use Rattle.run_model.specs.Runs.{TellsReturn}
use Rattle.ring_nodes.specs.declared.nodes.AnyNode.{AnyNode}
use Rattle.ring_nodes.specs.AllNodes.{any_step}
use Rattle.proof_lives.specs.Lives.{beat_at}
use Rattle.proof_lives.specs.Histories.{acting, first_events, has_input, input_of, later_from, later_lives_of, lives_of}
use Rattle.proof_lives.specs.TwoLifeRun.WhichLife.{First, Later}
use Rattle.proof_lives.proofs.Acting.{acts_at, alive_acts, among_acting, early, most_act}
use Rattle.proof_lives.proofs.Carrying.{stamp_same}
use Rattle.proof_lives.proofs.Order.{tick_of}
use Rattle.proof_lives.proofs.Returns.{died, first_back, first_ended, first_here, first_low, later_alive, later_here, later_input, open_back}
use Rattle.proof_lives.proofs.TwoLives.{begins_anew, first_beat, has_acted, later_ticks, lived_in, within_run}
use Rattle.proof_lives.proofs.Wrapped.{GoesOn, acts_back, after_death_alone, after_return, after_state, away_then, last_at, last_behind, last_from, life_goes_on}
use Rattle.lists.proofs.Each.{all_append}
use Rattle.journal_promises.proofs.Nodes.{IsACub, IsSteady, TickedLast, puts_back, puts_quiet, stays_cub, ticks_last}
use Rattle.journal_promises.proofs.Quiet.{AreQuiet, AreQuietOuts, IsQuiet, IsQuietOut, none_within, outs_quiet, tells_death, tells_none, tells_return}
use Rattle.journal_promises.proofs.Written.{cut_all}

-- ---- what an event writes

-- a journal whose last entry is its death
record EndsSo (journal : List Entry) : Type 0 where
  before : List Entry
  last : Entry
  quiet : AreQuiet before
  died : last.what ≡ what.Died
  is : journal ≡ before ++ last ∷ []

got_quiet : (i : Input Msg) → AreQuiet (got_of noted i)
got_quiet (Take stamp link m) = ((refl, refl), tt)
got_quiet (Tick stamp) = tt

module _ {G : Type 0} where
  journal_behind : (e : NodeEvent Msg) (x : Past (AnyNode G)) → (after noted any_step e x).journal ≡ x.journal ++ entries_at noted any_step e x
  unfolding after_input after_cut
  journal_behind (Does i) x = refl
  journal_behind (Ends i sends) x = refl
  journal_behind (Dies stamp) x = refl
  journal_behind (Returns stamp) x = sym (append-nil x.journal)

  return_keeps : (e : NodeEvent Msg) (x : Past (AnyNode G)) → is_return e ≡ true → (after noted any_step e x).journal ≡ x.journal
  return_keeps (Does i) x t = absurd (cc)
  return_keeps (Ends i sends) x t = absurd (cc)
  return_keeps (Dies stamp) x t = absurd (cc)
  return_keeps (Returns stamp) x t = refl

  cub_after : (e : NodeEvent Msg) (x : Past (AnyNode G)) → IsACub x.state → IsACub (after noted any_step e x).state
  unfolding after_input after_cut
  cub_after (Does i) x cub = stays_cub x.state i cub
  cub_after (Ends i sends) x cub = stays_cub x.state i cub
  cub_after (Dies stamp) x cub = cub
  cub_after (Returns stamp) x cub = cub

  -- an event in which no death comes, if what the node puts out tells of no return
  whole_quiet : (p : Params) (n : ℕ) (e : NodeEvent Msg) (x : Past (AnyNode G)) → AllByRecursion (IsAllowed noted p n) (outs_of any_step e x)
      → AreQuietOuts (any_step x.state (input_of e)).outs → is_death e ≡ false → AreQuiet (entries_at noted any_step e x)
  unfolding kept_outs
  whole_quiet p n (Does (Take stamp link m)) x fair quiet lives =
      ((refl, refl), outs_quiet p n stamp (any_step x.state (Take stamp link m)).outs fair quiet)
  whole_quiet p n (Does (Tick stamp)) x fair quiet lives = outs_quiet p n stamp (any_step x.state (Tick stamp)).outs fair quiet
  whole_quiet p n (Ends i sends) x fair quiet lives = absurd (cc)
  whole_quiet p n (Dies stamp) x fair quiet lives = absurd (cc)
  whole_quiet p n (Returns stamp) x fair quiet lives = tt

  dying : (p : Params) (n : ℕ) (e : NodeEvent Msg) (x : Past (AnyNode G)) → AllByRecursion (IsAllowed noted p n) (outs_of any_step e x)
      → (has_input e ≡ true → AreQuietOuts (any_step x.state (input_of e)).outs) → is_death e ≡ true → EndsSo (entries_at noted any_step e x)
  unfolding left_outs
  dying p n (Does i) x fair quiet t = absurd (cc)
  dying p n (Ends i sends) x fair quiet t = record {
    before = before_cut noted any_step i sends x;
    last = record { stamp = stamp_of i; what = what.Died };
    quiet = all_append IsQuiet (got_of noted i) (map (entry_of noted (stamp_of i)) (left_outs any_step i sends x)) (got_quiet i)
        (outs_quiet p n (stamp_of i) (left_outs any_step i sends x) fair (cut_all IsQuietOut sends (any_step x.state i).outs (quiet refl)));
    died = refl;
    is = cut-writes noted any_step p n i sends x fair;
  }
  dying p n (Dies stamp) x fair quiet t =
      record { before = []; last = record { stamp = stamp; what = what.Died }; quiet = tt; died = refl; is = refl }
  dying p n (Returns stamp) x fair quiet t = absurd (cc)

  -- a whole tick
  tick_outs : (e : NodeEvent Msg) (x : Past (AnyNode G)) (stamp : Stamp) → has_input e ≡ true → is_death e ≡ false → input_of e ≡ Tick stamp
      → outs_of any_step e x ≡ (any_step x.state (Tick stamp)).outs
  unfolding kept_outs
  tick_outs (Does i) x stamp acts lives is = ap (λ (k : Input Msg). (any_step x.state k).outs) is
  tick_outs (Ends i sends) x stamp acts lives is = absurd (cc)
  tick_outs (Dies s) x stamp acts lives is = absurd (cc)
  tick_outs (Returns s) x stamp acts lives is = absurd (cc)

  tick_writes : (e : NodeEvent Msg) (x : Past (AnyNode G)) (stamp : Stamp) → has_input e ≡ true → is_death e ≡ false → input_of e ≡ Tick stamp
      → entries_at noted any_step e x ≡ map (entry_of noted stamp) (any_step x.state (Tick stamp)).outs
  unfolding kept_outs
  tick_writes (Does i) x stamp acts lives is = ap (λ (k : Input Msg). entries_of noted k (any_step x.state k).outs) is
  tick_writes (Ends i sends) x stamp acts lives is = absurd (cc)
  tick_writes (Dies s) x stamp acts lives is = absurd (cc)
  tick_writes (Returns s) x stamp acts lives is = absurd (cc)

-- a node that returns in a beat has that beat in its life
returns_by : (death left back : Option ℕ) (over : Bool) (b : ℕ)
    → returns (record { death = death; left = left; back = back; over = over }) b ≡ true → back ≡ Some b
unfolding returns
returns_by death left None over b t = absurd (cc)
returns_by death left (Some w) over b t = ap (λ (n : ℕ). Some n) (sym (eqb-true b w t))

-- ---- along a history

module _ {G : Type 0} (c : Course) (h : History Msg (AnyNode G)) (nodes : ℕ) (run : IsRun noted any_step c.plan.params nodes h)
    (complete : IsComplete noted any_step nodes c.beats h)
    (lives : (n : ℕ) → n < nodes → h.life n ≡ lifetime_of c n)
    (steady : (n i : ℕ) → n < nodes → i ≤ h.count n → IsSteady c.plan.params n (past noted any_step h n i).state)
    (short : (n i : ℕ) → n < nodes → i < h.count n → reading h n i ≤ most_reading)
    (cubs : (n : ℕ) → n < nodes → n < c.plan.params.cubs → IsACub (h.first n))
    (fresh : (n : ℕ) → n < nodes → TickedLast None (h.first n)) (n : ℕ) (known : n < nodes) where
  abbrev p : Params
  p = c.plan.params

  abbrev f : ℕ
  f = first_events h n

  abbrev from : ℕ
  from = later_from h n

  abbrev x : ℕ → Past (AnyNode G)
  x i = past noted any_step h n i

  abbrev inputs : ℕ → Input Msg
  inputs = (lives_of h).input n

  abbrev anew : ℕ → Input Msg
  anew = (later_lives_of h).input n

  abbrev last : Option ℕ
  last = last_at inputs (acting h n)

  -- ---- up to a death

  ticked_first : (i : ℕ) → i ≤ acting h n → TickedLast (last_at inputs i) (x i).state
  ticked_first zero low = fresh n known
  ticked_first (suc i) low =
      let acts = has_acted run n known First i (omega arith) in
      subst (TickedLast (last_behind (inputs i) (last_at inputs i))) (sym (after_state any_step (h.event n i) (x i) acts))
      (ticks_last (x i).state (inputs i) (last_at inputs i) (ticked_first i (omega arith)))

  quiet_first : (i : ℕ) → i < acting h n → AreQuietOuts (any_step (x i).state (inputs i)).outs
  quiet_first i low =
      let done = within_run run n known First i low in
      puts_quiet p n (x i).state (inputs i) (last_at inputs i) (steady n i known (omega arith)) (ticked_first i (omega arith))
      (life_goes_on (acting h n) inputs (λ j less. first_beat run n known j less) i low)

  quiet_to : (i : ℕ) → i ≤ f → ((j : ℕ) → j < i → is_death (h.event n j) ≡ false) → AreQuiet (x i).journal
  quiet_to zero low alive = tt
  quiet_to (suc i) low alive =
      let most = first_low run n known in
      let on = alive i (omega arith) in
      let acts = alive_acts h n (first_here run n known) (first_ended run n known) i (omega arith) on in
      subst AreQuiet (sym (journal_behind (h.event n i) (x i)))
      (all_append IsQuiet (x i).journal (entries_at noted any_step (h.event n i) (x i)) (quiet_to i (omega arith) (λ j less. alive j (omega arith)))
      (whole_quiet p n (h.event n i) (x i) (run.fair n i known (omega arith)) (quiet_first i acts) on))

  alive_before : (i j : ℕ) → i < f → j < i → is_death (h.event n j) ≡ false
  alive_before i j low less = early h n (first_here run n known) (first_ended run n known) j (omega arith)

  dies_in : (i : ℕ) → i < f → is_death (h.event n i) ≡ true → EndsSo (x (suc i)).journal
  dies_in i low t =
      let most = first_low run n known in
      let one = dying p n (h.event n i) (x i) (run.fair n i known (omega arith))
      (λ acts. quiet_first i (among_acting h n (first_here run n known) (first_ended run n known) i low acts)) t in
      record {
        before = (x i).journal ++ one.before;
        last = one.last;
        quiet = all_append IsQuiet (x i).journal one.before (quiet_to i (omega arith) (λ j less. alive_before i j low less)) one.quiet;
        died = one.died;
        is = journal_behind (h.event n i) (x i) ∙ ap (λ es. (x i).journal ++ es) one.is
            ∙ sym (append_assoc (x i).journal one.before (one.last ∷ []));
      }

  -- ---- at a return

  -- the beat of the course, and that of the event
  returns_at : (e : NodeEvent Msg) → f < h.count n → h.event n f ≡ e → is_return e ≡ true → back_of c n ≡ Some (stamp_at e).beat
  returns_at (Does i) low is t = absurd (cc)
  returns_at (Ends i sends) low is t = absurd (cc)
  returns_at (Dies stamp) low is t = absurd (cc)
  returns_at (Returns stamp) low is t =
      let life : Lifetime = (x f).life in
      ap (λ (l : Lifetime). l.back) (sym (lives n known)) ∙ sym (along noted any_step nodes c.beats h complete n known f).back
      ∙ returns_by life.death life.left life.back life.over stamp.beat (complete.returning n f stamp known low is)

  -- only a cub dies, and so returns
  is_cub : f < h.count n → n < p.cubs
  is_cub low = ⊎_elim
      (λ (less : n < p.cubs). less)
      (λ (high : p.cubs ≤ n).
      let d = died run n known low in
      let next = d.next in
      let dies = dies_at noted any_step nodes c.beats h complete n known d.at (omega arith) d.death in
      let none : (lifetime_of c n).death ≡ None =
      ap (λ (b : Bool). cond b (option_and_then (λ o. o) (slice_get c.deaths n)) None) (le-ltb n p.cubs high) in
      let z : None ≡ Some (beat h n d.at) = sym none ∙ ap (λ (l : Lifetime). l.death) (sym (lives n known)) ∙ dies in
      absurd (cc))
      (cases_lt n p.cubs)

  stays_one : n < p.cubs → (i : ℕ) → IsACub (x i).state
  stays_one cub zero = cubs n known cub
  stays_one cub (suc i) = cub_after (h.event n i) (x i) (stays_one cub i)

  -- when a node that returns last ticked
  ticked_back : f < h.count n → TickedLast last (x f).state
  ticked_back low =
      let here = first_here run n known in
      let ended = first_ended run n known in
      let d = died run n known low in
      let next = d.next in
      let most = most_act h n here ended in
      let is : f ≡ suc d.at = omega arith in
      ⊎_elim
      (λ (t : has_input (h.event n d.at) ≡ true).
      let less = among_acting h n here ended d.at (omega arith) t in
      let all : acting h n ≡ f = ⊎_elim
      (λ (over : f < acting h n). let z = (acts_at h n here ended f over).done in absurd (omega arith))
      (λ (le : acting h n ≤ f). let z : acting h n ≡ f = omega arith in z)
      (cases_lt f (acting h n)) in
      subst (λ k. TickedLast last (x k).state) all (ticked_first (acting h n) (omega arith)))
      (λ (q : has_input (h.event n d.at) ≡ false).
      let few : acting h n ≡ d.at = ⊎_elim
      (λ (over : d.at < acting h n).
      let t = (acts_at h n here ended d.at over).input in
      let z : true ≡ false = sym t ∙ q in absurd (cc))
      (λ (le : acting h n ≤ d.at). let z : acting h n ≡ d.at = omega arith in z)
      (cases_lt d.at (acting h n)) in
      subst (λ k. TickedLast last (x k).state) (sym is)
      (subst (TickedLast last) (sym (after_death_alone any_step (h.event n d.at) (x d.at) q))
      (subst (λ k. TickedLast last (x k).state) few (ticked_first (acting h n) (omega arith)))))
      (cases_Bool (has_input (h.event n d.at)))

  -- ---- from a return on

  module _ (low : from < h.count n) where
    back : f < h.count n
    back = omega arith

    in_beat : beat h n from ≡ beat h n f
    in_beat = run.in_beat n from known low (later_here run n known from (omega arith) low) ∙ open_back run n known back

    ticked_from : TickedLast last (x from).state
    ticked_from = subst (TickedLast last) (sym (after_return any_step (h.event n f) (x f) (first_back run n known back))) (ticked_back back)

    ticked_later : (j : ℕ) → from + j ≤ h.count n → TickedLast (last_from last anew j) (x (from + j)).state
    ticked_later zero le =
        let e : from ≡ from + 0 = omega arith in
        subst (λ k. TickedLast last (x k).state) e ticked_from
    ticked_later (suc j) le =
        let e : suc (from + j) ≡ from + suc j = omega arith in
        let acts = later_input run n known (from + j) (omega arith) (omega arith) in
        subst (λ k. TickedLast (last_from last anew (suc j)) (x k).state) e
        (subst (TickedLast (last_from last anew (suc j))) (sym (after_state any_step (h.event n (from + j)) (x (from + j)) acts))
        (ticks_last (x (from + j)).state (anew j) (last_from last anew j) (ticked_later j (omega arith))))

    goes : (j : ℕ) → 0 < j → from + j < h.count n → GoesOn (last_from last anew j) (anew j)
    goes j more less =
        let some : 0 < (later_lives_of h).count n = omega arith in
        let begins = begins_anew run n known some in
        let in_it = begins.in_beat in
        let d = died run n known back in
        let apart = d.apart in
        let away : was_away last (beat_at anew 0) ≡ true = ap (λ b. was_away last b) in_it ∙ away_then run n known back in
        (acts_back p n ((later_lives_of h).count n) anew (lived_in run n known Later (λ i within. short n i known within)) some begins.tick
        (omega arith) last (opening_store p 0) away).goes_on j more (omega arith)

    quiet_later : (j : ℕ) → 0 < j → from + j < h.count n → AreQuietOuts (any_step (x (from + j)).state (anew j)).outs
    quiet_later j more less =
        puts_quiet p n (x (from + j)).state (anew j) (last_from last anew j) (steady n (from + j) known (omega arith))
        (ticked_later j (omega arith)) (goes j more less)

    -- a journal that goes on with the return
    record GoesOnSo (journal : List Entry) : Type 0 where
      first : Entry
      later : List Entry
      returned : first.what ≡ what.Returned
      in_it : first.stamp.beat ≡ beat h n f
      quiet : AreQuiet later
      is : journal ≡ (x f).journal ++ first ∷ later

    comes_back : GoesOnSo (x (suc from)).journal
    comes_back =
        let e : NodeEvent Msg = h.event n from in
        let acts = later_input run n known from (omega arith) low in
        let on = later_alive run n known from (omega arith) low in
        let s = tick_of (input_of e) (later_ticks run n known low) in
        let stamp : Stamp = s.0 in
        let when : stamp.beat ≡ beat h n f =
        ap (λ (i : Input Msg). (stamp_of i).beat) (sym s.1) ∙ ap (λ (q : Stamp). q.beat) (sym (stamp_same e)) ∙ in_beat in
        let tells = puts_back (x from).state stamp last (stays_one (is_cub back) from) ticked_from
        (ap (λ b. was_away last b) when ∙ away_then run n known back) in
        let fair : AllByRecursion (IsAllowed noted p n) (out.Act what.Returned ∷ tells.rest) =
        subst (AllByRecursion (IsAllowed noted p n)) (tick_outs e (x from) stamp acts on s.1 ∙ tells.is) (run.fair n from known low) in
        record {
          first = record { stamp = stamp; what = what.Returned };
          later = map (entry_of noted stamp) tells.rest;
          returned = refl;
          in_it = when;
          quiet = outs_quiet p n stamp tells.rest fair.1 tells.quiet;
          is = journal_behind e (x from) ∙ ap (λ es. (x from).journal ++ es) (tick_writes e (x from) stamp acts on s.1)
              ∙ ap (λ os. (x from).journal ++ map (entry_of noted stamp) os) tells.is
              ∙ ap (λ js. js ++ map (entry_of noted stamp) (out.Act what.Returned ∷ tells.rest))
              (return_keeps (h.event n f) (x f) (first_back run n known back));
        }

    goes_so : (j : ℕ) → from + suc j ≤ h.count n → GoesOnSo (x (from + suc j)).journal
    goes_so zero le =
        let e : suc from ≡ from + 1 = omega arith in
        subst (λ k. GoesOnSo (x k).journal) e comes_back
    goes_so (suc j) le =
        let i : ℕ = from + suc j in
        let e : suc i ≡ from + suc (suc j) = omega arith in
        let so = goes_so j (omega arith) in
        let on = later_alive run n known i (omega arith) (omega arith) in
        let es : List Entry = entries_at noted any_step (h.event n i) (x i) in
        let quiet = whole_quiet p n (h.event n i) (x i) (run.fair n i known (omega arith)) (quiet_later (suc j) (omega arith) (omega arith)) on in
        subst (λ k. GoesOnSo (x k).journal) e (record {
          first = so.first;
          later = so.later ++ es;
          returned = so.returned;
          in_it = so.in_it;
          quiet = all_append IsQuiet so.later es so.quiet quiet;
          is = journal_behind (h.event n i) (x i) ∙ ap (λ js. js ++ es) so.is ∙ append_assoc (x f).journal (so.first ∷ so.later) es;
        })

    -- and so it is at the end
    at_end : GoesOnSo (x (h.count n)).journal
    at_end =
        let e : from + suc (h.count n - suc from) ≡ h.count n = omega arith in
        subst (λ k. GoesOnSo (x k).journal) e (goes_so (h.count n - suc from) (omega arith))

    tells_back : TellsReturn c.beats (back_of c n) (x (h.count n)).journal
    tells_back =
        let d = died run n known back in
        let next = d.next in
        let is : suc d.at ≡ f = omega arith in
        let dead : EndsSo (x f).journal = subst (λ k. EndsSo (x k).journal) is (dies_in d.at (omega arith) d.death) in
        let so = at_end in
        let all : (x (h.count n)).journal ≡ dead.before ++ dead.last ∷ so.first ∷ so.later =
        so.is ∙ ap (λ js. js ++ so.first ∷ so.later) dead.is ∙ append_assoc dead.before (dead.last ∷ []) (so.first ∷ so.later) in
        let in_it : back_of c n ≡ Some so.first.stamp.beat =
        returns_at (h.event n f) back refl (first_back run n known back) ∙ ap (λ (b : ℕ). Some b) (sym so.in_it) in
        subst (TellsReturn c.beats (back_of c n)) (sym all)
        (tells_return c.beats (back_of c n) dead.before dead.last so.first so.later dead.quiet dead.died so.returned in_it so.quiet)

  -- ---- each node

  -- one that returns has come to the tick of its return
  ticks_then : f < h.count n → from < h.count n
  ticks_then low = ⊎_elim
      (λ (less : from < h.count n). less)
      (λ (le : h.count n ≤ from).
      let d = died run n known low in
      let next = d.next in
      let up : IsUp h n = λ j within t.
      let same = run.once n j d.at known within (omega arith) t d.death in omega arith in
      let ends = complete.until_end n known up in
      let is : from ≡ h.count n = omega arith in
      let opens : open_beat h n from ≡ c.beats = ap (λ k. open_beat h n k) is ∙ ends in
      let opened = open_back run n known low in
      let soon = complete.early n f known low in
      absurd (omega arith))
      (cases_lt from (h.count n))

  -- one that does not return
  stays_away : (k : ℕ) → h.count n ≡ k → f ≡ k → TellsReturn c.beats (back_of c n) (x k).journal
  stays_away zero e q = tells_none c.beats (back_of c n) [] tt
  stays_away (suc m) e q = ⊎_elim
      (λ (t : is_death (h.event n m) ≡ true).
      let dead = dies_in m (omega arith) t in
      let none = none_within c.beats (back_of c n) (λ w is.
      complete.comes_back n m w known (omega arith) t
      ((along noted any_step nodes c.beats h complete n known m).back ∙ ap (λ (l : Lifetime). l.back) (lives n known) ∙ is)) in
      subst (TellsReturn c.beats (back_of c n)) (sym dead.is) (tells_death c.beats (back_of c n) dead.before dead.last dead.quiet dead.died none))
      (λ (on : is_death (h.event n m) ≡ false).
      tells_none c.beats (back_of c n) (x (suc m)).journal (quiet_to (suc m) (omega arith) (λ j less. ⊎_elim
      (λ (before : j < m). alive_before m j (omega arith) before)
      (λ (le : m ≤ j). let same : m ≡ j = omega arith in subst (λ i. is_death (h.event n i) ≡ false) same on)
      (cases_lt j m))))
      (cases_Bool (is_death (h.event n m)))

  pub tells : TellsReturn c.beats (back_of c n) (last_of noted any_step h n).journal
  tells = ⊎_elim
      (λ (low : f < h.count n). tells_back (ticks_then low))
      (λ (le : h.count n ≤ f).
      let most = first_low run n known in
      let same : f ≡ h.count n = omega arith in
      stays_away (h.count n) refl same)
      (cases_lt f (h.count n))
