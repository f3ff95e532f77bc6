-- Each rule of a cub keeps what a cub may keep, and puts out only what it may: so does each event within the time of a run.
use Rattle.std.proofs.Common.{ℕ, ◌<◌, ◌≤◌, List, Option, refl, subst, sym, arith}
use Rattle.std.specs.List.{AllByRecursion}
use Rattle.std.proofs.lemmas.Bool.{cond_both}
use Rattle.tiger_base.specs.declared.number.LinkNo.{LinkNo}
use Rattle.tiger_base.specs.declared.number.Stamp.{Stamp}
use Rattle.tiger_base.specs.declared.message.Msg.{Msg}
use Rattle.tiger_base.specs.Notes.{noted}
use Rattle.tiger_base.specs.Limits.{most_reading}
use Rattle.slot_plan.specs.declared.params.Params.{Params}
use Rattle.slot_plan.specs.Conditions.{IsPlan}
use Rattle.node_kit.specs.declared.outbox.Out.{Out}
use Rattle.node_kit.specs.Deeds.{Did, then_do}
use Rattle.node_kit.proofs.Ways.{ahead_leads}
use Rattle.node_kit.specs.Steps.{Deed, Input, IsAllowed, Acts, stamp_of}
use Rattle.node_kit.specs.Steps.Input.{Take, Tick}
use Rattle.cub_rules.specs.declared.store.Store.{Store}
use Rattle.cub_rules.specs.State.{CubState, IsCub, IsStoreOf}
use Rattle.cub_rules.specs.Messages.{taking}
use Rattle.cub_rules.specs.Ticks.{queued, releasing, believing, inserting, splitting, forwarding, reading, ticking}
use Rattle.cub_rules.specs.Cubs.{was_away, coming_back, ending, cub_step}
use Rattle.cub_changes.specs.Changes.Change.{Release, Believe}
use Rattle.cub_changes.specs.Causes.{Stage}
use Rattle.cub_changes.specs.Causes.Stage.{OnMessage, OnDeadman, OnInsertion, OnService}
use Rattle.cub_changes.specs.Laws.{CubsStay, CubsPutOutWhatTheyMay}
use Rattle.cub_changes.proofs.Allowing.{change_right}
use Rattle.cub_changes.proofs.Closed.{OfEach, then_by}
use Rattle.cub_changes.proofs.Fits.{fits}
use Rattle.cub_changes.proofs.Keeping.{change_keeps}
use Rattle.lists.proofs.Each.{all_map}
use Rattle.cub_changes.proofs.Messages.{taking_in_form}
use Rattle.cub_changes.proofs.Puts.{inserting_by}
use Rattle.cub_changes.proofs.Sound.{IsKnown, sound}
use Rattle.cub_changes.proofs.Stores.{Right, IsRight, IsRule, right_closed}
use Rattle.cub_changes.proofs.Ticks.{IsOfTick, believing_by, splitting_by, forwarding_by, reading_by, ticking_since}

-- ---- release and the deadman step, which need nothing of the plan
pub releasing_right : (p : Params) (c : ℕ) (stamp : Stamp) → IsRule p c (releasing p stamp)
unfolding releasing
releasing_right p c stamp h kept = record { keeps = change_keeps p c stamp Release h tt kept; allowed = tt }

pub believing_right : (p : Params) (c : ℕ) (stamp : Stamp) → IsRule p c (believing p c stamp)
believing_right p c stamp h kept = believing_by (Right p c) (right_closed p c) p c stamp h each kept
  where
    each : OfEach (Right p c) p c stamp OnDeadman h
    each Believe q cause own = record {
      keeps = change_keeps p c stamp Believe q tt own;
      allowed = (tt, all_map (IsAllowed noted p c) queued q.starts.redundant (λ a i. tt));
    }
    each other q cause own = absurd (fits p c stamp h OnDeadman other q cause)

-- ---- all others
module _ (p : Params) (c : ℕ) (stamp : Stamp) (plan : IsPlan p) (here : c < p.cubs) where
  each_right : (g : Stage) (from : Store) → IsKnown p stamp g → IsStoreOf p c from → OfEach (Right p c) p c stamp g from
  each_right g from known began x h cause kept =
      change_right p c plan here stamp x h (sound p c stamp plan from began here g known x h cause kept) kept

  known_in_tick : stamp.reading ≤ most_reading → (g : Stage) → IsOfTick g → IsKnown p stamp g
  known_in_tick short (OnMessage link m) t = absurd t
  known_in_tick short OnInsertion t = short
  known_in_tick short other t = tt

  pub inserting_right : stamp.reading ≤ most_reading → IsRule p c (inserting p c stamp)
  inserting_right short h kept = inserting_by (Right p c) (right_closed p c) p c stamp h (each_right OnInsertion h short kept) kept

  pub splitting_right : IsRule p c (splitting p c stamp)
  splitting_right h kept = splitting_by (Right p c) (right_closed p c) p c stamp h (each_right OnService h tt kept) kept

  pub forwarding_right : IsRule p c (forwarding p c stamp)
  forwarding_right h kept = forwarding_by (Right p c) (right_closed p c) p c stamp h (each_right OnService h tt kept) kept

  pub reading_right : IsRule p c (reading p stamp)
  reading_right h kept = reading_by (Right p c) (right_closed p c) p c stamp h (each_right OnService h tt kept) kept

  pub ticking_right : stamp.reading ≤ most_reading → IsRule p c (ticking p c stamp)
  ticking_right short h kept =
      ticking_since (Right p c) (right_closed p c) p c stamp h
      (λ g d t so. each_right g d.state (known_in_tick short g t) (so kept).keeps) kept

pub taking_right : (p : Params) (c : ℕ) (stamp : Stamp) (link : LinkNo) (m : Msg) → IsPlan p → c < p.cubs → stamp.reading ≤ most_reading
    → IsRule p c (taking p c stamp link m)
taking_right p c stamp link m plan here short h kept =
    taking_in_form (Right p c) (right_closed p c) p c stamp link m h
    (λ form. each_right p c stamp plan here (OnMessage link m) h (short, form) kept) kept

-- ---- events of a cub
pub coming_right : (p : Params) (c : ℕ) (stamp : Stamp) → IsPlan p → c < p.cubs → IsRule p c (coming_back p c stamp)
coming_right p c stamp plan here h kept = record {
  keeps = record {
    view_plan = refl;
    pieces_plan = refl;
    unasked_plan = refl;
    lines = tt;
    waiting = tt;
    redundant = tt;
    pieces = tt;
    unasked = tt;
    splits = tt;
    parts = tt;
  };
  allowed = (tt, ((ahead_leads p c 1 plan here (omega arith) (omega arith), refl), tt));
}

pub ending_right : (p : Params) (c : ℕ) (last : Option ℕ) (stamp : Stamp) → IsPlan p → c < p.cubs → stamp.reading ≤ most_reading
    → IsRule p c (ending p c last stamp)
unfolding ending
ending_right p c last stamp plan here short h kept =
    let back : Store → Deed Msg Store = coming_back p c stamp in
    let tick : Store → Deed Msg Store = ticking p c stamp in
    let goes : IsRule p c tick = ticking_right p c stamp plan here short in
    cond_both (was_away last stamp.beat) (then_do back tick h) (tick h) (IsRight p c)
    (λ _. then_by (Right p c) (right_closed p c) back tick h (coming_right p c stamp plan here h) (goes (back h).state) kept)
    (λ _. goes h kept)

step_right : (s : CubState) (i : Input Msg) (p : Params) (n : ℕ) → (stamp_of i).reading ≤ most_reading → IsCub s p n
    → IsRight s.params s.cub (record { outs = (cub_step s i).outs; state = (cub_step s i).state.store })
step_right s (Take stamp link m) p n short at = taking_right s.params s.cub stamp link m at.plan at.inside short s.store at.store
step_right s (Tick stamp) p n short at = ending_right s.params s.cub s.last stamp at.plan at.inside short s.store at.store

pub cub_stays : CubsStay
cub_stays s (Take stamp link m) p n short at = record {
  params = at.params;
  number = at.number;
  plan = at.plan;
  inside = at.inside;
  store = (step_right s (Take stamp link m) p n short at).keeps;
}
cub_stays s (Tick stamp) p n short at = record {
  params = at.params;
  number = at.number;
  plan = at.plan;
  inside = at.inside;
  store = (step_right s (Tick stamp) p n short at).keeps;
}

pub cub_allowed : CubsPutOutWhatTheyMay
cub_allowed s i p n short at =
    subst (λ q. AllByRecursion (IsAllowed noted q n) (cub_step s i).outs) at.params
    (subst (λ c. AllByRecursion (IsAllowed noted s.params c) (cub_step s i).outs) at.number (step_right s i p n short at).allowed)

-- what a cub did in such an event is a node's step
pub cub_acts : (i : Input Msg) (old new : CubState) (before after : List (Out Msg)) → (stamp_of i).reading ≤ most_reading
    → Did (cub_step old i) before after new → Acts noted cub_step IsCub i old new before after
cub_acts i old new before after short did = record {
  appended = did.0;
  moved = did.1;
  stays = λ p n at. subst (λ s. IsCub s p n) (sym did.1) (cub_stays old i p n short at);
  allowed = λ p n at. cub_allowed old i p n short at;
}
