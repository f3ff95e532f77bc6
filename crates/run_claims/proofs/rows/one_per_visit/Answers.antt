use Rattle.std.proofs.Common.{◌≡◌, refl, ap, arith}
use Rattle.tiger_base.specs.declared.number.Instance.{Instance}
use Rattle.slot_plan.specs.Times.{cub_of}
use Rattle.run_model.specs.Moments.{next_moment}
use Rattle.run_claims.proofs.rows.one_per_visit.Goals as goal

pub returns-clause-one_instance : goal.returns-clause-one_instance
returns-clause-one_instance c = record {
  instance = (((λ s n. refl), ((λ s n. refl), tt)), (((λ s n. refl), ((λ s n. refl), tt)), tt));
  ask = (tt, (tt, tt));
  dead = (tt, (tt, tt));
}

pub returns-clause-two_instances : goal.returns-clause-two_instances
returns-clause-two_instances c h =
    let same : 0 ≡ 1 = ap (λ (v : Instance). v.0) (h.instance.0.1.0 refl refl) in omega (arith, same)

pub returns-clause-two_visits : goal.returns-clause-two_visits
returns-clause-two_visits c = record {
  instance = (
    ((λ s n. refl), ((λ s n. absurd (omega (arith, n))), tt)),
    (((λ s n. absurd (omega (arith, n))), ((λ s n. refl), tt)), tt),
  );
  ask = (tt, (tt, tt));
  dead = (tt, (tt, tt));
}

pub returns-clause-one_ask : goal.returns-clause-one_ask
returns-clause-one_ask c = record {
  instance = tt;
  ask = (omega arith, (omega arith, tt));
  dead = ((λ l. absurd (omega (arith, l))), ((λ l. absurd (omega (arith, l))), tt));
}

pub returns-clause-two_asks : goal.returns-clause-two_asks
returns-clause-two_asks c h = let count = h.ask.0 in omega (arith, count)

pub returns-clause-asks_of_two : goal.returns-clause-asks_of_two
returns-clause-asks_of_two c h = let count = h.ask.0 in omega (arith, count)

pub returns-clause-pieces_of_dead : goal.returns-clause-pieces_of_dead
unfolding next_moment cub_of
returns-clause-pieces_of_dead c = record {
  instance = tt;
  ask = (tt, (omega arith, (omega arith, tt)));
  dead = (tt, ((λ l. refl), ((λ l. refl), tt)));
}

pub returns-clause-piece_of_living : goal.returns-clause-piece_of_living
unfolding next_moment cub_of
returns-clause-piece_of_living c h = let died = h.dead.1.0 (omega arith) in absurd (cc)

pub returns-clause-pieces_of_returned : goal.returns-clause-pieces_of_returned
unfolding next_moment cub_of
returns-clause-pieces_of_returned c = record {
  instance = tt;
  ask = (tt, (tt, (omega arith, tt)));
  dead = (tt, (tt, ((λ l. refl), tt)));
}

pub returns-clause-returned_before_death : goal.returns-clause-returned_before_death
unfolding next_moment cub_of
returns-clause-returned_before_death c h = let died = h.dead.1.0 (omega arith) in absurd (cc)
