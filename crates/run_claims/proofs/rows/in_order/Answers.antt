use Rattle.std.proofs.Common.{◌≡◌, refl, ap, arith}
use Rattle.tiger_base.specs.declared.number.Instance.{Instance}
use Rattle.run_claims.proofs.rows.in_order.Goals as goal

pub returns-clause-earlier : goal.returns-clause-earlier
returns-clause-earlier c = (((λ v n. omega arith), tt), tt)

pub returns-clause-same_beat : goal.returns-clause-same_beat
returns-clause-same_beat c h = let before = h.0.0 refl (omega arith) in omega (arith, before)

pub returns-clause-piece_late : goal.returns-clause-piece_late
returns-clause-piece_late c h = let before = h.0.0 refl (omega arith) in omega (arith, before)

pub returns-clause-of_other : goal.returns-clause-of_other
returns-clause-of_other c = (((λ v n. let same : 0 ≡ 1 = ap (λ (i : Instance). i.0) v in omega (arith, same)), tt), tt)

pub returns-clause-behind_a_gap : goal.returns-clause-behind_a_gap
returns-clause-behind_a_gap c h = let before = h.0.0 refl (omega arith) in omega (arith, before)

pub returns-clause-earlier_visit : goal.returns-clause-earlier_visit
returns-clause-earlier_visit c = (((λ v n. omega (arith, n)), tt), tt)
