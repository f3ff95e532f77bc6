use Rattle.std.proofs.Common.{sym, ◌∙◌, ⊎_elim, arith}
use Rattle.std.proofs.lemmas.Bool.{false≢true}
use Rattle.run_promises.specs.Samples.{one_log}
use Rattle.run_promises.proofs.Broken as broken
use Rattle.run_promises.proofs.Worked as worked
use Rattle.run_promises.proofs.rows.waits.Goals as goal

pub returns-clause-waits : goal.returns-clause-waits
returns-clause-waits c k p s = worked.waits_until k p s one_log 1520 (omega arith) (omega arith)

pub returns-clause-room : goal.returns-clause-room
returns-clause-room c k p s = worked.has_room k p s

pub returns-clause-too_soon : goal.returns-clause-too_soon
returns-clause-too_soon c k p s h = let came = h.came in omega (arith, came)

pub returns-clause-next_cub : goal.returns-clause-next_cub
returns-clause-next_cub c k p s h = ⊎_elim
    (λ own. omega (arith, own))
    (λ next. false≢true (sym (worked.nobody_believed k p s 1 2 0) ∙ next.1))
    h.its_cub

pub returns-clause-ended : goal.returns-clause-ended
returns-clause-ended c k p s h = let ends = h.ends in omega (arith, ends)

pub returns-clause-other_beat : goal.returns-clause-other_beat
returns-clause-other_beat c k p s h = ⊎_elim (λ e. let beat = e.0 in omega (arith, beat)) (λ n. n) h.ordered

pub returns-clause-at_once : goal.returns-clause-at_once
returns-clause-at_once c k p s = worked.waits_until k p s one_log 2 (omega arith) (omega arith)

pub returns-clause-last_beat : goal.returns-clause-last_beat
returns-clause-last_beat c k p s = worked.waits_until k p s one_log 1599 (omega arith) (omega arith)

pub returns-clause-over : goal.returns-clause-over
returns-clause-over c k p s = worked.over k p s

pub returns-clause-not_over : goal.returns-clause-not_over
returns-clause-not_over c k p s h = broken.never_over k p s 1520 h
