-- That a start which nobody puts breaks each promise on waiting.
use Rattle.std.proofs.Common.{false, List, [], ◌∷◌, refl, sym, ◌∙◌, arith, ⊎_elim, inl}
use Rattle.std.proofs.lemmas.Bool.{false≢true}
use Rattle.run_facts.specs.Order.{Noted}
use Rattle.run_model.specs.Samples.{put, seat_in}
use Rattle.run_model.proofs.OnSamples.{on_samples}
use Rattle.run_promises.specs.Samples.{one_block, wait}
use Rattle.run_promises.proofs.Broken as broken
use Rattle.run_promises.proofs.Worked as worked
use Rattle.run_promises.proofs.rows.waits_in_vain.Goals as goal

pub returns-clause-tried : goal.returns-clause-tried
unfolding on_samples
returns-clause-tried c k p s law = ⊎_elim
    (λ over. broken.never_over k p s 2 over)
    (λ taken. broken.never_taken k p s 0 2 1 0 taken)
    (law (wait 0 2 1520) 2 1 0 (worked.waits_until k p s [] 1520 (omega arith) (omega arith)) (omega arith) (omega arith) (omega arith) refl refl)

pub returns-clause-enough : goal.returns-clause-enough
unfolding on_samples
returns-clause-enough c k p s law = broken.never_over k p s 1520
    (law (wait 0 2 1520) 1 0 (omega arith) (worked.waits_until k p s [] 1520 (omega arith) (omega arith))
    (record { in_plan = omega arith; on_disk = refl; ahead = omega arith; in_time = omega arith })
    (λ beat low high taken. broken.never_taken k p s 0 beat 1 0 taken))

pub returns-clause-turn : goal.returns-clause-turn
returns-clause-turn c k p s law = ⊎_elim
    (λ over. broken.never_over k p s 1520 over)
    (λ all. let t = all 0 (omega arith) in broken.never_taken k p s 0 t.beat 0 t.visit t.taken)
    (law (wait 0 2 1520) (omega arith) (worked.waits_until k p s [] 1520 (omega arith) (omega arith)) worked.turn)

pub returns-clause-room : goal.returns-clause-room
returns-clause-room c k p s law = broken.never_over k p s 1520
    (law (wait 0 2 1520) (omega arith) (worked.waits_until k p s [] 1520 (omega arith) (omega arith)) worked.turn (broken.has_room k p s))

pub returns-clause-empty : goal.returns-clause-empty
unfolding on_samples
returns-clause-empty c k p s law = broken.never_over k p s 1520
    (law (wait 0 2 1520) (omega arith) (worked.waits_until k p s [] 1520 (omega arith) (omega arith)) (omega arith) (omega arith)
    (λ slot visit beat low high taken. broken.never_taken k p s 0 beat slot visit taken))

pub returns-clause-house : goal.returns-clause-house
returns-clause-house c k p s law =
    let served = law one_block 0 1520 (omega arith) (worked.presses k p s []) worked.turn (omega arith) (worked.house k p s []) (worked.sound k p s []) in
    broken.never_over k p s 1520 (inl served.in_time)

pub returns-clause-late : goal.returns-clause-late
unfolding on_samples
returns-clause-late c k p s law =
    let log : List Noted = put 0 1521 (seat_in 0 0 16 16) ∷ [] in
    let served = law one_block 0 1520 (omega arith) (worked.presses k p s log) worked.turn (omega arith) (worked.house k p s log) (worked.sound k p s log) in
    false≢true (sym (broken.placed_by k p s 1521 0 16 1520 false (omega arith) refl) ∙ served.in_time)
