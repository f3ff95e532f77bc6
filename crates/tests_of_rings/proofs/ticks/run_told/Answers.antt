use Rattle.tests_of_rings.proofs.ticks.run_told.Goals as goal

pub run_workers-requires-clause-stand : goal.run_workers-requires-clause-stand
run_workers-requires-clause-stand g c κs within n s e = tt
