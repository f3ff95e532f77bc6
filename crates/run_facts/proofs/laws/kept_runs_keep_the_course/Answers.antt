use Rattle.run_facts.proofs.laws.kept_runs_keep_the_course.Goals as goal

pub returns : goal.returns
returns g c note step course given nodes journals kept = (kept.each_has_journal, kept.keeps)
