use Rattle.std.proofs.Common.{refl}
use Rattle.whole_run.proofs.run.run_nodes.Goals as goal

pub returns-clause-ran : goal.returns-clause-ran
returns-clause-ran g c = record {
  nodes = c.in_ok-ran.ran.nodes.items;
  journals = c.in_ok-ran.ran.journals;
  ran = record {
    kept = c.in_ok-ran.ensures.kept;
    carried = c.in_ok-ran.ensures.carried;
    paced = c.in_ok-ran.ensures.paced;
    timed = c.in_ok-ran.ensures.timed;
  };
  is = rw (c.new.ensures, c.in_ok-digests.ensures, c.as_slice-3.ensures.value, c.in_ok-outcomes.ensures, c.as_slice.ensures, c.as_slice-2.ensures) refl;
}

pub returns-clause-told : goal.returns-clause-told
returns-clause-told g c = rw (c.in_ok-outcomes.ensures, c.as_slice.ensures, c.as_slice-2.ensures) refl
