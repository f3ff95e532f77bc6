use Rattle.run_facts.proofs.TwoNodes.{ends_and_returns-holds, returns_at_once-fails, takes_what_was_lost-fails}
use Rattle.run_facts.proofs.TwoNodes.{ends_whole-fails, sends_one_more-fails, goes_on_behind_its_end-fails}
use Rattle.run_facts.proofs.worked.returning_histories.Goals as goal

pub returns-clause-whole : goal.returns-clause-whole
returns-clause-whole c p pair = ends_and_returns-holds p pair

pub returns-clause-early : goal.returns-clause-early
returns-clause-early c p pair run = returns_at_once-fails p pair run

pub returns-clause-lost : goal.returns-clause-lost
returns-clause-lost c p pair run = takes_what_was_lost-fails p pair run

pub returns-clause-uncut : goal.returns-clause-uncut
returns-clause-uncut c p pair run = ends_whole-fails p pair run

pub returns-clause-more : goal.returns-clause-more
returns-clause-more c p pair run = sends_one_more-fails p pair run

pub returns-clause-behind : goal.returns-clause-behind
returns-clause-behind c p pair run = goes_on_behind_its_end-fails p pair run
