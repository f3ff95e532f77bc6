-- A ring that meets the laws has one schedule, of which its journals are a record.
use Rattle.proof_schedule.proofs.Follows.{runs}
use Rattle.proof_facts.specs.Facts.{facts_of}
use Rattle.proof_journals.specs.Journals.{RingsAreRecorded}
use Rattle.proof_journals.proofs.Ending.{tick_below_death}
use Rattle.proof_journals.proofs.Besides.{besides}
use Rattle.proof_journals.proofs.Telling.{journals_tell}
use Rattle.proof_journals.proofs.Logging.{facts_are_logged}
use Rattle.proof_journals.proofs.Keeping.{journals_keep_order}

pub rings_are_recorded : (S : Type 0) → RingsAreRecorded S
rings_are_recorded S step p orders disk_at added h journals plan ring are first later law cubs = record {
  plan = plan;
  one = runs p (facts_of p orders h) plan law;
  more = besides p (facts_of p orders h) plan law cubs (tick_below_death ring);
  tells = journals_tell S step p orders disk_at added h journals plan ring are first later;
  logged = facts_are_logged S step p orders disk_at added h journals plan ring are;
  keeps = journals_keep_order S step p orders disk_at added h journals plan ring are law;
}
