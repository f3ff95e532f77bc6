-- The laws, each gathered from its parts.
use Rattle.std.proofs.Common.{⊎_elim}
use Rattle.proof_facts.specs.Facts.{facts_of}
use Rattle.proof_lives.specs.TwoLifeRun.WhichLife.{First, Later}
use Rattle.proof_schedule.specs.LinkLaws.{LinkLaws}
use Rattle.proof_links.specs.Statements.{CubsAreToldInOrder, DisksAnswerAsks, HistoriesHaveTwoLives, LinksMeetTheLaws, MessagesComeInOrder, ReturnsMeetTheLaws}
use Rattle.proof_links.proofs.Asking.{disks_answer}
use Rattle.proof_links.proofs.InOrder.{in_order}
use Rattle.proof_links.proofs.Returning.{return_laws}
use Rattle.proof_links.proofs.Running.{run_laws}
use Rattle.proof_links.proofs.Stops.{stop_laws}
use Rattle.proof_links.proofs.Deschedules.{told_arrives, tag_arrives, bare_arrives, tag_from, bare_from}
use Rattle.proof_links.proofs.Starts.{start_from, one_begun, gone_after}
use Rattle.proof_links.proofs.States.{carried, arrives, heard, heard_from}
use Rattle.proof_links.proofs.Telling.{cubs_are_told}
use Rattle.proof_links.proofs.TwoLives.{blocks_of_two_lives, pieces_of_two_lives, two_lives}

pub links_meet_the_laws : (S : Type 0) → LinksMeetTheLaws S
links_meet_the_laws S step p orders disk_at added h plan ring =
    let links : LinkLaws p (facts_of p orders h) = record {
      carried = λ g. carried plan ring g;
      arrives = λ c b s to w life late. arrives plan ring c b s to w life late;
      asked_from = λ g. ⊎_elim (λ q. start_from plan ring First q) (λ q. start_from plan ring Later q) g;
      apart_from = λ g. ⊎_elim (λ q. start_from plan ring First q) (λ q. start_from plan ring Later q) g;
      heard = λ c b d to w life late. heard plan ring c b d to w life late;
      tag_from = λ g. tag_from plan ring g;
      bare_from = λ g. bare_from plan ring g;
      told_arrives = λ c b t to w life late. told_arrives plan ring c b t to w life late;
      tag_arrives = λ c b a beside w life late. tag_arrives plan ring c b a beside w life late;
      bare_arrives = λ c b a beside w life late. bare_arrives plan ring c b a beside w life late;
    } in
    record {
      run = run_laws plan ring;
      links = links;
      stops = stop_laws plan ring;
      one_order = λ i j same. one_begun plan ring i j same;
      gone_after = λ b g. gone_after plan ring b g;
      heard_from = λ g small to. heard_from plan ring g small to;
    }

pub returns_meet_the_laws : (S : Type 0) → ReturnsMeetTheLaws S
returns_meet_the_laws S step p orders disk_at added h plan ring = return_laws plan ring

pub messages_come_in_order : (S : Type 0) → MessagesComeInOrder S
messages_come_in_order S step p orders disk_at added h plan ring = in_order plan ring

pub cubs_are_told_in_order : (S : Type 0) → CubsAreToldInOrder S
cubs_are_told_in_order S step p orders disk_at added h plan ring = cubs_are_told plan ring

pub disks_answer_asks : (S : Type 0) → DisksAnswerAsks S
disks_answer_asks S step p orders disk_at added h plan ring = disks_answer plan ring

pub histories_have_two_lives : (S : Type 0) → HistoriesHaveTwoLives S
histories_have_two_lives S step p orders disk_at added h plan ring = record {
  facts = two_lives plan ring;
  pieces = pieces_of_two_lives plan ring;
  blocks = blocks_of_two_lives plan ring disk_at;
}
