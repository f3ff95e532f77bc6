-- A run of a course as events of the machine of its nodes.
use Rattle.std.proofs.Common.{◌≡◌, ◌<◌, length, sym, ◌∙◌, arith}
use Rattle.std.proofs.lemmas.List.{length-map}
use Rattle.ring_world.specs.Machine.{Being, journals_of}
use Rattle.proof_answer.proofs.Lists.{each-same}
use Rattle.kept_worlds.proofs.Merged.{merges-accepted}
use Rattle.kept_worlds.specs.Laws.{RunsAreAccepted}
use Rattle.kept_worlds.proofs.Lives.{may-happen}

pub runs-accepted : (M S : Type 0) → RunsAreAccepted M S
runs-accepted M S note step c given nodes journals events place apart one size merged =
    let may = may-happen note step c given nodes journals one place apart in
    let lived = merges-accepted M S note step c.plan.params c.beats given one.history events place
    (λ n s here. (one.theirs.opens n s here).0) one.run may merged in
    let m = lived.machine in
    let count : length (journals_of m) ≡ length given =
    length-map m.beings (λ (b : Being S). b.past.journal) ∙ lived.each_has_being in
    record {
      machine = m;
      accepts = lived.accepts;
      writes = each-same (journals_of m) journals (count ∙ sym size) (λ k low.
          let within : k < length given = omega (arith, low, count) in
          lived.writes k within ∙ sym (one.theirs.writes k within));
    }
