use Rattle.std.proofs.Common.{◌≡◌, ◌≤◌, ◌++◌, ◌∷◌, [], length, length-append, arith}
use Rattle.std.proofs.lemmas.List.Elements.{All-push}
use Rattle.tiger_base.specs.Library.{contents}
use Rattle.hostile_world.proofs.Libraries.{length-contents, contents-push}
use Rattle.hostile_world.proofs.opening.library_of.Goals as goal

pub new-requires : goal.new-requires
new-requires c = omega (arith, c.loop-file.files.ok.0, length-contents c.loop-file.files.items, c.loop-file.invariant.count, c.requires)

pub loop-file-preserved : goal.loop-file-preserved
loop-file-preserved c =
    let before = contents c.loop-file.files.items in
    let bytes = c.in_ok-file.field-0.items in
    let pushed : contents c.push.new.self.items ≡ before ++ bytes ∷ [] =
    rw c.in_ok-push.ensures.items (contents-push c.loop-file.files.items c.in_ok-file.field-0) in
    record {
      count = rw pushed (omega (arith, length-append before (bytes ∷ []), c.loop-file.invariant.count));
      filled = rw pushed (All-push (λ bytes. 1 ≤ length bytes) before bytes c.loop-file.invariant.filled
          (omega (arith, c.in_ok-file.ensures, c.in_ok-file.field-0.ok.0)));
    }
