use Rattle.std.specs.List.{list_any}
use Rattle.std.specs.Str.{bytes_eq}
use Rattle.json_look.specs.Json.{has_only}
use Rattle.json_look.proofs.JsonLemmas.{all_named-members}
use Rattle.json_look.proofs.look.has_only.Goals as goal

pub loop-key-init : goal.loop-key-init
unfolding has_only
loop-key-init c =
    let e = c.in-Some.ensures in
    rw (c.into_iter-key-iterator.ensures.into_iter_gives, c.keys-key-items.ensures.rest, ← e) (all_named-members (λ k. list_any (λ n. bytes_eq k n.now) c.args.names.now) c.in-Some.members.now.entries)
