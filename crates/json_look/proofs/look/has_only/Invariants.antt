use Rattle.std.proofs.Common.{◌≡◌}
use Rattle.std.specs.List.{list_any}
use Rattle.std.specs.Str.{bytes_eq}
use Rattle.serde_json.specs.View.{view}
use Rattle.json_look.specs.Json.{has_only}
use Rattle.json_look.proofs.JsonLemmas.{keys_pass}
use Rattle.json_look.proofs.look.has_only.Given as goal

-- the keys that are left decide
abbrev pub invariant-loop-key : goal.invariant-loop-key
invariant-loop-key l =
    has_only (λ k. list_any (λ n. bytes_eq k n.now) l.names) (view l.fn.value) ≡ keys_pass (λ k. list_any (λ n. bytes_eq k n.now) l.names) l.key-iterator
