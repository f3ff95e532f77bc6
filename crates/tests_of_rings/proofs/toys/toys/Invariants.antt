use Rattle.std.proofs.Common.{◌≡◌, ℕ, vec_len}
use Rattle.std.specs.Prelude.{Some, slice_get}
use Rattle.tests_of_rings.specs.declared.toys.Toy.{Toy}
use Rattle.tests_of_rings.specs.Toys.{LeadFrom}
use Rattle.tests_of_rings.proofs.toys.toys.Given as goal

abbrev pub invariant-loop-node : goal.invariant-loop-node
invariant-loop-node l = record {
  count : vec_len l.toys ≡ l.node;
  stand : (n : ℕ) (s : Toy) → slice_get l.toys.items n ≡ Some s → LeadFrom l.links n s.out s.relay;
}
