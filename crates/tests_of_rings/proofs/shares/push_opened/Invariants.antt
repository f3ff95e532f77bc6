use Rattle.std.proofs.Common.{[], ◌∷◌}
use Rattle.std.specs.Prelude.{◌==◌, if◌then◌else◌}
use Rattle.tests_of_rings.specs.declared.shares.Echo.{Echo}
use Rattle.tests_of_rings.proofs.shares.push_opened.Given as goal

-- of the nodes only disk 0 has a share
abbrev disk : Echo
disk = record { back = record { 0 = 48 } }

abbrev pub ghosts-push_told : goal.ghosts-push_told
ghosts-push_told g a = record {
  course = a.course.now ∷ [];
  opening = disk ∷ disk ∷ disk ∷ disk ∷ disk ∷ disk ∷ disk ∷ disk ∷ disk ∷ [];
  line = λ l. if l == 40 then a.into.line else a.out.line;
  home = λ n. if n == 8 then 1 else 0;
}
