-- What a disk is seen as, and where it stands.
use Rattle.std.specs.Prelude.{◌≡◌, ℕ, ◌+◌, ◌<◌, List}
use Rattle.slot_plan.specs.declared.params.Params.{Params}
use Rattle.slot_plan.specs.Conditions.{IsPlan}
use Rattle.slot_plan.specs.Times.{disk_count}
use Rattle.disk_image.specs.Image.{Image}
use Rattle.node_kit.specs.declared.course.ReadFault.{ReadFault}

-- a disk: its plan, its number, its image, and the read faults of the run
pub record DiskState : Type 0 where
  pub params : Params
  pub disk : ℕ
  pub image : Image
  pub faults : List ReadFault

-- it is the disk of that number in a ring with these numbers
pub record IsDisk (s : DiskState) (p : Params) (n : ℕ) : Type 0 where
  pub params : s.params ≡ p
  pub number : s.params.cubs + s.disk ≡ n
  pub plan : IsPlan s.params
  pub inside : s.disk < disk_count s.params
