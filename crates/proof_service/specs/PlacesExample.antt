-- The worked run of proof_service, with the file that its viewer is sent, meets the laws of disks.
use Rattle.std.specs.Prelude.{◌≡◌, [], ◌∷◌}
use Rattle.stripe_layout.specs.declared.catalogue.Catalogue.{Catalogue}
use Rattle.stripe_layout.specs.declared.catalogue.FileInfo.{FileInfo}
use Rattle.proof_schedule.specs.Logs.{facts_in}
use Rattle.proof_pieces.specs.PieceLogs.{pieces_in}
use Rattle.proof_service.specs.Example.{plan, one_run, its_pieces, its_blocks}
use Rattle.proof_service.specs.ServiceLogs.{service_in}
use Rattle.proof_service.specs.Disks.{DiskLaws}

-- A file of two blocks of four bytes, of which the first is on disk 0.
abbrev pub two_blocks : FileInfo
two_blocks = record { len = 8; disk = record { 0 = 0 } }

-- The laws can be met, over a catalogue with this one file.
pub record PlacesCanBeMet : Type 0 where
  pub catalogue : Catalogue
  pub files : catalogue.files ≡ two_blocks ∷ []
  pub laws : DiskLaws plan catalogue (facts_in one_run) (pieces_in its_pieces) (service_in its_blocks)
