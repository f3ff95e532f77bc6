-- What a write to a device in memory is.
use Rattle.std.proofs.Common.{◌≡◌, ℕ, ◌+◌, List, get_or, ap, ◌∙◌, Some}
use Rattle.file_disk.specs.Devices.{AreWrittenAt}
use Rattle.file_disk.specs.Memory.{overwritten}
use Rattle.file_disk.proofs.Bytes.{overwritten-there, overwritten-outside}

-- bytes that are put over those that are told are written
pub AreWrittenAt-overwritten : (old new : List ℕ) (names names' : List (List ℕ)) (faults faults' reads reads' refusals refusals' : ℕ) (at : ℕ) (bytes : List ℕ)
    → new ≡ overwritten old at bytes → names' ≡ names → faults' ≡ faults → reads' ≡ reads → refusals' ≡ refusals
    → AreWrittenAt (record { told = Some old; names = names; faults = faults; reads = reads; refusals = refusals })
    (record { told = Some new; names = names'; faults = faults'; reads = reads'; refusals = refusals' }) at bytes
AreWrittenAt-overwritten old new names names' faults faults' reads reads' refusals refusals' at bytes e m f r n =
    record {
      names = m;
      faults = f;
      reads = r;
      refusals = n;
      there = λ i h. ap (λ (told : List ℕ). get_or told (at + i) 0) e ∙ overwritten-there old at bytes i h;
      outside = λ i h. ap (λ (told : List ℕ). get_or told i 0) e ∙ overwritten-outside old at bytes i h;
    }
