-- What was read of a part, and what is then given.
use Rattle.std.proofs.Common.{◌≡◌, ℕ, List, length, Option, Some, None, Result, Ok, Err, IfOk, IfErr, Vec, Global, ap, sym, ◌∙◌, subst, arith}
use Rattle.std.proofs.lemmas.List.{ext_get_or}
use Rattle.sha2.specs.Sha256.{sha256}
use Rattle.node_kit.specs.declared.course.Digest32.{Digest32}
use Rattle.file_disk.specs.Devices.{DeviceState, StandAt, AreReadAt}
use Rattle.file_disk.specs.Fetching.{HasKept, IsFetched, IsDamaged, FetchCause, StandsWhole, GivesWhatStands, IsOther}
use Rattle.file_disk.specs.declared.directory.Extent.{Extent}
use Rattle.file_disk.specs.declared.getting.FetchFault.{FetchFault}
use Rattle.file_disk.specs.declared.getting.FetchFault.TheVariants.{Failed, Damaged, NoMemory}

-- bytes of one length that stand at one place are one
same-bytes : (e : Extent) (told : Option (List ℕ)) (xs ys : List ℕ) → StandsWhole (Some e) told xs → StandAt told e.at ys → length ys ≡ e.len → ys ≡ xs
same-bytes e None xs ys whole stand len = absurd whole
same-bytes e (Some t) xs ys whole stand len =
    let long : length ys ≡ length xs = len ∙ sym whole.0.len in
    ext_get_or 0 ys xs long (λ i h. sym (stand i h) ∙ whole.1 i (omega (arith, h, long)))

-- what stands whole is given
pub whole-given : (e : Extent) (told : Option (List ℕ)) (v : Vec ℕ Global) → HasKept e v.items → StandAt told e.at v.items
    → GivesWhatStands (Some e) told (Ok (Some v))
whole-given e told v has stand = λ bytes whole. same-bytes e told bytes v.items whole stand has.len

-- and is not called damaged
not-damaged : (e : Extent) (old new : DeviceState) (at : ℕ) (kept found : Digest32) (bytes : List ℕ) → IsDamaged e old new at kept found
    → StandsWhole (Some e) old.told bytes → HasKept e bytes → ⊥
not-damaged e old new at kept found bytes d whole has =
    let same = same-bytes e old.told bytes d.bytes whole d.read.are d.len in
    d.other (d.is ∙ ap sha256 same ∙ has.digest ∙ ap (λ (k : Digest32). k.0) (sym d.was))

has-of : (e : Extent) (told : Option (List ℕ)) (bytes : List ℕ) → StandsWhole (Some e) told bytes → HasKept e bytes
has-of e None bytes whole = absurd whole
has-of e (Some t) bytes whole = whole.0

pub whole-fault : (e : Extent) (old new : DeviceState) (fault : FetchFault) → FetchCause (Some e) old new fault
    → GivesWhatStands (Some e) old.told (Err fault)
whole-fault e old new Failed cause = λ bytes whole. tt
whole-fault e old new (Damaged at kept found) cause = λ bytes whole. not-damaged e old new at kept found bytes cause whole (has-of e old.told bytes whole)
whole-fault e old new NoMemory cause = λ bytes whole. tt

-- bytes that were compared
pub checked-given : (e : Extent) (old new : DeviceState) (bytes : List ℕ) (r : Result (Vec ℕ Global) FetchFault)
    → AreReadAt old new e.at bytes → length bytes ≡ e.len → IfOk r (λ v. v.items ≡ bytes) → IfOk r (λ _. sha256 bytes ≡ e.digest.0)
    → IfOk r (λ v. IsFetched (Some e) old new (Some v.items))
checked-given e old new bytes (Ok v) read len same kept =
    subst (λ (bs : List ℕ). IsFetched (Some e) old new (Some bs)) (sym same) (read, record { len = len; digest = kept })
checked-given e old new bytes (Err fault) read len same kept = tt

other-cause : (e : Extent) (old new : DeviceState) (bytes : List ℕ) (fault : FetchFault)
    → AreReadAt old new e.at bytes → length bytes ≡ e.len → IsOther e bytes fault → FetchCause (Some e) old new fault
other-cause e old new bytes Failed read len other = absurd other
other-cause e old new bytes (Damaged at kept found) read len other =
    record {
      bytes = bytes;
      read = read;
      len = len;
      place = other.0;
      was = other.1;
      is = other.2;
      other = other.3;
    }
other-cause e old new bytes NoMemory read len other = absurd other

pub checked-cause : (e : Extent) (old new : DeviceState) (bytes : List ℕ) (r : Result (Vec ℕ Global) FetchFault)
    → AreReadAt old new e.at bytes → length bytes ≡ e.len → IfErr r (IsOther e bytes) → IfErr r (FetchCause (Some e) old new)
checked-cause e old new bytes (Ok v) read len other = tt
checked-cause e old new bytes (Err fault) read len other = other-cause e old new bytes fault read len other
