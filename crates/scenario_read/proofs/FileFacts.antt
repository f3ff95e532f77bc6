-- What holds of the files, the offsets, the delay and the read faults that were read.
use Rattle.std.proofs.Common.{◌≡◌, ℕ, ◌+◌, ◌*◌, ◌≤◌, ◌<◌, Bool, true, false, cond, ◌&&◌, nat_le, List, [], ◌∷◌, length, replicate, Option, Some, None, option_map, option_and_then, codes, Ok, refl, subst, arith}
use Rattle.std.specs.List.{All}
use Rattle.std.proofs.lemmas.Bool.{leb-true}
use Rattle.std.proofs.lemmas.Option.{same_Some}
use Rattle.std.proofs.lemmas.List.{length-replicate}
use Rattle.std.proofs.lemmas.List.Elements.{All-nil, All-replicate}
use Rattle.tiger_base.specs.Limits.{most_beats}
use Rattle.serde_json.specs.Data.{Data}
use Rattle.serde_json.specs.Find.{get, as_number, as_u64, as_str}
use Rattle.link_timing.specs.Clock.{FixedIsWithin}
use Rattle.link_timing.specs.declared.Delay.{Delay}
use Rattle.link_timing.specs.declared.Delay.TheVariants.{Fixed, Drawn}
use Rattle.slot_plan.specs.declared.params.Params.{Params}
use Rattle.node_kit.specs.declared.course.ReadFault.{ReadFault}
use Rattle.scenario_read.specs.declared.scenario.FileLine.{FileLine}
use Rattle.scenario_read.specs.Fault.{broken, exceeded, keeps, found}
use Rattle.json_look.specs.Json.{whole_at, ranged_at, below_at, has_only, is_one_of}
use Rattle.scenario_read.specs.Items.{items_of}
use Rattle.scenario_read.specs.Timing.{beats_of, delay_of, links_of, offset_in, offset_after, offsets_of}
use Rattle.scenario_read.specs.Files.{name_of, file_of, file_after, files_of}
use Rattle.scenario_read.specs.ReadFaults.{fault_on, read_fault_of, read_fault_after, read_faults_of}
use Rattle.scenario_read.specs.Sound.{IsFile, IsReadFault}
use Rattle.json_look.proofs.Inversions.{then-some, map-some, tested-some, in-range, ranged_at-range, below_at-range}
use Rattle.scenario_read.proofs.Inversions.{bind-ok, ok-same, found-ok, keeps-ok}
use Rattle.scenario_read.proofs.ItemFacts.{AreRead, items_of-read, given_or-read, Keeps-each}

pub record AreBeats (cubs beats : ℕ) : Type 0 where
  pub some : 1 ≤ beats
  pub few : beats ≤ most_beats
  pub product : beats * cubs ≤ 2000000

pub beats_of-sound : (cubs : ℕ) (d : Data) (beats : ℕ) → beats_of cubs d ≡ Ok beats → AreBeats cubs beats
unfolding beats_of
beats_of-sound cubs d beats e =
    let a = bind-ok (found (ranged_at (codes "beats") 1 most_beats d) (broken 5 0)) _ beats e in
    let b = bind-ok (keeps (nat_le (a.0 * cubs) 2000000) (exceeded 5 (a.0 * cubs) 2000000)) _ beats a.2 in
    let r = ranged_at-range (codes "beats") 1 most_beats d a.0 (found-ok (ranged_at (codes "beats") 1 most_beats d) (broken 5 0) a.0 a.1) in
    let p = leb-true (a.0 * cubs) 2000000 (keeps-ok (nat_le (a.0 * cubs) 2000000) (exceeded 5 (a.0 * cubs) 2000000) b.0 b.1) in
    subst (AreBeats cubs) (ok-same a.0 beats b.2) (record { some = r.0; few = r.1; product = p })

-- a delay by the two tests of its form
fixed-within : (b c : Bool) (most : ℕ) (o p : Option ℕ) (delay : Delay) → ((n : ℕ) → o ≡ Some n → (1 ≤ n) × (n ≤ most))
    → cond b (option_map (λ n. Fixed n) o) (cond c (option_map (λ n. Drawn n) p) None) ≡ Some delay → FixedIsWithin delay most
fixed-within true c most (Some m) p delay range e = subst (λ (y : Delay). FixedIsWithin y most) (same_Some (Fixed m) delay e) (range m refl)
fixed-within true c most None p delay range e = absurd (cc)
fixed-within false true most o (Some m) delay range e = subst (λ (y : Delay). FixedIsWithin y most) (same_Some (Drawn m) delay e) tt
fixed-within false true most o None delay range e = absurd (cc)
fixed-within false false most o p delay range e = absurd (cc)

pub delay_of-sound : (most : ℕ) (d : Data) (delay : Delay) → delay_of most d ≡ Some delay → FixedIsWithin delay most
unfolding delay_of
delay_of-sound most d delay e =
    fixed-within (has_only (is_one_of (codes "fixed" ∷ [])) d) (has_only (is_one_of (codes "drawn" ∷ [])) d) most
    (ranged_at (codes "fixed") 1 most d) (whole_at (codes "drawn") d) delay (λ n. ranged_at-range (codes "fixed") 1 most d n) e

pub links_of-sound : (most : ℕ) (d : Data) (delay : Delay) → links_of most d ≡ Ok delay → FixedIsWithin delay most
unfolding links_of
links_of-sound most d delay e =
    let a = then-some (delay_of most) (get (codes "links") d) delay (found-ok (option_and_then (delay_of most) (get (codes "links") d)) (broken 6 0) delay e) in
    delay_of-sound most a.0 delay a.2

pub record AreOffsets (p : Params) (offsets : List ℕ) : Type 0 where
  pub count : length offsets ≡ p.cubs + 1
  pub skewed : All (λ o. o ≤ p.skew) offsets

offset_in-sound : (skew : ℕ) (d : Data) (n : ℕ) → offset_in skew d ≡ Some n → n ≤ skew
unfolding offset_in
offset_in-sound skew d n e =
    let a = then-some (λ (k : ℕ). cond (nat_le k skew) (Some k) None) (option_and_then as_u64 (as_number d)) n e in
    let b = tested-some (nat_le a.0 skew) (Some a.0) n a.2 in
    subst (λ (k : ℕ). k ≤ skew) (same_Some a.0 n b.1) (leb-true a.0 skew b.0)

given_offsets : (p : Params) (d : Data) (offsets : List ℕ) → items_of 7 (p.cubs + 1) (p.cubs + 1) (p.cubs + 1) (offset_after p.skew) d ≡ Ok offsets → AreOffsets p offsets
given_offsets p d offsets e =
    let P : ℕ → Type 0 = λ o. o ≤ p.skew in
    let r = items_of-read 7 (p.cubs + 1) (p.cubs + 1) (p.cubs + 1) (offset_after p.skew) (All P) d offsets
    (Keeps-each (offset_after p.skew) P (λ front h n. offset_in-sound p.skew h n)) (All-nil P) e in
    record { count = omega (arith, r.low, r.high); skewed = r.kept }

pub offsets_of-sound : (p : Params) (d : Data) (offsets : List ℕ) → offsets_of p d ≡ Ok offsets → AreOffsets p offsets
unfolding offsets_of
offsets_of-sound p d offsets e =
    given_or-read (AreOffsets p) (replicate (p.cubs + 1) 0) (items_of 7 (p.cubs + 1) (p.cubs + 1) (p.cubs + 1) (offset_after p.skew)) (get (codes "offsets") d) offsets
    (record { count = length-replicate (p.cubs + 1) 0; skewed = All-replicate (λ o. o ≤ p.skew) (p.cubs + 1) 0 (omega arith) })
    (λ f. given_offsets p f offsets) e

name_of-sound : (d : Data) (name : List ℕ) → name_of d ≡ Some name → (1 ≤ length name) × (length name ≤ 200)
unfolding name_of
name_of-sound d name e =
    let a = then-some (λ (s : List ℕ). cond (nat_le 1 (length s) && nat_le (length s) 200) (Some s) None) (option_and_then as_str (get (codes "name") d)) name e in
    let b = tested-some (nat_le 1 (length a.0) && nat_le (length a.0) 200) (Some a.0) name a.2 in
    subst (λ (s : List ℕ). (1 ≤ length s) × (length s ≤ 200)) (same_Some a.0 name b.1) (in-range 1 200 (length a.0) b.0)

-- a file by its parts
file-sound : (b : Bool) (disks : ℕ) (name : Option (List ℕ)) (disk : Option ℕ) (file : FileLine)
    → ((s : List ℕ) → name ≡ Some s → (1 ≤ length s) × (length s ≤ 200)) → ((n : ℕ) → disk ≡ Some n → n < disks)
    → cond b (option_and_then (λ s. option_map {U = FileLine} (λ k. record { name = s; disk = record { 0 = k } }) disk) name) None ≡ Some file → IsFile disks file
file-sound true disks (Some s) (Some n) file named below e =
    subst (IsFile disks) (same_Some _ file e) (record { named = (named s refl).0; short = (named s refl).1; on_disk = below n refl })
file-sound true disks (Some s) None file named below e = absurd (cc)
file-sound true disks None disk file named below e = absurd (cc)
file-sound false disks name disk file named below e = absurd (cc)

pub file_of-sound : (disks : ℕ) (d : Data) (file : FileLine) → file_of disks d ≡ Some file → IsFile disks file
unfolding file_of
file_of-sound disks d file e =
    file-sound (has_only (is_one_of (codes "name" ∷ codes "disk" ∷ [])) d) disks (name_of d) (below_at (codes "disk") disks d) file
    (λ s. name_of-sound d s) (λ n. below_at-range (codes "disk") disks d n) e

pub files_of-sound : (disks : ℕ) (d : Data) (files : List FileLine) → files_of disks d ≡ Ok files → AreRead (All (IsFile disks)) 1 64 files
unfolding files_of
files_of-sound disks d files e =
    let a = bind-ok (found (get (codes "files") d) (broken 8 64)) (items_of 8 1 64 64 (file_after disks)) files e in
    items_of-read 8 1 64 64 (file_after disks) (All (IsFile disks)) a.0 files
    (Keeps-each (file_after disks) (IsFile disks) (λ front f file. file_of-sound disks f file)) (All-nil (IsFile disks)) a.2

fault_on-sound : (disks beats disk : ℕ) (d : Data) (fault : ReadFault) → disk < disks → fault_on beats disk d ≡ Some fault → IsReadFault disks beats fault
unfolding fault_on
fault_on-sound disks beats disk d fault lt e =
    let a = then-some (λ until. option_map {U = ReadFault} (λ from. record { disk = record { 0 = disk }; from = from; until = until }) (below_at (codes "from") until d)) (ranged_at (codes "until") 1 beats d) fault e in
    let b = map-some {B = ReadFault} (λ from. record { disk = record { 0 = disk }; from = from; until = a.0 }) (below_at (codes "from") a.0 d) fault a.2 in
    let u = ranged_at-range (codes "until") 1 beats d a.0 a.1 in
    subst (IsReadFault disks beats) b.2 (record { of_disk = lt; some = below_at-range (codes "from") a.0 d b.0 b.1; early = u.1 })

read_fault_of-sound : (disks beats : ℕ) (d : Data) (fault : ReadFault) → read_fault_of disks beats d ≡ Some fault → IsReadFault disks beats fault
unfolding read_fault_of
read_fault_of-sound disks beats d fault e =
    let a = tested-some (has_only (is_one_of (codes "disk" ∷ codes "from" ∷ codes "until" ∷ [])) d) (option_and_then (λ disk. fault_on beats disk d) (below_at (codes "disk") disks d)) fault e in
    let b = then-some (λ disk. fault_on beats disk d) (below_at (codes "disk") disks d) fault a.1 in
    fault_on-sound disks beats b.0 d fault (below_at-range (codes "disk") disks d b.0 b.1) b.2

given_faults : (disks beats : ℕ) (d : Data) (faults : List ReadFault) → items_of 12 0 1000 1000 (read_fault_after disks beats) d ≡ Ok faults → AreRead (All (IsReadFault disks beats)) 0 1000 faults
given_faults disks beats d faults e =
    items_of-read 12 0 1000 1000 (read_fault_after disks beats) (All (IsReadFault disks beats)) d faults
    (Keeps-each (read_fault_after disks beats) (IsReadFault disks beats) (λ front h fault. read_fault_of-sound disks beats h fault)) (All-nil (IsReadFault disks beats)) e

pub read_faults_of-sound : (disks beats : ℕ) (d : Data) (faults : List ReadFault) → read_faults_of disks beats d ≡ Ok faults → AreRead (All (IsReadFault disks beats)) 0 1000 faults
unfolding read_faults_of
read_faults_of-sound disks beats d faults e =
    given_or-read (AreRead (All (IsReadFault disks beats)) 0 1000) [] (items_of 12 0 1000 1000 (read_fault_after disks beats)) (get (codes "read_faults") d) faults
    (record { kept = All-nil (IsReadFault disks beats); low = omega arith; high = omega arith })
    (λ f. given_faults disks beats f faults) e
