-- Parts that were stored behind other parts.
use Rattle.std.proofs.Common.{◌≡◌, ℕ, ◌+◌, ◌-◌, ◌≤◌, inl, inr, List, [], ◌∷◌, ◌++◌, length, get_or, Option, Some, None, refl, ap, sym, ◌∙◌, subst, append_assoc, arith}
use Rattle.std.proofs.lemmas.Bool.{cases_lt}
use Rattle.std.proofs.lemmas.Grind.{flat_map-append}
use Rattle.std.proofs.lemmas.List.{append-nil, length-append, get_or_append_left, get_or-append-add}
use Rattle.file_disk.specs.Devices.{DeviceState, AreWrittenAt, StandAt, AreSameOutside}
use Rattle.file_disk.specs.Extents.{NamedPart, all_bytes, placed, extent_at}
use Rattle.file_disk.specs.Storing.{IsCutShort, StoreCause, Progress, Stored}
use Rattle.file_disk.specs.declared.directory.Extent.{Extent}
use Rattle.file_disk.specs.declared.putting.StoreFault.{StoreFault}
use Rattle.file_disk.specs.declared.putting.StoreFault.TheVariants.{Failed, NoMemory}

-- what stays the same
pub same-refl : (a : Option (List ℕ)) (at len : ℕ) → AreSameOutside a a at len
same-refl None at len = tt
same-refl (Some t) at len = λ i o. refl

pub same-wider : (a b : Option (List ℕ)) (at len at' len' : ℕ) → at' ≤ at → at + len ≤ at' + len'
    → AreSameOutside a b at len → AreSameOutside a b at' len'
same-wider None None at len at' len' low high f = tt
same-wider None (Some b) at len at' len' low high f = absurd f
same-wider (Some a) None at len at' len' low high f = absurd f
same-wider (Some a) (Some b) at len at' len' low high f = λ i o. elim o [
  | inl before ↦ f i (inl (omega arith))
  | inr behind ↦ f i (inr (omega arith))
]

pub same-trans : (a b c : Option (List ℕ)) (at len : ℕ)
    → AreSameOutside a b at len → AreSameOutside b c at len → AreSameOutside a c at len
same-trans None None None at len f g = tt
same-trans None None (Some c) at len f g = absurd g
same-trans None (Some b) c at len f g = absurd f
same-trans (Some a) None c at len f g = absurd f
same-trans (Some a) (Some b) None at len f g = absurd g
same-trans (Some a) (Some b) (Some c) at len f g = λ i o. g i o ∙ f i o

-- no bytes stand anywhere
pub stand-none : (a : Option (List ℕ)) (at : ℕ) → StandAt a at []
stand-none None at = tt
stand-none (Some t) at = λ i h. absurd (omega (arith, h))

-- bytes stand behind others, which stand still
pub stand-join : (b c : Option (List ℕ)) (at : ℕ) (xs ys : List ℕ) (len : ℕ)
    → StandAt b at xs → AreSameOutside b c (at + length xs) len → StandAt c (at + length xs) ys
    → StandAt c at (xs ++ ys)
stand-join None None at xs ys len stood same there = tt
stand-join None (Some c) at xs ys len stood same there = absurd same
stand-join (Some b) None at xs ys len stood same there = absurd same
stand-join (Some b) (Some c) at xs ys len stood same there = λ i h. elim (cases_lt i (length xs)) [
  | inl first ↦ same (at + i) (inl (omega arith)) ∙ stood i first ∙ sym (get_or_append_left xs ys 0 i first)
  | inr later ↦
      let k = i - length xs in
      let place : at + i ≡ at + length xs + k = omega arith in
      let part : length xs + k ≡ i = omega arith in
      ap (λ (n : ℕ). get_or c n 0) place
      ∙ there k (omega (arith, h, length-append xs ys))
      ∙ sym (get_or-append-add xs ys k 0)
      ∙ ap (λ (n : ℕ). get_or (xs ++ ys) n 0) part
]

-- the bytes of parts
pub bytes-append : (ps qs : List NamedPart) → all_bytes (ps ++ qs) ≡ all_bytes ps ++ all_bytes qs
bytes-append ps qs = flat_map-append (λ (p : NamedPart). p.bytes) ps qs

pub size-append : (ps qs : List NamedPart) → length (all_bytes (ps ++ qs)) ≡ length (all_bytes ps) + length (all_bytes qs)
size-append ps qs = ap length (bytes-append ps qs) ∙ length-append (all_bytes ps) (all_bytes qs)

-- what is kept of them
pub placed-append : (at : ℕ) (ps qs : List NamedPart)
    → placed at (ps ++ qs) ≡ placed at ps ++ placed (at + length (all_bytes ps)) qs
placed-append at [] qs = ap (λ (n : ℕ). placed n qs) (omega arith)
placed-append at (p ∷ ps) qs =
    let place : at + length p.bytes + length (all_bytes ps) ≡ at + length (p.bytes ++ all_bytes ps) = omega (arith, length-append p.bytes (all_bytes ps)) in
    ap (λ (es : List Extent). extent_at at p ∷ es)
    (placed-append (at + length p.bytes) ps qs
    ∙ ap (λ (n : ℕ). placed (at + length p.bytes) ps ++ placed n qs) place)

-- nothing was stored
pub stored-none : (a : Progress) → Stored a a []
stored-none a =
    record {
      extents = sym (append-nil a.extents);
      next = omega arith;
      written = record {
        names = refl;
        faults = refl;
        reads = refl;
        refusals = refl;
        there = stand-none a.device.told a.next;
        outside = same-refl a.device.told a.next 0;
      };
    }

-- parts were written, and more parts behind them
written-join : (a b c : DeviceState) (at : ℕ) (xs ys : List ℕ)
    → AreWrittenAt a b at xs → AreWrittenAt b c (at + length xs) ys → AreWrittenAt a c at (xs ++ ys)
written-join a b c at xs ys s t =
    let whole = length-append xs ys in
    let first = same-wider a.told b.told at (length xs) at (length (xs ++ ys)) (omega arith) (omega (arith, whole)) s.outside in
    let second = same-wider b.told c.told (at + length xs) (length ys) at (length (xs ++ ys)) (omega arith) (omega (arith, whole)) t.outside in
    record {
      names = t.names ∙ s.names;
      faults = t.faults ∙ s.faults;
      reads = t.reads ∙ s.reads;
      refusals = t.refusals ∙ s.refusals;
      there = stand-join b.told c.told at xs ys (length ys) s.there t.outside t.there;
      outside = same-trans a.told b.told c.told at (length (xs ++ ys)) first second;
    }

pub stored-join : (a b c : Progress) (ps qs : List NamedPart) → Stored a b ps → Stored b c qs → Stored a c (ps ++ qs)
stored-join a b c ps qs s t =
    let behind : AreWrittenAt b.device c.device (a.next + length (all_bytes ps)) (all_bytes qs) =
    subst (λ (n : ℕ). AreWrittenAt b.device c.device n (all_bytes qs)) s.next t.written in
    let both = written-join a.device b.device c.device a.next (all_bytes ps) (all_bytes qs) s.written behind in
    let list : placed a.next ps ++ placed b.next qs ≡ placed a.next (ps ++ qs) =
    ap (λ (n : ℕ). placed a.next ps ++ placed n qs) s.next ∙ sym (placed-append a.next ps qs) in
    record {
      extents = t.extents
          ∙ ap (λ (es : List Extent). es ++ placed b.next qs) s.extents
          ∙ append_assoc a.extents (placed a.next ps) (placed b.next qs)
          ∙ ap (λ (es : List Extent). a.extents ++ es) list;
      next = omega (arith, s.next, t.next, size-append ps qs);
      written = subst (λ (bs : List ℕ). AreWrittenAt a.device c.device a.next bs) (sym (bytes-append ps qs)) both;
    }

-- one more part at the end
pub stored-as : (a b : Progress) (ps qs : List NamedPart) → ps ≡ qs → Stored a b ps → Stored a b qs
stored-as a b ps qs e s = subst (λ (rs : List NamedPart). Stored a b rs) e s

-- parts were stored, and then it was cut short
cut-join : (a b : Progress) (d : DeviceState) (ps : List NamedPart) (m len more : ℕ)
    → Stored a b ps → length (all_bytes ps) + m ≤ len → IsCutShort b.device d b.next m more
    → IsCutShort a.device d a.next len more
cut-join a b d ps m len more s within cut =
    let first = same-wider a.device.told b.device.told a.next (length (all_bytes ps)) a.next len (omega arith) (omega arith) s.written.outside in
    let second = same-wider b.device.told d.told b.next m a.next len (omega (arith, s.next)) (omega (arith, s.next)) cut.outside in
    record {
      names = cut.names ∙ s.written.names;
      faults = omega (arith, s.written.faults, cut.faults);
      reads = cut.reads ∙ s.written.reads;
      refusals = cut.refusals ∙ s.written.refusals;
      outside = same-trans a.device.told b.device.told d.told a.next len first second;
    }

pub cause-join : (a b : Progress) (d : DeviceState) (ps : List NamedPart) (m len : ℕ) (fault : StoreFault)
    → Stored a b ps → length (all_bytes ps) + m ≤ len → StoreCause b.device d b.next m fault
    → StoreCause a.device d a.next len fault
cause-join a b d ps m len Failed s within cause = cut-join a b d ps m len 1 s within cause
cause-join a b d ps m len NoMemory s within cause = cut-join a b d ps m len 0 s within cause
