-- Files in memory tell of each name its bytes, or that there is no such file.
use Rattle.std.proofs.Common.{◌≡◌, ℕ, ◌≤◌, List, [], ◌∷◌, length, map, Option, Some, None, refl, sym, ap, arith}
use Rattle.std.proofs.Common.{Vec, Global, string_bytes}
use Rattle.std.specs.BTreeMap.{is_at}
use Rattle.std.specs.Cmp.Lexicographic.{slice_cmp}
use Rattle.std.specs.Map.{lookup}
use Rattle.std.specs.Ordering.{nat_cmp}
use Rattle.outside.specs.Told.{bytes, absent, untold, AreTold, NoneTold, HasBytes}
use Rattle.outside.specs.Memory.{Entries, found_bytes, told_of}
use Rattle.tiger_input.specs.Inputs.{AreFirst}
use Rattle.tiger_input.specs.Tellings.{TellsAll}

-- what is found under a name
abbrev found : Entries → List ℕ → Option (Vec ℕ Global)
found entries name = lookup (is_at (λ k. slice_cmp nat_cmp name (string_bytes k))) entries

found_told : (o : Option (Vec ℕ Global)) (given : List ℕ) → AreTold (found_bytes o) given → found_bytes o ≡ bytes given
found_told (Some v) given is = ap bytes (sym is)
found_told None given is = absurd is

found_none : (o : Option (Vec ℕ Global)) → NoneTold (found_bytes o) → found_bytes o ≡ absent
found_none (Some v) none = absurd none
found_none None none = refl

found_many : (o : Option (Vec ℕ Global)) (given : ℕ) → HasBytes (found_bytes o) given
    → (content : List ℕ) × (found_bytes o ≡ bytes content) × (given ≤ length content)
found_many (Some v) given has = (v.items, refl, has)
found_many None given has = absurd has

never_untold : (o : Option (Vec ℕ Global)) → found_bytes o ≡ untold → ⊥
never_untold (Some v) e = absurd (cc)
never_untold None e = absurd (cc)

-- bytes that are told of a name are what the files tell of it
pub is_told : (entries : Entries) (name given : List ℕ) → AreTold (told_of entries name) given
    → told_of entries name ≡ bytes given
is_told entries name given is = found_told (found entries name) given is

pub is_absent : (entries : Entries) (name : List ℕ) → NoneTold (told_of entries name) → told_of entries name ≡ absent
is_absent entries name none = found_none (found entries name) none

pub has_bytes : (entries : Entries) (name : List ℕ) (given : ℕ) → HasBytes (told_of entries name) given
    → (content : List ℕ) × (told_of entries name ≡ bytes content) × (given ≤ length content)
has_bytes entries name given has = found_many (found entries name) given has

-- and so of all names
pub are_told : (entries : Entries) (names files : List (List ℕ))
    → AreFirst (told_of entries) names files → length files ≡ length names
    → map (told_of entries) names ≡ map bytes files
are_told entries [] [] first same = refl
are_told entries [] (f ∷ fs) first same = absurd first
are_told entries (n ∷ ns) [] first same = absurd (omega (arith, same))
are_told entries (n ∷ ns) (f ∷ fs) first same =
    let head : told_of entries n ≡ bytes f = is_told entries n f first.0 in
    let rest : map (told_of entries) ns ≡ map bytes fs = are_told entries ns fs first.1 (omega (arith, same)) in
    cc

-- of every name something is told
pub tells_all : (entries : Entries) → TellsAll (told_of entries)
tells_all entries name e = never_untold (found entries name) e
