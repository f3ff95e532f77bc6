-- Parts whose instances are noted, as some come and others go.
use Rattle.std.proofs.Common.{◌≡◌, ℕ, ◌+◌, ◌<◌, ◌≤◌, ◌==◌, Bool, true, false, cond, List, [], ◌∷◌, ◌++◌, length, get_or, map, refl, ap, subst, ⊎_elim, arith}
use Rattle.std.specs.List.{filter}
use Rattle.std.proofs.lemmas.Bool.{cases_lt}
use Rattle.std.proofs.lemmas.List.{get_or_default}
use Rattle.std.proofs.lemmas.List.Elements.{All-from_recursion, recursion_from_All}
use Rattle.tiger_base.specs.declared.number.Instance.{Instance}
use Rattle.instance_marks.specs.Marks.{IsNoted, most_marked}
use Rattle.instance_marks.proofs.Marked.{noted_place}
use Rattle.cub_rules.specs.declared.parts.KeptPart.{KeptPart}
use Rattle.cub_rules.specs.declared.store.StoredPart.{StoredPart}
use Rattle.cub_rules.specs.Fresh.{ArePartsNoted, fresh_parts, is_fresh}

abbrev owner : KeptPart → Instance
owner k = k.stored.want.instance

pub noted_left : (marks : List Bool) (test : KeptPart → Bool) (ks : List KeptPart) → ArePartsNoted marks ks → ArePartsNoted marks (filter test ks)
noted_left marks test [] h = tt
noted_left marks test (k ∷ ks) h =
    let rest = noted_left marks test ks h.1 in
    elim (test k) as (λ t. ArePartsNoted marks (cond t (k ∷ filter test ks) (filter test ks))) [ true ↦ (h.0, rest) | false ↦ rest ]

pub noted_still : (marks now : List Bool) (ks : List KeptPart) → ((v : Instance) → IsNoted marks v → IsNoted now v) → ArePartsNoted marks ks → ArePartsNoted now ks
noted_still marks now [] keeps h = tt
noted_still marks now (k ∷ ks) keeps h = (keeps (owner k) h.0, noted_still marks now ks keeps h.1)

pub noted_with : (marks : List Bool) (k : KeptPart) (ks : List KeptPart) → ArePartsNoted marks ks → IsNoted marks (owner k) → ArePartsNoted marks (ks ++ k ∷ [])
noted_with marks k [] h own = (own, tt)
noted_with marks k (l ∷ ls) h own = (h.0, noted_with marks k ls h.1 own)

-- those that are left, of other instances than one, stay noted without it
pub noted_without : (marks now : List Bool) (v : Instance) (test : KeptPart → Bool) (ks : List KeptPart) → ((w : Instance) → IsNoted marks w → (w.0 == v.0) ≡ false → IsNoted now w)
    → ((k : KeptPart) → test k ≡ true → ((owner k).0 == v.0) ≡ false) → ArePartsNoted marks ks → ArePartsNoted now (filter test ks)
noted_without marks now v test [] keeps apart h = tt
noted_without marks now v test (k ∷ ks) keeps apart h = at (test k) refl (noted_without marks now v test ks keeps apart h.1)
  where
    at : (t : Bool) → test k ≡ t → ArePartsNoted now (filter test ks) → ArePartsNoted now (cond t (k ∷ filter test ks) (filter test ks))
    at true e rest = (keeps (owner k) h.0 (apart k e), rest)
    at false e rest = rest

-- where none is of an instance, all pass a test that only those of it fail
pub all_stay : (marks : List Bool) (v : Instance) (test : StoredPart → Bool) (time : ℕ) (ks : List KeptPart) → ((w : Instance) → IsNoted marks w → (w.0 == v.0) ≡ false)
    → ((x : StoredPart) → (x.want.instance.0 == v.0) ≡ false → test x ≡ true) → ArePartsNoted marks ks → fresh_parts time ks ≡ filter test (fresh_parts time ks)
all_stay marks v test time [] none passes h = refl
all_stay marks v test time (k ∷ ks) none passes h =
    let rest = all_stay marks v test time ks none passes h.1 in
    let own : test k.stored ≡ true = passes k.stored (none (owner k) h.0) in
    let ones : List KeptPart = filter (is_fresh time) ks in
    elim (is_fresh time k) as (λ t. map (λ (l : KeptPart). l.stored) (cond t (k ∷ ones) ones) ≡ filter test (map (λ (l : KeptPart). l.stored) (cond t (k ∷ ones) ones))) [
      | true ↦ rw own (ap (λ (xs : List StoredPart). k.stored ∷ xs) rest)
      | false ↦ rest
    ]

-- some of them are noted again, one after another
abbrev pub AreNotedTo : List Bool → List KeptPart → ℕ → Type 0
AreNotedTo marks ks n = (j : ℕ) (d : KeptPart) → j < n → j < length ks → IsNoted marks (owner (get_or ks j d))

pub noted_next : (marks now : List Bool) (ks : List KeptPart) (n : ℕ) (k : KeptPart) → n < length ks → ((v : Instance) → IsNoted marks v → IsNoted now v) → IsNoted now (owner (get_or ks n k)) → AreNotedTo marks ks n → AreNotedTo now ks (n + 1)
noted_next marks now ks n k inside keeps own h = λ j d below there.
    ⊎_elim
    (λ (l : j < n). keeps (owner (get_or ks j d)) (h j d l there))
    (λ l.
    let same : n ≡ j = omega (arith, l, below) in
    subst (λ (i : ℕ). IsNoted now (owner (get_or ks i d))) same (subst (λ (m : KeptPart). IsNoted now (owner m)) (get_or_default ks n k d inside) own))
    (cases_lt j n)

pub noted_all : (marks : List Bool) (ks : List KeptPart) (n : ℕ) → length ks ≤ n → AreNotedTo marks ks n → ArePartsNoted marks ks
noted_all marks ks n long h = recursion_from_All (λ (k : KeptPart). IsNoted marks (owner k)) ks (λ j d l. h j d (omega (arith, l, long)) l)

-- there is a place for each that was noted
pub placed : (marks now : List Bool) (ks : List KeptPart) (n : ℕ) (k : KeptPart) → ArePartsNoted marks ks → length now ≡ length marks → n < length ks → (owner (get_or ks n k)).0 < most_marked → (owner (get_or ks n k)).0 < length now
placed marks now ks n k h same inside small =
    let own = All-from_recursion (λ (l : KeptPart). IsNoted marks (owner l)) ks h n k inside in
    omega (arith, noted_place marks (owner (get_or ks n k)).0 (own small), same)
