-- What it says of the parts of a meaning that it is a value.
use Rattle.std.proofs.Common.{◌≡◌, ℕ, ◌≤◌, ◌<◌, List, Bool, true, false, cond, ◌&&◌, nat_le, nat_lt, length, Option, Some, None, option_and_then, option_map, refl, subst}
use Rattle.std.proofs.lemmas.Bool.{ltb-true, leb-true}
use Rattle.std.proofs.lemmas.Option.{same_Some}
use Rattle.serde_json.specs.Data.{Data}
use Rattle.json_look.specs.Json.{whole_at, ranged_at, below_at, array_of, sized_array}

pub then-some : {A B : Type 0} (f : A → Option B) (o : Option A) (y : B) → option_and_then f o ≡ Some y → (x : A) × (o ≡ Some x) × (f x ≡ Some y)
then-some f (Some x) y e = (x, refl, e)
then-some f None y e = absurd (cc)

pub map-some : {A B : Type 0} (f : A → B) (o : Option A) (y : B) → option_map f o ≡ Some y → (x : A) × (o ≡ Some x) × (f x ≡ y)
map-some f (Some x) y e = (x, refl, same_Some (f x) y e)
map-some f None y e = absurd (cc)

-- a value behind a test
pub tested-some : {A : Type 0} (b : Bool) (o : Option A) (y : A) → cond b o None ≡ Some y → (b ≡ true) × (o ≡ Some y)
tested-some true o y e = (refl, e)
tested-some false o y e = absurd (cc)

both-true : (a b : Bool) → (a && b) ≡ true → (a ≡ true) × (b ≡ true)
both-true true b e = (refl, e)
both-true false b e = absurd (cc)

-- a number that passes both tests of a range
pub in-range : (low high n : ℕ) → (nat_le low n && nat_le n high) ≡ true → (low ≤ n) × (n ≤ high)
in-range low high n e = let b = both-true (nat_le low n) (nat_le n high) e in (leb-true low n b.0, leb-true n high b.1)

pub ranged_at-range : (name : List ℕ) (low high : ℕ) (d : Data) (n : ℕ) → ranged_at name low high d ≡ Some n → (low ≤ n) × (n ≤ high)
unfolding ranged_at
ranged_at-range name low high d n e =
    let a = then-some (λ (k : ℕ). cond (nat_le low k && nat_le k high) (Some k) None) (whole_at name d) n e in
    let b = tested-some (nat_le low a.0 && nat_le a.0 high) (Some a.0) n a.2 in
    subst (λ (k : ℕ). (low ≤ k) × (k ≤ high)) (same_Some a.0 n b.1) (in-range low high a.0 b.0)

pub below_at-range : (name : List ℕ) (limit : ℕ) (d : Data) (n : ℕ) → below_at name limit d ≡ Some n → n < limit
unfolding below_at
below_at-range name limit d n e =
    let a = then-some (λ (k : ℕ). cond (nat_lt k limit) (Some k) None) (whole_at name d) n e in
    let b = tested-some (nat_lt a.0 limit) (Some a.0) n a.2 in
    subst (λ (k : ℕ). k < limit) (same_Some a.0 n b.1) (ltb-true a.0 limit b.0)

pub sized-range : (least most : ℕ) (d : Data) (ds : List Data) → sized_array least most d ≡ Some ds → (least ≤ length ds) × (length ds ≤ most)
unfolding sized_array
sized-range least most d ds e =
    let a = then-some (λ (es : List Data). cond (nat_le least (length es) && nat_le (length es) most) (Some es) None) (array_of d) ds e in
    let b = tested-some (nat_le least (length a.0) && nat_le (length a.0) most) (Some a.0) ds a.2 in
    subst (λ (es : List Data). (least ≤ length es) × (length es ≤ most)) (same_Some a.0 ds b.1) (in-range least most (length a.0) b.0)
