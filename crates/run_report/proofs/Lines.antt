-- The room that a line has.
use Rattle.std.proofs.Common.{◌≡◌, ℕ, ◌+◌, ◌-◌, ◌≤◌, ◌<◌, ◌^◌, List, ◌++◌, length, drop, arith}
use Rattle.std.specs.Fmt.{decimal}
use Rattle.std.proofs.lemmas.Fmt.{length-decimal-le}
use Rattle.std.proofs.lemmas.List.{length-append, length-drop}

-- a number has at most 20 digits
pub few_digits : (n : ℕ) → n < 2 ^ 64 → length (decimal n) ≤ 20
few_digits n small = length-decimal-le 20 n (omega arith) (omega arith) small

-- its digits fit before what stands from a place on
pub digits_fit : (bytes seen : List ℕ) (start n : ℕ) → (start ≤ 128) × (length bytes ≡ 128) → drop start bytes ≡ seen
    → 20 + length seen ≤ 128 → n < 2 ^ 64 → (length (decimal n) ≤ start) × (start ≤ length bytes)
digits_fit bytes seen start n ok is room small =
    let left : length seen ≡ length bytes - start = rw (← is) (length-drop start bytes) in
    let few = few_digits n small in
    (omega (arith, ok.0, ok.1, left, few, room), omega (arith, ok.0, ok.1))

pub short_digits : (n : ℕ) (seen new : List ℕ) → n < 2 ^ 64 → new ≡ decimal n ++ seen → length new ≤ 20 + length seen
short_digits n seen new small is =
    let sum : length new ≡ length (decimal n) + length seen = rw is (length-append (decimal n) seen) in
    let few = few_digits n small in
    omega (arith, sum, few)
