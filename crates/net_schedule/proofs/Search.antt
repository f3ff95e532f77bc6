-- One more quantum of the search for the first that cannot carry an entry too.
use Rattle.std.proofs.Common.{◌≡◌, ℕ, suc, ◌+◌, ◌-◌, ◌<◌, true, false, Some, refl, arith}
use Rattle.std.specs.Prelude.{find, option_map}
use Rattle.std.specs.List.{range_with_len}
use Rattle.net_schedule.specs.Cubs.{CubState, is_over, over_at}

pub search_here : (s : CubState) (at rate first i e : ℕ) → i < e → is_over s at rate (first + i) ≡ true
    → option_map (over_at s) (find (is_over s at rate) (range_with_len (first + i) (e - i))) ≡ Some (over_at s (first + i))
search_here s at rate first i e h t =
    let n : e - i ≡ suc (e - (i + 1)) = omega (arith, h) in
    rw n (rw t refl)

pub search_next : (s : CubState) (at rate first i e : ℕ) → i < e → is_over s at rate (first + i) ≡ false
    → option_map (over_at s) (find (is_over s at rate) (range_with_len (first + i) (e - i))) ≡ option_map (over_at s) (find (is_over s at rate) (range_with_len (first + (i + 1)) (e - (i + 1))))
search_next s at rate first i e h t =
    let n : e - i ≡ suc (e - (i + 1)) = omega (arith, h) in
    let m : first + i + 1 ≡ first + (i + 1) = omega arith in
    rw n (rw t (rw m refl))
