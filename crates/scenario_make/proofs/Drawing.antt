-- Draws after draws.
use Rattle.std.proofs.Common.{◌≡◌, ℕ, zero, suc, ◌+◌, ◌%◌, ◌<◌, ◌≤◌, ap, ◌∙◌, refl, arith}
use Rattle.rand_pcg.specs.Lcg.{Lcg}
use Rattle.rand_pcg.specs.Pcg.{pcg32}
use Rattle.scenario_make.specs.Draws.{after, draw}

pub after-after : (g : Lcg) (n m : ℕ) → after m (after n g) ≡ after (n + m) g
unfolding after
after-after g n zero =
    let e : n ≡ n + 0 = omega arith in
    ap (λ (k : ℕ). after k g) e
after-after g n (suc m) =
    let e : suc (n + m) ≡ n + suc m = omega arith in
    ap (λ (h : Lcg). (pcg32 h).1) (after-after g n m) ∙ ap (λ (k : ℕ). after k g) e

-- the first draw after n others
pub draw_behind : (g h : Lcg) (n bound : ℕ) → h ≡ after n g → draw h 0 bound ≡ draw g n bound
unfolding draw after
draw_behind g h n bound e = ap (λ (k : Lcg). (pcg32 k).0 % bound) e

-- the generator after one draw more
pub after_more : (g h k : Lcg) (n : ℕ) → h ≡ after n g → k ≡ after 1 h → k ≡ after (n + 1) g
after_more g h k n e f = f ∙ ap (after 1) e ∙ after-after g n 1

-- the generator before any draw
pub after-none : (g : Lcg) → after 0 g ≡ g
unfolding after
after-none g = refl

-- three draws one after another: the second, the third, and the generator after them
pub record AreDraws (g last : Lcg) (b x c y : ℕ) : Type 0 where
  pub second : x ≡ draw g 1 b
  pub third : y ≡ draw g 2 c
  pub end : last ≡ after 3 g

pub three_draws : (g h k last : Lcg) (b x c y : ℕ) → h ≡ after 1 g → x ≡ draw h 0 b → k ≡ after 1 h → y ≡ draw k 0 c → last ≡ after 1 k
    → AreDraws g last b x c y
three_draws g h k last b x c y e f e' f' e'' =
    let two = after_more g h k 1 e e' in
    record {
      second = f ∙ draw_behind g h 1 b e;
      third = f' ∙ draw_behind g k 2 c two;
      end = after_more g k last 2 two e'';
    }

pub draw-below : (g : Lcg) (n bound : ℕ) → 1 ≤ bound → draw g n bound < bound
unfolding draw
draw-below g n bound low = omega arith
