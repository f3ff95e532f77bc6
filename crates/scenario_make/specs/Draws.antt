-- What is drawn: the words of a generator, one after another, each modulo a number.
use Rattle.std.specs.Prelude.{ℕ, zero, suc, ◌%◌}
use Rattle.rand_pcg.specs.Lcg.{Lcg, started, increment_of}
use Rattle.rand_pcg.specs.Pcg.{multiplier_64, pcg32}

-- the generator that a number starts, on stream 1
unfoldable pub generator_of : ℕ → Lcg
generator_of number = started 64 multiplier_64 number (increment_of 64 1)

-- a generator after so many draws
unfoldable pub after : ℕ → Lcg → Lcg
after zero g = g
after (suc n) g = (pcg32 (after n g)).1

-- a generator's draw of this number, counted from 0: its word, modulo a bound
unfoldable pub draw : Lcg → ℕ → ℕ → ℕ
draw g n bound = (pcg32 (after n g)).0 % bound
