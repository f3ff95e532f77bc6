-- How the messages that a node gets are counted in each of its lives.
use Rattle.std.specs.Prelude.{◌≡◌, ℕ, suc, ◌+◌, ◌==◌, ◌&&◌, nat_le, not, Bool, false, Option, Some, None, if◌then◌else◌}
use Rattle.kept_worlds.specs.declared.life_counts.Lives.{Lives}
use Rattle.kept_worlds.specs.Telling.{counted_on}

-- whether a beat is that of a return or a later one
abbrev pub is_back_by : Option ℕ → ℕ → Bool
is_back_by None beat = false
is_back_by (Some back) beat = nat_le back beat

-- of a number for the first life and one for the later one that of the life in which a beat lies
abbrev pub by_life : Option ℕ → ℕ → ℕ → ℕ → ℕ
by_life back beat first later = if is_back_by back beat then later else first

-- how many messages are counted under a link in the life of a beat, and the number of the next one
abbrev pub got_in : Lives → ℕ → ℕ → ℕ
got_in s l beat = by_life s.back beat (counted_on l s.first) (counted_on l s.later)

abbrev pub number_next : Lives → ℕ → ℕ → ℕ
number_next s l beat = by_life s.back beat 0 (counted_on l s.lost) + got_in s l beat

-- a message more is counted under a link in the life of a beat
pub record IsOneMore (old new : Lives) (link beat : ℕ) : Type 0 where
  pub back : new.back ≡ old.back
  pub lost : new.lost ≡ old.lost
  pub first : (l : ℕ) → counted_on l new.first
      ≡ (if link == l && not (is_back_by old.back beat) then suc (counted_on l old.first) else counted_on l old.first)
  pub later : (l : ℕ) → counted_on l new.later
      ≡ (if link == l && is_back_by old.back beat then suc (counted_on l old.later) else counted_on l old.later)
