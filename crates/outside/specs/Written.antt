-- What a sink holds after a piece was put, and why it was not put whole.
use Rattle.std.specs.Prelude.{◌≡◌, ℕ, ◌+◌, ◌^◌, ◌-◌, List, ◌++◌, Option, Some, None}
use Rattle.outside.specs.declared.sink.SinkFault.{SinkFault}
use Rattle.outside.specs.declared.sink.SinkFault.TheVariants.{Failed, NoMemory}

-- a sink: what was written to it, if it tells that, and how many puts failed
pub record SinkState : Type 0 where
  pub written : Option (List ℕ)
  pub faults : ℕ

-- how many puts can have failed before the next one
abbrev pub most_faults : ℕ
most_faults = 2 ^ 64 - 2

-- if a sink tells what it holds, these bytes were appended; whether it tells stays
abbrev pub Appended : Option (List ℕ) → Option (List ℕ) → List ℕ → Type 0
Appended None None piece = Unit {0}
Appended None (Some new) piece = ⊥
Appended (Some old) None piece = ⊥
Appended (Some old) (Some new) piece = new ≡ old ++ piece

-- a front of the piece was appended
abbrev pub FrontAppended : Option (List ℕ) → Option (List ℕ) → List ℕ → Type 0
FrontAppended old new piece =
    (front : List ℕ) × (rest : List ℕ) × (piece ≡ front ++ rest) × Appended old new front

-- why a piece was not put whole: one more put failed behind a front of it, or nothing was written
abbrev pub SinkCause : SinkState → SinkState → List ℕ → SinkFault → Type 0
SinkCause old new piece Failed =
    (new.faults ≡ old.faults + 1) × FrontAppended old.written new.written piece
SinkCause old new piece NoMemory = (new.faults ≡ old.faults) × (new.written ≡ old.written)
