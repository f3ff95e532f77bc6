-- Which words are a command.
use Rattle.std.specs.Prelude.{◌≡◌, ◌≢◌, ℕ, ◌≤◌, ◌<◌, ◌^◌, List, [], ◌∷◌, map, length, slice_index, codes, String, string_bytes}
use Rattle.std.specs.Fmt.{decimal}
use Rattle.std.specs.declared.alloc.Global.{Global}
use Rattle.tiger_input.specs.declared.words.Command.{Command}
use Rattle.tiger_input.specs.declared.words.Command.TheVariants as command

-- no plus and no leading zero
abbrev pub IsPlainWord : List ℕ → Type 0
IsPlainWord word = (slice_index word 0 ≢ 43) × (slice_index word 0 ≡ 48 → length word ≡ 1)

-- the word is no number of 64 bits in decimal
abbrev pub IsNoNumber : List ℕ → Type 0
IsNoNumber word = (n : ℕ) → n < 2 ^ 64 → word ≢ decimal n

-- how many workers a run has at most
abbrev pub most_workers : ℕ
most_workers = 64

-- the word is this number of workers in decimal
abbrev pub AreWorkers : List ℕ → ℕ → Type 0
AreWorkers word n = (1 ≤ n) × (n ≤ most_workers) × (word ≡ decimal n)

-- the word is no number of workers
abbrev pub AreNoWorkers : List ℕ → Type 0
AreNoWorkers word = (n : ℕ) → 1 ≤ n → n ≤ most_workers → word ≢ decimal n

abbrev pub texts_of : List (String Global) → List (List ℕ)
texts_of words = map string_bytes words

-- the words `run NAME W`, and W is from 1 to 64 in decimal
pub record IsRun (words : List (List ℕ)) (name : List ℕ) (workers : ℕ) : Type 0 where
  pub form : words ≡ codes "run" ∷ name ∷ decimal workers ∷ []
  pub some : 1 ≤ workers
  pub few : workers ≤ most_workers

-- the words `make NUMBER`, and NUMBER has 64 bits and stands in decimal
pub record IsMake (words : List (List ℕ)) (number : ℕ) : Type 0 where
  pub form : words ≡ codes "make" ∷ decimal number ∷ []
  pub fits : number < 2 ^ 64

-- the words are no `run NAME W`, and no `make NUMBER`
abbrev pub IsNoRun : List (List ℕ) → Type 0
IsNoRun words = (name : List ℕ) (workers : ℕ) → ¬ IsRun words name workers

abbrev pub IsNoMake : List (List ℕ) → Type 0
IsNoMake words = (number : ℕ) → ¬ IsMake words number

-- the words are neither
pub record IsNoCommand (words : List (List ℕ)) : Type 0 where
  pub no_run : IsNoRun words
  pub no_make : IsNoMake words

-- the words are this command
abbrev pub Asks : List (List ℕ) → Command → Type 0
Asks words (command.Run name workers) = IsRun words name.now workers
Asks words (command.Make number) = IsMake words number
