-- Which words are a command beside those of `tiger`, and which are none at all.
use Rattle.std.specs.Prelude.{◌≡◌, ℕ, ◌≤◌, Bool, List, [], ◌∷◌, codes, String, Vec}
use Rattle.std.specs.Fmt.{decimal}
use Rattle.std.specs.declared.alloc.Global.{Global}
use Rattle.tiger_input.specs.Words.{IsNoCommand, most_workers, texts_of}
use Rattle.tiger_disks.specs.Words.{AsksDisks, IsNoDisks}
use Rattle.tiger_audit.specs.Words.{AsksAudit, IsNoAudit}
use Rattle.tiger_check.specs.Words.{AsksCheck, IsNoCheck}
use Rattle.tiger_top.specs.declared.commands.TopCommand.{TopCommand}
use Rattle.tiger_top.specs.declared.commands.TopCommand.TheVariants as command

-- the words `net NAME`
abbrev pub IsNet : List (List ℕ) → List ℕ → Type 0
IsNet words name = words ≡ codes "net" ∷ name ∷ []

abbrev pub IsNoNet : List (List ℕ) → Type 0
IsNoNet words = (name : List ℕ) → ¬ IsNet words name

-- the words `journal NAME W`, and W is from 1 to 64 in decimal
pub record AsksJournal (words : List (List ℕ)) (name : List ℕ) (workers : ℕ) : Type 0 where
  pub form : words ≡ codes "journal" ∷ name ∷ decimal workers ∷ []
  pub some : 1 ≤ workers
  pub few : workers ≤ most_workers

abbrev pub AsksNoJournal : List (List ℕ) → Type 0
AsksNoJournal words = (name : List ℕ) (workers : ℕ) → ¬ AsksJournal words name workers

-- the words `spare NAME W`, and W is from 1 to 64 in decimal
pub record AsksSpare (words : List (List ℕ)) (name : List ℕ) (workers : ℕ) : Type 0 where
  pub form : words ≡ codes "spare" ∷ name ∷ decimal workers ∷ []
  pub some : 1 ≤ workers
  pub few : workers ≤ most_workers

abbrev pub AsksNoSpare : List (List ℕ) → Type 0
AsksNoSpare words = (name : List ℕ) (workers : ℕ) → ¬ AsksSpare words name workers

-- the words are none of the commands beside those of `tiger`, so that they are for `tiger` to answer
pub record AreTigers (words : List (List ℕ)) : Type 0 where
  pub no_net : IsNoNet words
  pub no_journal : AsksNoJournal words
  pub no_spare : AsksNoSpare words
  pub no_disks : IsNoDisks words
  pub no_check : IsNoCheck words
  pub no_audit : IsNoAudit words

-- the words are no command at all
pub record IsNoTopCommand (words : List (List ℕ)) : Type 0 where
  pub tigers : AreTigers words
  pub none : IsNoCommand words

-- the words are this command
abbrev pub AsksTop : List (List ℕ) → TopCommand → Type 0
AsksTop words command.Tiger = AreTigers words
AsksTop words (command.Net name) = IsNet words name.now
AsksTop words (command.Journal name workers) = AsksJournal words name.now workers
AsksTop words (command.Spare name workers) = AsksSpare words name.now workers
AsksTop words (command.Disks name image over) = AsksDisks words name.now image.now over
AsksTop words (command.Check name) = AsksCheck words name.now
AsksTop words (command.Audit name) = AsksAudit words name.now

-- ---- what is said of a call by the command that its words ask for

-- if the words are for `tiger` to answer, this holds of their texts
abbrev pub IfTigers : Vec (String Global) Global → (List (List ℕ) → Type 0) → Type 0
IfTigers words P = AreTigers (texts_of words.items) → P (texts_of words.items)

-- if they are `journal NAME W`, this holds of the name
abbrev pub IfJournal : Vec (String Global) Global → (List ℕ → Type 0) → Type 0
IfJournal words P = (name : List ℕ) (workers : ℕ) → AsksJournal (texts_of words.items) name workers → P name

-- if they are `spare NAME W`, this holds of the name
abbrev pub IfSpare : Vec (String Global) Global → (List ℕ → Type 0) → Type 0
IfSpare words P = (name : List ℕ) (workers : ℕ) → AsksSpare (texts_of words.items) name workers → P name

-- if they are `net NAME`, this holds of the name
abbrev pub IfNet : Vec (String Global) Global → (List ℕ → Type 0) → Type 0
IfNet words P = (name : List ℕ) → IsNet (texts_of words.items) name → P name

-- if they are `disks NAME IMAGE`, with `--force` behind them or not, this holds of the names, and of whether an image that
-- exists is written over
abbrev pub IfDisks : Vec (String Global) Global → (List ℕ → List ℕ → Bool → Type 0) → Type 0
IfDisks words P =
    (name image : List ℕ) (over : Bool) → AsksDisks (texts_of words.items) name image over → P name image over

-- if they are not so for any names, this holds
abbrev pub IfNoDisks : Vec (String Global) Global → Type 0 → Type 0
IfNoDisks words P = IsNoDisks (texts_of words.items) → P

-- if they are `check NAME`, this holds of the name
abbrev pub IfCheck : Vec (String Global) Global → (List ℕ → Type 0) → Type 0
IfCheck words P = (name : List ℕ) → AsksCheck (texts_of words.items) name → P name

-- if they are `audit NAME`, this holds of the name
abbrev pub IfAudit : Vec (String Global) Global → (List ℕ → Type 0) → Type 0
IfAudit words P = (name : List ℕ) → AsksAudit (texts_of words.items) name → P name
