-- Which words are for `tiger` to answer, and which of them it refuses.
use Rattle.std.proofs.Common.{◌≡◌, ℕ, List, [], length, get_or, refl, ap, arith}
use Rattle.tiger_input.specs.Words.{IsNoCommand}
use Rattle.tiger_disks.proofs.Asked.{no_disks}
use Rattle.tiger_top.specs.Commands.{AreTigers, AsksJournal, AsksSpare, IsNoTopCommand}
use Rattle.tiger_top.specs.Samples.{journal_words, spare_words}

abbrev first_letter : List (List ℕ) → ℕ
first_letter words = get_or (get_or words 0 []) 0 0

abbrev count : List (List ℕ) → ℕ
count words = length words

-- neither two words of which the first begins as `net`, as `check` or as `audit` does, nor three of which it begins as `journal` or as
-- `spare` does, nor any of which it begins as `disks` does
pub tigers_by : (words : List (List ℕ)) → (count words ≡ 2 → first_letter words ≡ 110 → ⊥) → (count words ≡ 3 → first_letter words ≡ 106 → ⊥)
    → (count words ≡ 3 → first_letter words ≡ 115 → ⊥) → (first_letter words ≡ 100 → ⊥) → (count words ≡ 2 → first_letter words ≡ 99 → ⊥)
    → (count words ≡ 2 → first_letter words ≡ 97 → ⊥) → AreTigers words
tigers_by words no_n no_j no_s no_d no_c no_a = record {
  no_net = λ name net. no_n (ap count net) (ap first_letter net);
  no_journal = λ name workers journal. no_j (ap count journal.form) (ap first_letter journal.form);
  no_spare = λ name workers spare. no_s (ap count spare.form) (ap first_letter spare.form);
  no_disks = λ name image over disks. no_d (ap first_letter disks);
  no_check = λ name check. no_c (ap count check) (ap first_letter check);
  no_audit = λ name audit. no_a (ap count audit) (ap first_letter audit);
}

-- a word behind the image has the length of `--force`
abbrev fourth_length : List (List ℕ) → ℕ
fourth_length words = length (get_or words 3 [])

-- the words begin as `disks` does, and are neither three words nor four of which the last is as long as `--force`
pub refused_disks : (words : List (List ℕ)) → first_letter words ≡ 100 → (count words ≡ 3 → ⊥)
    → (count words ≡ 4 → fourth_length words ≡ 7 → ⊥) → IsNoTopCommand words
refused_disks words d no_p no_f = record {
  tigers = record {
    no_net = λ name net. (let n = ap first_letter net in omega (arith, n, d));
    no_journal = λ name workers journal. (let j = ap first_letter journal.form in omega (arith, j, d));
    no_spare = λ name workers spare. (let s = ap first_letter spare.form in omega (arith, s, d));
    no_disks = no_disks words (λ name image plain. no_p (ap count plain))
        (λ name image forced. no_f (ap count forced) (ap fourth_length forced));
    no_check = λ name check. (let k = ap first_letter check in omega (arith, k, d));
    no_audit = λ name audit. (let a = ap first_letter audit in omega (arith, a, d));
  };
  none = record {
    no_run = λ name workers run. (let r = ap first_letter run.form in omega (arith, r, d));
    no_make = λ number make. (let m = ap first_letter make.form in omega (arith, m, d));
  };
}

-- the first word begins neither as `run` does nor as `make`
pub no_command : (words : List (List ℕ)) → (first_letter words ≡ 114 → ⊥) → (first_letter words ≡ 109 → ⊥) → IsNoCommand words
no_command words no_r no_m = record {
  no_run = λ name workers run. no_r (ap first_letter run.form);
  no_make = λ number make. no_m (ap first_letter make.form);
}

-- these words ask for the journals of a run by one worker
pub one_worker : (name : List ℕ) → AsksJournal (journal_words name 1) name 1
one_worker name = record { form = refl; some = omega arith; few = omega arith }

-- these words ask for such a run in which disks may die
pub one_spare : (name : List ℕ) → AsksSpare (spare_words name 1) name 1
one_spare name = record { form = refl; some = omega arith; few = omega arith }
