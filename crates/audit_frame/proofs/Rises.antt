-- The beats of the order of all entries do not fall.
use Rattle.std.proofs.Common.{◌≡◌, ℕ, zero, suc, ◌+◌, ◌≤◌, ◌==◌, Bool, true, false, cond, List, [], ◌∷◌, ◌++◌, map, filter, refl, sym, subst, arith}
use Rattle.std.specs.List.{AllByRecursion}
use Rattle.std.proofs.lemmas.Bool.{eqb-true}
use Rattle.node_kit.specs.declared.course.Kept.{Kept}
use Rattle.node_kit.specs.declared.journal.Entry.{Entry}
use Rattle.run_facts.specs.Accounts.{Rising}
use Rattle.run_facts.specs.Order.{Noted, beat_of, in_beat, order_from}
use Rattle.run_facts.proofs.Rows.{all-append}
use Rattle.audit_frame.specs.Lines.{told_by}
use Rattle.audit_frame.specs.Said.{LinesRise}

-- ---- of one beat

some_here : (n b : ℕ) (t : Bool) (e : Entry) (es : List Entry) → (e.stamp.beat == b) ≡ t
    → AllByRecursion (λ (x : Noted). beat_of x ≡ b) (map (λ f. record { node = n; entry = f }) es)
    → AllByRecursion (λ (x : Noted). beat_of x ≡ b) (map (λ f. record { node = n; entry = f }) (cond t (e ∷ es) es))
some_here n b true e es is rest = (eqb-true e.stamp.beat b is, rest)
some_here n b false e es is rest = rest

journal_here : (n b : ℕ) (es : List Entry)
    → AllByRecursion (λ (x : Noted). beat_of x ≡ b) (map (λ f. record { node = n; entry = f }) (filter (λ e. e.stamp.beat == b) es))
journal_here n b [] = tt
journal_here n b (e ∷ es) = some_here n b (e.stamp.beat == b) e (filter (λ f. f.stamp.beat == b) es) refl (journal_here n b es)

beat_here : (b n : ℕ) (js : List (List Entry)) → AllByRecursion (λ (x : Noted). beat_of x ≡ b) (in_beat b n js)
beat_here b n [] = tt
beat_here b n (j ∷ js) =
    all-append (λ (x : Noted). beat_of x ≡ b) (map (λ e. record { node = n; entry = e }) (filter (λ e. e.stamp.beat == b) j)) (in_beat b (n + 1) js)
    (journal_here n b j) (beat_here b (n + 1) js)

-- ---- of all beats

not_below_all : (b c : ℕ) (xs : List Noted) → c ≤ b → AllByRecursion (λ (x : Noted). beat_of x ≡ b) xs → AllByRecursion (λ (x : Noted). c ≤ beat_of x) xs
not_below_all b c [] le h = tt
not_below_all b c (x ∷ xs) le h = ((let is = h.0 in omega (arith, is, le)), not_below_all b c xs le h.1)

from_beat : (c b k : ℕ) (js : List (List Entry)) → c ≤ b → AllByRecursion (λ (x : Noted). c ≤ beat_of x) (order_from b k js)
from_beat c b zero js le = tt
from_beat c b (suc k) js le =
    all-append (λ (x : Noted). c ≤ beat_of x) (in_beat b 0 js) (order_from (b + 1) k js)
    (not_below_all b c (in_beat b 0 js) le (beat_here b 0 js)) (from_beat c (b + 1) k js (omega (arith, le)))

above : (c d : ℕ) (ys : List Noted) → c ≤ d → AllByRecursion (λ (y : Noted). d ≤ beat_of y) ys → AllByRecursion (λ (y : Noted). c ≤ beat_of y) ys
above c d [] le h = tt
above c d (y ∷ ys) le h = ((let up = h.0 in omega (arith, up, le)), above c d ys le h.1)

rising_both : (b : ℕ) (xs ys : List Noted) → AllByRecursion (λ (x : Noted). beat_of x ≡ b) xs → AllByRecursion (λ (y : Noted). b ≤ beat_of y) ys
    → Rising beat_of ys → Rising beat_of (xs ++ ys)
rising_both b [] ys here up rest = rest
rising_both b (x ∷ xs) ys here up rest =
    let is = here.0 in (
      all-append (λ (y : Noted). beat_of x ≤ beat_of y) xs ys (not_below_all b (beat_of x) xs (omega (arith, is)) here.1)
          (above (beat_of x) b ys (omega (arith, is)) up),
      rising_both b xs ys here.1 up rest,
    )

order_rises : (b k : ℕ) (js : List (List Entry)) → Rising beat_of (order_from b k js)
order_rises b zero js = tt
order_rises b (suc k) js = rising_both b (in_beat b 0 js) (order_from (b + 1) k js) (beat_here b 0 js)
    (from_beat b (b + 1) k js (omega arith)) (order_rises (b + 1) k js)

pub lines_rise : LinesRise
lines_rise k lines told = subst (λ (log : List Noted). Rising beat_of log) (sym told) (order_rises 0 k.course.beats k.journals)
