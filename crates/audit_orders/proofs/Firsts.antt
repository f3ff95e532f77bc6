-- The first journal that is not timed, and the first two cubs side by side that die.
use Rattle.std.proofs.Common.{◌≡◌, ℕ, ◌+◌, ◌%◌, ◌<◌, ◌≤◌, Bool, true, false, ◌&&◌, List, length, get_or, Option, Some, None, is_some, slice_get, MatchOption, refl, sym, subst, ◌∙◌, ⊎_elim, inl, inr, arith}
use Rattle.std.specs.Prelude.{◌⊎◌}
use Rattle.std.proofs.lemmas.Bool.{cases_eq, false≢true}
use Rattle.std.proofs.lemmas.Option.{slice_get-get_or, slice_get_within}
use Rattle.node_kit.specs.declared.course.Course.{Course}
use Rattle.node_kit.specs.declared.course.Kept.{Kept}
use Rattle.node_kit.specs.declared.journal.Entry.{Entry}
use Rattle.node_kit.specs.Life.{death_of, lifetime_of}
use Rattle.run_facts.specs.Timed.{DieApart}
use Rattle.audit_orders.specs.Breaches.{DecidesList}
use Rattle.audit_orders.specs.Returning.{TellReturns}
use Rattle.audit_orders.specs.Timing.{IsTimedIn, AreTimedIn, AreTimedBelow, IsFirstFlaw, OneLives, IsFirstPair, IsPairAt, IsReturnAt, DecidesTimed, both_die}
use Rattle.audit_orders.specs.declared.flaw.Flaw.{Flaw}
use Rattle.audit_orders.specs.declared.timing.Untimed.{Untimed}
use Rattle.audit_orders.specs.declared.timing.Untimed.TheVariants as untimed

-- the journal of a number is there
pub journal_there : (journals : List (List Entry)) (n : ℕ) (journal : List Entry) → n < length journals → journal ≡ get_or journals n journal
    → slice_get journals n ≡ Some journal
journal_there journals n journal low is = rw (slice_get-get_or journals n journal low, ← is) refl

-- what is so of each journal below one
abbrev pub AllBelow : (ℕ → List Entry → Type 0) → ℕ → List (List Entry) → Type 0
AllBelow Is n journals = (m : ℕ) (journal : List Entry) → m < n → slice_get journals m ≡ Some journal → Is m journal

pub none_below : (Is : ℕ → List Entry → Type 0) (journals : List (List Entry)) → AllBelow Is 0 journals
none_below Is journals m journal low at = absurd (omega (arith, low))

pub one_more_below : (Is : ℕ → List Entry → Type 0) (journals : List (List Entry)) (n : ℕ) (journal : List Entry) → n < length journals
    → journal ≡ get_or journals n journal → AllBelow Is n journals → Is n journal → AllBelow Is (n + 1) journals
one_more_below Is journals n journal low is lower here m other below at = ⊎_elim
    (λ (e : m ≡ n).
    let there : Some journal ≡ Some other = sym (journal_there journals n journal low is) ∙ subst (λ (k : ℕ). slice_get journals k ≡ Some other) e at in
    let same : journal ≡ other = cc in
    subst (λ (k : ℕ). Is k other) (sym e) (subst (λ (j : List Entry). Is n j) same here))
    (λ (ne : m ≡ n → ⊥). lower m other (omega (arith, below, ne)) at)
    (cases_eq m n)

pub all_below : (Is : ℕ → List Entry → Type 0) (journals : List (List Entry)) (n : ℕ) → length journals ≤ n → AllBelow Is n journals
    → (m : ℕ) (journal : List Entry) → slice_get journals m ≡ Some journal → Is m journal
all_below Is journals n over lower m journal at =
    let low = slice_get_within journals m journal at in
    lower m journal (omega (arith, over, low)) at

pub flaw_found : (c : Course) (journals : List (List Entry)) (n : ℕ) (journal : List Entry) (found : Flaw) → n < length journals
    → journal ≡ get_or journals n journal → AreTimedBelow c n journals → DecidesList (IsTimedIn c n) journal (Some found)
    → IsFirstFlaw c journals n found
flaw_found c journals n journal found low is lower flawed =
    record { lower = lower; journal = journal; here = journal_there journals n journal low is; flawed = flawed }

-- ---- two cubs side by side

lives : (a b : Option ℕ) → (is_some a && is_some b) ≡ false → (a ≡ None) ⊎ (b ≡ None)
lives None b h = inl refl
lives (Some x) None h = inr refl
lives (Some x) (Some y) h = absurd (false≢true (sym h))

die : (a b : Option ℕ) → (is_some a && is_some b) ≡ true → (a ≡ None) ⊎ (b ≡ None) → ⊥
die None b h g = absurd (false≢true h)
die (Some x) None h g = absurd (false≢true h)
die (Some x) (Some y) h g = ⊎_elim (λ (e : Some x ≡ None). absurd (cc)) (λ (e : Some y ≡ None). absurd (cc)) g

pub one_more_lives : (c : Course) (n : ℕ) (r : Bool) → ((m : ℕ) → m < n → OneLives c m) → r ≡ both_die c n → r ≡ false
    → (m : ℕ) → m < n + 1 → OneLives c m
one_more_lives c n r lower is alive m below = ⊎_elim
    (λ (e : m ≡ n). subst (λ (k : ℕ). OneLives c k) (sym e) (lives (death_of c n) (death_of c ((n + 1) % c.plan.params.cubs)) (sym is ∙ alive)))
    (λ (ne : m ≡ n → ⊥). lower m (omega (arith, below, ne)))
    (cases_eq m n)

pub pair_found : (c : Course) (n : ℕ) (r : Bool) → n < c.plan.params.cubs → ((m : ℕ) → m < n → OneLives c m) → r ≡ both_die c n → r ≡ true
    → IsFirstPair c n
pair_found c n r cub lower is dead = record {
  cub = cub;
  lower = lower;
  both = λ h. die (death_of c n) (death_of c ((n + 1) % c.plan.params.cubs)) (sym is ∙ dead) h;
}

pub all_apart : (c : Course) (n : ℕ) → c.plan.params.cubs ≤ n → ((m : ℕ) → m < n → OneLives c m) → DieApart c.plan.params (lifetime_of c)
all_apart c n over lower m below = lower m (omega (arith, over, below))

-- ---- all journals, then the cubs, and then the returns

pub pair_decides : (k : Kept) (found : Untimed) → AreTimedIn k.course k.journals → IsPairAt k.course found → DecidesTimed k (Some found)
pair_decides k (untimed.Journal node found) timed pair = absurd pair
pair_decides k (untimed.Neighbours cub) timed pair = (timed, pair)
pair_decides k (untimed.Return node i) timed pair = absurd pair

pub return_decides : (k : Kept) (answer : Option Untimed) → AreTimedIn k.course k.journals
    → DieApart k.course.plan.params (lifetime_of k.course)
    → MatchOption answer (TellReturns k.course k.journals) (IsReturnAt k.course k.journals) → DecidesTimed k answer
return_decides k None timed apart told = record { timed = timed; apart = apart; returns = told }
return_decides k (Some (untimed.Journal node found)) timed apart untold = absurd untold
return_decides k (Some (untimed.Neighbours cub)) timed apart untold = absurd untold
return_decides k (Some (untimed.Return node i)) timed apart untold = (timed, (apart, untold))
