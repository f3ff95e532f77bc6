-- The events of a history in lists: what they are as a list, and that each keeps its number.
use Rattle.std.proofs.Common.{◌≡◌, ℕ, zero, suc, ◌+◌, ◌<◌, ◌≤◌, List, [], ◌∷◌, ◌++◌, true, false, refl, ap, sym, ◌∙◌}
use Rattle.std.proofs.Common.{subst, arith, ⊎_elim, append_assoc, append-nil}
use Rattle.std.specs.Prelude.{Some, slice_get, length}
use Rattle.std.specs.List.{AllByRecursion}
use Rattle.std.proofs.lemmas.Bool.{cases_Bool, cases_eq}
use Rattle.tiger_base.specs.declared.message.Note.{Note}
use Rattle.node_kit.specs.Steps.{Input, Deed}
use Rattle.run_facts.specs.Events.{NodeEvent, opening, after_all, is_tick, is_death, sends_of, sends_along, take_on}
use Rattle.run_facts.specs.Events.{takes_along}
use Rattle.run_facts.specs.Histories.{History, past, last_of, beat, open_beat, outs, ticks, sent, taken}
use Rattle.run_facts.specs.Accounts.{tick_count, IsOpen, AreCounted, IsInTurn, AreInTurn, AreAlive, DeathIsLast}

-- k events of node n, from number i on, and all of them
abbrev pub listed : {M S : Type 0} → History M S → ℕ → ℕ → ℕ → List (NodeEvent M)
listed h n i zero = []
listed h n i (suc k) = h.event n i ∷ listed h n (suc i) k

abbrev pub events_of : {M S : Type 0} → History M S → ℕ → List (NodeEvent M)
events_of h n = listed h n 0 (h.count n)

pub next-sum : (i k m : ℕ) → i + suc k ≡ m → suc i + k ≡ m
next-sum i k m e = omega (arith, e)

pub no-more : (i m : ℕ) → i + 0 ≡ m → m ≡ i
no-more i m e = omega (arith, e)

-- what holds of each event
pub listed-all : {M S : Type 0} (h : History M S) (P : NodeEvent M → Type 0) (n i k m : ℕ) → i + k ≡ m
    → ((j : ℕ) → i ≤ j → j < m → P (h.event n j)) → AllByRecursion P (listed h n i k)
listed-all h P n i zero m e f = tt
listed-all h P n i (suc k) m e f =
    let rest = listed-all h P n (suc i) k m (next-sum i k m e) (λ j low high. f j (omega (arith, low)) high) in
    (f i (omega arith) (omega (arith, e)), rest)

-- what a node becomes, sends, takes and ticks in them
pub listed-past : {M S : Type 0} (note : M → Note) (step : S → Input M → Deed M S) (h : History M S)
    (n i k m : ℕ) → i + k ≡ m
    → after_all note step (listed h n i k) (past note step h n i) ≡ past note step h n m
listed-past note step h n i zero m e = ap (past note step h n) (sym (no-more i m e))
listed-past note step h n i (suc k) m e = listed-past note step h n (suc i) k m (next-sum i k m e)

pub listed-last : {M S : Type 0} (note : M → Note) (step : S → Input M → Deed M S) (h : History M S)
    (n : ℕ)
    → last_of note step h n ≡ after_all note step (events_of h n) (opening (h.first n) (h.life n))
listed-last note step h n = sym (listed-past note step h n 0 (h.count n) (h.count n) (omega arith))

pub listed-sends : {M S : Type 0} (note : M → Note) (step : S → Input M → Deed M S) (l : ℕ)
    (h : History M S) (n i k m : ℕ) → i + k ≡ m
    → sent note step l h n m ≡ sent note step l h n i ++ sends_along note step l (listed h n i k) (past note step h n i)
listed-sends note step l h n i zero m e =
    ap (sent note step l h n) (no-more i m e) ∙ sym (append-nil (sent note step l h n i))
listed-sends note step l h n i (suc k) m e =
    let rest = sends_along note step l (listed h n (suc i) k) (past note step h n (suc i)) in
    listed-sends note step l h n (suc i) k m (next-sum i k m e)
    ∙ append_assoc (sent note step l h n i) (sends_of l (beat h n i) (outs note step h n i)) rest

pub listed-takes : {M S : Type 0} (l : ℕ) (h : History M S) (n i k m : ℕ) → i + k ≡ m
    → taken l h n m ≡ taken l h n i ++ takes_along l (listed h n i k)
listed-takes l h n i zero m e = ap (taken l h n) (no-more i m e) ∙ sym (append-nil (taken l h n i))
listed-takes l h n i (suc k) m e =
    listed-takes l h n (suc i) k m (next-sum i k m e)
    ∙ append_assoc (taken l h n i) (take_on l (h.event n i)) (takes_along l (listed h n (suc i) k))

pub listed-ticks : {M S : Type 0} (h : History M S) (n i k m : ℕ) → i + k ≡ m
    → ticks h n m ≡ ticks h n i + tick_count (listed h n i k)
listed-ticks h n i zero m e =
    ap (ticks h n) (no-more i m e) ∙ (let none : ticks h n i ≡ ticks h n i + 0 = omega arith in none)
listed-ticks h n i (suc k) m e =
    let rest = listed-ticks h n (suc i) k m (next-sum i k m e) in
    ⊎_elim
    (λ (p : is_tick (h.event n i) ≡ true).
    let now : ticks h n (suc i) ≡ suc (ticks h n i) = rw p refl in
    rw p (omega (arith, rest, now)))
    (λ (p : is_tick (h.event n i) ≡ false).
    let now : ticks h n (suc i) ≡ ticks h n i = rw p refl in
    rw p (omega (arith, rest, now)))
    (cases_Bool (is_tick (h.event n i)))

-- their beats, their turn, and their end
pub listed-counted : {M S : Type 0} (h : History M S) (n i k m : ℕ) → i + k ≡ m
    → ((j : ℕ) → j < m → IsOpen (open_beat h n j) (h.event n j))
    → AreCounted (open_beat h n i) (listed h n i k)
listed-counted h n i zero m e f = tt
listed-counted h n i (suc k) m e f =
    (f i (omega (arith, e)), listed-counted h n (suc i) k m (next-sum i k m e) f)

pub listed-turn : {M S : Type 0} (h : History M S) (n i k m : ℕ) → i + k ≡ m
    → ((a b : ℕ) → a < b → b < m → IsInTurn (h.event n a) (h.event n b)) → AreInTurn (listed h n i k)
listed-turn h n i zero m e f = tt
listed-turn h n i (suc k) m e f =
    let more = next-sum i k m e in
    let here = listed-all h (IsInTurn (h.event n i)) n (suc i) k m more
    (λ j low high. f i j (omega (arith, low)) high) in
    (here, listed-turn h n (suc i) k m more f)

pub listed-ended : {M S : Type 0} (h : History M S) (n i k m : ℕ) → i + k ≡ m
    → ((j : ℕ) → j < m → is_death (h.event n j) ≡ true → j + 1 ≡ m) → DeathIsLast (listed h n i k)
listed-ended h n i zero m e f = tt
listed-ended h n i (suc k) m e f = (here, listed-ended h n (suc i) k m (next-sum i k m e) f)
  where
    here : is_death (h.event n i) ≡ true → listed h n (suc i) k ≡ []
    here died =
        let last = f i (omega (arith, e)) died in
        let none : k ≡ 0 = omega (arith, e, last) in
        ap (listed h n (suc i)) none

pub listed-alive : {M S : Type 0} (h : History M S) (n i k m : ℕ) → i + k ≡ m
    → AreAlive (listed h n i k)
    → (j : ℕ) → i ≤ j → j < m → is_death (h.event n j) ≡ false
listed-alive h n i zero m e alive j low high = absurd (omega (arith, e, low, high))
listed-alive h n i (suc k) m e alive j low high = ⊎_elim
    (λ (same : i ≡ j). subst (λ q. is_death (h.event n q) ≡ false) same alive.0)
    (λ (other : i ≡ j → ⊥).
    listed-alive h n (suc i) k m (next-sum i k m e) alive.1 j (omega (arith, low, other)) high)
    (cases_eq i j)

-- each has its number
pub listed-length : {M S : Type 0} (h : History M S) (n i k : ℕ) → length (listed h n i k) ≡ k
listed-length h n i zero = refl
listed-length h n i (suc k) = ap suc (listed-length h n (suc i) k)

pub listed-get : {M S : Type 0} (h : History M S) (n i k j m : ℕ) → i + j ≡ m → j < k
    → slice_get (listed h n i k) j ≡ Some (h.event n m)
listed-get h n i zero j m e low = absurd (omega (arith, low))
listed-get h n i (suc k) zero m e low = ap (λ x. Some (h.event n x)) (sym (no-more i m e))
listed-get h n i (suc k) (suc j) m e low =
    listed-get h n (suc i) k j m (next-sum i j m e) (omega (arith, low))
