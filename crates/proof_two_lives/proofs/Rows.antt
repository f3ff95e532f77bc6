-- What is told in written-out lists, for the worked rows.
use Rattle.std.proofs.Common.{◌≡◌, ℕ, ◌<◌, ◌≤◌, refl, arith, ⊎_elim, inl, inr}
use Rattle.std.specs.Prelude.{List, [], ◌∷◌, ◌⊎◌}
use Rattle.std.specs.List.{AllByRecursion, Contains}
use Rattle.std.proofs.lemmas.List.Elements.{All-from_recursion, All-contains}
use Rattle.proof_schedule.specs.Facts.{IsFirstLife}
use Rattle.proof_schedule.specs.Example.{viewer}
use Rattle.proof_schedule.specs.Logs.{Fact, facts_in, Came, Ticked, Put, Inserted, Took, Asked, AskedApart, Reached, GotBare, Passed, Returned, Heard, Believed}
use Rattle.proof_pieces.specs.PieceLogs.{PieceFact, pieces_in, Split, Mirrored}
use Rattle.proof_service.specs.ServiceLogs.{ServiceFact, service_in, Stored, TookBack}
use Rattle.proof_two_lives.specs.Samples.{AreBlocksOfCub, AreLivesOfCub, AreSplitsOfCub, first_told, later_told}
use Rattle.proof_two_lives.specs.Statements.{listed_ticks}
use Rattle.proof_two_lives.specs.TwoLives.{AreBlocksOfLives, AreOfLives, ArePiecesOfLives, CameBackBefore, CameBackBy}

-- A fact that tells of one life is of a beat of it.
abbrev IsOf : (ℕ → ℕ → Type 0) → Fact → Type 0
IsOf In (Ticked c b l) = In c b
IsOf In (Put c t b) = In c b
IsOf In (Inserted c t n b) = In c b
IsOf In (Took c t n b) = In c b
IsOf In (Asked c ask b) = In c b
IsOf In (AskedApart c ask b) = In c b
IsOf In (Reached c v b) = In c b
IsOf In (GotBare c v b) = In c b
IsOf In (Passed c v s q b) = In c b
IsOf In (Heard c b) = In c b
IsOf In (Believed c b) = In c b
IsOf In other = Unit

of_list : (In : ℕ → ℕ → Type 0) (log : List Fact) → AllByRecursion (IsOf In) log → (f : Fact)
    → Contains log f → IsOf In f
of_list In log all f h = All-contains (IsOf In) log f (All-from_recursion (IsOf In) log all) h

are_of_lives : (In : ℕ → ℕ → Type 0) (log : List Fact) → AllByRecursion (IsOf In) log
    → AreOfLives (facts_in log) In
are_of_lives In log all = record {
  ticked = λ c b l h. of_list In log all (Ticked c b l) h;
  put = λ c t b h. of_list In log all (Put c t b) h;
  inserted = λ c t n b h. of_list In log all (Inserted c t n b) h;
  took = λ c t n b h. of_list In log all (Took c t n b) h;
  asked = λ c ask b h. of_list In log all (Asked c ask b) h;
  apart = λ c ask b h. of_list In log all (AskedApart c ask b) h;
  reached = λ c v b h. of_list In log all (Reached c v b) h;
  bare = λ c v b h. of_list In log all (GotBare c v b) h;
  passed = λ c v s q b h. of_list In log all (Passed c v s q b) h;
  heard = λ c b h. of_list In log all (Heard c b) h;
  believed = λ c b h. of_list In log all (Believed c b) h;
}

-- ---- what is told before the return

-- Cub 0 came to its ticks of beats 0 and 3, and came back in beat 3.
abbrev IsBefore : Fact → Type 0
IsBefore (Came c b) = ((c ≡ 0) × (b ≡ 0)) ⊎ ((c ≡ 0) × (b ≡ 3))
IsBefore (Returned c b) = (c ≡ 0) × (b ≡ 3)
IsBefore other = Unit

told_before : (f : Fact) → Contains first_told f → IsBefore f
told_before f h =
    let all : AllByRecursion IsBefore first_told =
    (tt, (inl (refl, refl), (tt, ((refl, refl), (inr (refl, refl), tt))))) in
    All-contains IsBefore first_told f (All-from_recursion IsBefore first_told all) h

pub first_until : (c b : ℕ) → b < 3 → IsFirstLife (facts_in first_told) c b
first_until c b l = λ w back. let k = told_before (Returned c w) back in let at = k.1 in omega arith

pub back_by : (b : ℕ) → 3 ≤ b → CameBackBy (facts_in first_told) 0 b
back_by b l = record { beat = 3; returned = (3, omega arith, refl); by = l }

pub back_before : (b : ℕ) → 3 < b → CameBackBefore (facts_in first_told) 0 b
back_before b l = record { beat = 3; returned = (3, omega arith, refl); before = l }

-- ---- ticks

-- Who is in a list of one tick came to that.
one_listed : (n c b : ℕ) → listed_ticks ((0, n) ∷ []) c b → (c ≡ 0) × (b ≡ n)
one_listed n c b h =
    let P : ℕ × ℕ → Type 0 = λ x. (x.0 ≡ 0) × (x.1 ≡ n) in
    All-contains P ((0, n) ∷ []) (c, b) (All-from_recursion P ((0, n) ∷ []) ((refl, refl), tt)) h

is_listed : (n c b : ℕ) → (c ≡ 0) × (b ≡ n) → listed_ticks ((0, n) ∷ []) c b
is_listed n c b k = rw (k.0, k.1) (0, omega arith, refl)

pub two_lives : AreLivesOfCub first_told later_told
two_lives = record {
  firsts = are_of_lives (IsFirstLife (facts_in first_told)) first_told
      (first_until 0 0 (omega arith), (tt, (tt, (tt, (tt, tt)))));
  laters = are_of_lives (CameBackBy (facts_in first_told)) later_told
      (back_by 3 (omega arith), tt);
  in_first = λ c b h.
      let k = one_listed 0 c b h in
      let at = k.1 in
      first_until c b (omega arith);
  in_later = λ c b h.
      let k = one_listed 3 c b h in
      rw (k.0, k.1) (back_by 3 (omega arith));
  came = λ c b h. ⊎_elim
      (λ k. inl (is_listed 0 c b k))
      (λ k. inr (is_listed 3 c b k))
      (told_before (Came c b) h);
}

-- A return of cub 0 by a beat is by one from beat 3 on.
back_late : (b : ℕ) → CameBackBy (facts_in first_told) 0 b → 3 ≤ b
back_late b h =
    let k = told_before (Returned 0 h.beat) h.returned in
    let at = k.1 in
    let by = h.by in
    omega arith

pub not_yet_back : AreLivesOfCub first_told (Ticked 0 2 20000 ∷ later_told) → ⊥
not_yet_back h =
    let late = back_late 2 (h.laters.ticked 0 2 20000 (0, omega arith, refl)) in
    omega arith

pub back_already : AreLivesOfCub (Ticked 0 3 30000 ∷ first_told) later_told → ⊥
back_already h =
    let first = h.firsts.ticked 0 3 30000 (0, omega arith, refl) in
    let after = first 3 (4, omega arith, refl) in
    omega arith

pub of_neither : AreLivesOfCub (Came 0 4 ∷ first_told) later_told → ⊥
of_neither h = ⊎_elim
    (λ a. let k = one_listed 0 0 4 a in let at = k.1 in omega arith)
    (λ a. let k = one_listed 3 0 4 a in let at = k.1 in omega arith)
    (h.came 0 4 (0, omega arith, refl))

-- ---- pieces

abbrev IsPieceOf : (ℕ → ℕ → Type 0) → PieceFact → Type 0
IsPieceOf In (Split c t n b) = In c b
IsPieceOf In (Mirrored c t n j b) = In c b
IsPieceOf In other = Unit

one_split : (In : ℕ → ℕ → Type 0) (b : ℕ) → In 0 b
    → ArePiecesOfLives (pieces_in (Split 0 viewer 0 b ∷ [])) In
one_split In b here =
    let log : List PieceFact = Split 0 viewer 0 b ∷ [] in
    let all : AllByRecursion (IsPieceOf In) log = (here, tt) in
    let each : (f : PieceFact) → Contains log f → IsPieceOf In f =
    λ f h. All-contains (IsPieceOf In) log f (All-from_recursion (IsPieceOf In) log all) h in
    record {
      split = λ c t n a h. each (Split c t n a) h;
      mirrored = λ c t n j a h. each (Mirrored c t n j a) h;
    }

pub splits : AreSplitsOfCub 0 3
splits = record {
  firsts = one_split (IsFirstLife (facts_in first_told)) 0 (first_until 0 0 (omega arith));
  laters = one_split (CameBackBy (facts_in first_told)) 3 (back_by 3 (omega arith));
}

pub splits_as_if_away : (b : ℕ) → AreSplitsOfCub 3 b → ⊥
splits_as_if_away b h =
    let first = h.firsts.split 0 viewer 0 3 (0, omega arith, refl) in
    let after = first 3 (3, omega arith, refl) in
    omega arith

pub splits_too_soon : (a : ℕ) → AreSplitsOfCub a 2 → ⊥
splits_too_soon a h =
    let late = back_late 2 (h.laters.split 0 viewer 0 2 (0, omega arith, refl)) in
    omega arith

-- ---- blocks

abbrev IsBlockOf : (ℕ → ℕ → Type 0) → ServiceFact → Type 0
IsBlockOf In (Stored c t n j b) = In c b
IsBlockOf In (TookBack c from b) = In c b
IsBlockOf In other = Unit

one_stored : (In : ℕ → ℕ → Type 0) (b : ℕ) → In 0 b
    → AreBlocksOfLives (service_in (Stored 0 viewer 0 0 b ∷ [])) In
one_stored In b here =
    let log : List ServiceFact = Stored 0 viewer 0 0 b ∷ [] in
    let all : AllByRecursion (IsBlockOf In) log = (here, tt) in
    let each : (f : ServiceFact) → Contains log f → IsBlockOf In f =
    λ f h. All-contains (IsBlockOf In) log f (All-from_recursion (IsBlockOf In) log all) h in
    record {
      stored = λ c t n j a h. each (Stored c t n j a) h;
      told = λ c from a h. each (TookBack c from a) h;
    }

pub stored : AreBlocksOfCub 0 4
stored = record {
  firsts = one_stored (IsFirstLife (facts_in first_told)) 0 (first_until 0 0 (omega arith));
  laters = one_stored (CameBackBefore (facts_in first_told)) 4 (back_before 4 (omega arith));
}

pub stored_as_if_away : (b : ℕ) → AreBlocksOfCub 3 b → ⊥
stored_as_if_away b h =
    let first = h.firsts.stored 0 viewer 0 0 3 (0, omega arith, refl) in
    let after = first 3 (3, omega arith, refl) in
    omega arith

pub stored_too_soon : (a : ℕ) → AreBlocksOfCub a 3 → ⊥
stored_too_soon a h =
    let k = h.laters.stored 0 viewer 0 0 3 (0, omega arith, refl) in
    let before = k.before in
    let at = (told_before (Returned 0 k.beat) k.returned).1 in
    omega arith
