-- The pieces of a block, looked for one after another; and the deaths of a cub.
use Rattle.std.proofs.Common.{◌≡◌, ℕ, zero, suc, ◌+◌, ◌<◌, Bool, true, false, ◌&&◌, ◌||◌, nat_lt, List, [], ◌∷◌, ◌++◌, map, Option, Some, None, option_map, slice_get, if◌then◌else◌, arith, refl, sym, ap, ◌∙◌}
use Rattle.std.specs.List.{flat_map, list_any, range_with_len}
use Rattle.slot_plan.specs.declared.params.Params.{Params}
use Rattle.slot_plan.specs.Times.{time_of}
use Rattle.node_kit.specs.declared.journal.Entry.{Entry}
use Rattle.run_facts.specs.Timed.{is_died}
use Rattle.run_model.specs.Served.{journal_at}
use Rattle.run_model.specs.Tests.{died_between}
use Rattle.run_report.specs.Outcomes.{all_there}
use Rattle.run_report.specs.Tables.{death_by, deaths_in, deaths_of}

-- what was found so far, and all that is to be found from k on
abbrev pub with_rest : (ℕ → Option ℕ) → List ℕ → ℕ → ℕ → Option (List ℕ)
with_rest f found k n = option_map (λ rest. found ++ rest) (all_there (map f (range_with_len k n)))

one_of : (f : ℕ → Option ℕ) (found : List ℕ) (k n : ℕ) (o : Option ℕ) → f k ≡ o
    → with_rest f found k (suc n) ≡ option_map (λ rest. found ++ rest) (all_there (o ∷ map f (range_with_len (k + 1) n)))
one_of f found k n o e = ap (λ x. option_map (λ rest. found ++ rest) (all_there (x ∷ map f (range_with_len (k + 1) n)))) e

pub one_more : (f : ℕ → Option ℕ) (found new : List ℕ) (k m n beat : ℕ) → m ≡ suc n → f k ≡ Some beat → new ≡ found ++ beat ∷ []
    → with_rest f found k m ≡ with_rest f new (k + 1) n
one_more f found new k m n beat count e step =
    ap (λ j. with_rest f found k j) count
    ∙ (one_of f found k n (Some beat) e
    ∙ (shifted found beat (all_there (map f (range_with_len (k + 1) n)))
    ∙ ap (λ xs. with_rest f xs (k + 1) n) (sym step)))
  where
    shifted : (found : List ℕ) (beat : ℕ) (o : Option (List ℕ))
        → option_map (λ rest. found ++ rest) (option_map (λ xs. beat ∷ xs) o) ≡ option_map (λ rest. (found ++ beat ∷ []) ++ rest) o
    shifted found beat None = refl
    shifted found beat (Some xs) = ap (λ ys. Some ys) (joined found beat xs)
      where
        joined : (xs : List ℕ) (y : ℕ) (zs : List ℕ) → xs ++ y ∷ zs ≡ (xs ++ y ∷ []) ++ zs
        joined [] y zs = refl
        joined (x ∷ xs) y zs = ap (λ rest. x ∷ rest) (joined xs y zs)

-- the deaths that a journal tells of
abbrev pub is_about : Params → ℕ → ℕ → ℕ → ℕ → Bool
is_about p late time end beat = nat_lt time (time_of p beat + late) && nat_lt (time_of p beat) end

one_death : (test : ℕ → Bool) (b : Bool) (beat : ℕ) (rest : List ℕ) (all : Bool) → list_any test rest ≡ all
    → list_any test ((if b then beat ∷ [] else []) ++ rest) ≡ (b && test beat || all)
one_death test true beat rest all e = ap (λ x. test beat || x) e
one_death test false beat rest all e = e

and_assoc : (a b c : Bool) → (a && (b && c)) ≡ (a && b && c)
and_assoc true b c = refl
and_assoc false b c = refl

pub some_death : (p : Params) (late time end : ℕ) (journal : List Entry)
    → list_any (is_about p late time end) (flat_map death_by journal) ≡ died_between p late time end journal
some_death p late time end [] = refl
some_death p late time end (e ∷ es) =
    one_death (is_about p late time end) (is_died e.what) e.stamp.beat (flat_map death_by es) (died_between p late time end es)
    (some_death p late time end es)
    ∙ ap (λ x. x || died_between p late time end es)
    (and_assoc (is_died e.what) (nat_lt time (time_of p e.stamp.beat + late)) (nat_lt (time_of p e.stamp.beat) end))

-- and those of a node
nth : {A : Type 0} (f : ℕ → A) (a n k j : ℕ) → k < n → a + k ≡ j → slice_get (map f (range_with_len a n)) k ≡ Some (f j)
nth f a zero k j lt e = absurd (omega arith)
nth f a (suc n) zero j lt e = let same : a ≡ j = omega arith in ap (λ i. Some (f i)) same
nth f a (suc n) (suc k) j lt e = nth f (a + 1) n k j (omega arith) (omega arith)

some_same : {A : Type 0} (x y : A) → Some x ≡ Some y → x ≡ y
some_same x y e = cc

-- those that a table has of a node
pub about_node : (p : Params) (js : List (List Entry)) (nodes k late time end : ℕ) (deaths : List (List ℕ)) (found : List ℕ)
    → deaths ≡ deaths_of js nodes → k < nodes → slice_get deaths k ≡ Some found
    → list_any (is_about p late time end) found ≡ died_between p late time end (journal_at js k)
unfolding deaths_of deaths_in
about_node p js nodes k late time end deaths found table lt at =
    let there : slice_get (deaths_of js nodes) k ≡ Some (deaths_in (journal_at js k)) = nth (λ n. deaths_in (journal_at js n)) 0 nodes k k lt (omega arith) in
    let same : found ≡ deaths_in (journal_at js k) = some_same found (deaths_in (journal_at js k)) (sym at ∙ (ap (λ ds. slice_get ds k) table ∙ there)) in
    ap (list_any (is_about p late time end)) same ∙ some_death p late time end (journal_at js k)

pub no_node : (js : List (List Entry)) (nodes k : ℕ) (deaths : List (List ℕ)) → deaths ≡ deaths_of js nodes → k < nodes → slice_get deaths k ≡ None → ⊥
unfolding deaths_of
no_node js nodes k deaths table lt at =
    let there : slice_get (deaths_of js nodes) k ≡ Some (deaths_in (journal_at js k)) = nth (λ n. deaths_in (journal_at js n)) 0 nodes k k lt (omega arith) in
    differs (deaths_in (journal_at js k)) (sym at ∙ (ap (λ ds. slice_get ds k) table ∙ there))
  where
    differs : (x : List ℕ) → None ≡ Some x → ⊥
    differs x e = cc
