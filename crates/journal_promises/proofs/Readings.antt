-- The readings of a kept run are those of its course, in its journals and in its log.
use Rattle.std.proofs.Common.{◌≡◌, ℕ, zero, suc, ◌+◌, ◌==◌, List, [], ◌∷◌, map, filter, Some, refl, sym, subst, arith}
use Rattle.std.specs.Prelude.{slice_get}
use Rattle.std.specs.List.{AllByRecursion}
use Rattle.node_kit.specs.declared.course.Kept.{Kept}
use Rattle.node_kit.specs.declared.journal.Entry.{Entry}
use Rattle.node_kit.specs.Courses.{reading_of}
use Rattle.run_facts.specs.Order.{Noted, in_beat, order_from, order_of}
use Rattle.run_facts.proofs.Rows.{all-append, all-filter, all-map}
use Rattle.journal_promises.specs.Runs.{HasReadings, KeptRunsHaveReadings}

pub kept_runs_have_readings : (G : Type 0) → KeptRunsHaveReadings G
kept_runs_have_readings G s library k run n journal at = run.paced.readings n journal at

-- what holds of each entry of each journal holds of each of a log of them
module _ (P : ℕ → Entry → Type 0) where
  of_beat : (b n : ℕ) (js : List (List Entry)) → ((m : ℕ) (j : List Entry) → slice_get js m ≡ Some j → AllByRecursion (P (n + m)) j)
      → AllByRecursion (λ (x : Noted). P x.node x.entry) (in_beat b n js)
  of_beat b n [] each = tt
  of_beat b n (j ∷ js) each =
      let here : n + 0 ≡ n = omega arith in
      all-append (λ (x : Noted). P x.node x.entry) (map (λ e. record { node = n; entry = e }) (filter (λ e. e.stamp.beat == b) j)) (in_beat b (n + 1) js)
      (all-map (λ (x : Noted). P x.node x.entry) (λ e. record { node = n; entry = e }) (filter (λ e. e.stamp.beat == b) j)
      (all-filter (P n) (λ e. e.stamp.beat == b) j (subst (λ (m : ℕ). AllByRecursion (P m) j) here (each 0 j refl))))
      (of_beat b (n + 1) js
      (λ m i at.
      let next : n + suc m ≡ n + 1 + m = omega arith in
      subst (λ (q : ℕ). AllByRecursion (P q) i) next (each (suc m) i at)))

  pub of_log : (b beats : ℕ) (js : List (List Entry)) → ((m : ℕ) (j : List Entry) → slice_get js m ≡ Some j → AllByRecursion (P m) j)
      → AllByRecursion (λ (x : Noted). P x.node x.entry) (order_from b beats js)
  of_log b zero js each = tt
  of_log b (suc beats) js each =
      all-append (λ (x : Noted). P x.node x.entry) (in_beat b 0 js) (order_from (b + 1) beats js)
      (of_beat b 0 js (λ m j at. let same : 0 + m ≡ m = omega arith in subst (λ (q : ℕ). AllByRecursion (P q) j) (sym same) (each m j at)))
      (of_log (b + 1) beats js each)

pub readings_in_log : (k : Kept) → HasReadings k
    → AllByRecursion (λ (x : Noted). x.entry.stamp.reading ≡ reading_of k.course x.node x.entry.stamp.beat) (order_of k.course.beats k.journals)
readings_in_log k has = of_log (λ n e. e.stamp.reading ≡ reading_of k.course n e.stamp.beat) 0 k.course.beats k.journals has
