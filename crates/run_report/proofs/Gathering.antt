-- What is told by a list of entries, and what is told once there is one more.
use Rattle.std.proofs.Common.{◌≡◌, ℕ, List, [], ◌∷◌, ◌++◌, Bool, true, false, ◌||◌, nat_lt, ◌==◌, Option, Some, None, find, option_map, if◌then◌else◌, arith, refl, sym, ap, ◌∙◌}
use Rattle.std.specs.Option.{option_or}
use Rattle.std.specs.List.{flat_map, list_any}
use Rattle.std.proofs.lemmas.List.{append-nil}
use Rattle.std.proofs.lemmas.List.Concat.{flat_map-append}
use Rattle.std.proofs.lemmas.List.Elements.{filter-append}
use Rattle.std.proofs.lemmas.List.Folds.{find-append, list_any-append}
use Rattle.std.proofs.lemmas.Bool.Decides.{nat_tests}
use Rattle.slot_plan.specs.declared.params.Params.{Params}
use Rattle.node_kit.specs.declared.journal.Entry.{Entry}
use Rattle.run_facts.specs.Commanded.{is_gone_of}
use Rattle.run_model.specs.declared.parcels.Parcel.{Parcel}
use Rattle.run_model.specs.Served.{whole_in, piece_in, pieces_numbered}
use Rattle.run_model.specs.Tests.{is_failed_read, read_failed}
use Rattle.run_report.specs.declared.placed.Placed.{Placed}
use Rattle.run_report.specs.Outcomes.{first_sent, put_by, sooner, earliest}
use Rattle.run_report.specs.Tables.{both}

first_sent-append : (xs ys : List Parcel) → first_sent (xs ++ ys) ≡ option_or (first_sent xs) (first_sent ys)
first_sent-append [] ys = refl
first_sent-append (x ∷ xs) ys = refl

-- the sooner of three
sooner_both : (x a b : Placed) → sooner x (both (Some a) (Some b)) ≡ sooner (sooner x (Some a)) (Some b)
sooner_both x a b = grind (arith, nat_tests)

both_sooner : (x : Placed) (o : Option Placed) → both (Some x) o ≡ Some (sooner x o)
both_sooner x None = refl
both_sooner x (Some y) = by_test (nat_lt y.beat x.beat)
  where
    by_test : (b : Bool) → (if b then Some y else Some x) ≡ Some (if b then y else x)
    by_test true = refl
    by_test false = refl

sooner_of : (x : Placed) (a b : Option Placed) → sooner x (both a b) ≡ sooner (sooner x a) b
sooner_of x None b = refl
sooner_of x (Some a) None = refl
sooner_of x (Some a) (Some b) = sooner_both x a b

earliest-append : (xs ys : List Placed) → earliest (xs ++ ys) ≡ both (earliest xs) (earliest ys)
earliest-append [] ys = refl
earliest-append (x ∷ xs) ys =
    ap (λ o. Some (sooner x o)) (earliest-append xs ys)
    ∙ (ap (λ y. Some y) (sooner_of x (earliest xs) (earliest ys)) ∙ sym (both_sooner (sooner x (earliest xs)) (earliest ys)))

pub flat_map-push : {A : Type 0} (f : Entry → List A) (es : List Entry) (e : Entry) → flat_map f (es ++ e ∷ []) ≡ flat_map f es ++ f e
flat_map-push f es e = flat_map-append f es (e ∷ []) ∙ ap (λ ys. flat_map f es ++ ys) (append-nil (f e))

find_one : (v : ℕ) (e : Entry) → option_map (λ e. e.stamp.beat) (find (λ e. is_gone_of v e.what) (e ∷ []))
    ≡ (if is_gone_of v e.what then Some e.stamp.beat else None)
find_one v e = by_test (is_gone_of v e.what)
  where
    by_test : (b : Bool) → option_map (λ e. e.stamp.beat) (if b then Some e else None) ≡ (if b then Some e.stamp.beat else None)
    by_test true = refl
    by_test false = refl

map_or : (a b : Option Entry) → option_map (λ e. e.stamp.beat) (option_or a b)
    ≡ option_or (option_map (λ e. e.stamp.beat) a) (option_map (λ e. e.stamp.beat) b)
map_or None b = refl
map_or (Some x) b = refl

-- one more entry, looked at for a Put, a stop, a whole block, a piece and a failed read
module _ (es : List Entry) (e : Entry) where
  pub put_more : (p : Params) (v : ℕ) (old new : Option Placed) → new ≡ both old (earliest (put_by p v e.stamp.beat e.what))
      → old ≡ earliest (flat_map (λ e. put_by p v e.stamp.beat e.what) es)
      → new ≡ earliest (flat_map (λ e. put_by p v e.stamp.beat e.what) (es ++ e ∷ []))
  put_more p v old new step before =
      let f = λ (e : Entry). put_by p v e.stamp.beat e.what in
      step ∙ (ap (λ o. both o (earliest (f e))) before
      ∙ sym (ap earliest (flat_map-push f es e) ∙ earliest-append (flat_map f es) (f e)))

  pub stop_more : (v : ℕ) (old new : Option ℕ)
      → new ≡ option_or old (if is_gone_of v e.what then Some e.stamp.beat else None)
      → old ≡ option_map (λ e. e.stamp.beat) (find (λ e. is_gone_of v e.what) es)
      → new ≡ option_map (λ e. e.stamp.beat) (find (λ e. is_gone_of v e.what) (es ++ e ∷ []))
  stop_more v old new step before =
      let gone = λ (e : Entry). is_gone_of v e.what in
      let beat = λ (e : Entry). e.stamp.beat in
      step ∙ (ap (λ o. option_or o (if gone e then Some e.stamp.beat else None)) before
      ∙ sym (ap (option_map beat) (find-append gone es (e ∷ []))
      ∙ (map_or (find gone es) (find gone (e ∷ []))
      ∙ ap (option_or (option_map beat (find gone es))) (find_one v e))))

  pub whole_more : (v visit : ℕ) (old new : Option ℕ) → new ≡ option_or old (first_sent (whole_in v visit e.what))
      → old ≡ first_sent (flat_map (λ e. whole_in v visit e.what) es)
      → new ≡ first_sent (flat_map (λ e. whole_in v visit e.what) (es ++ e ∷ []))
  whole_more v visit old new step before =
      let f = λ (e : Entry). whole_in v visit e.what in
      step ∙ (ap (λ o. option_or o (first_sent (f e))) before
      ∙ sym (ap first_sent (flat_map-push f es e) ∙ first_sent-append (flat_map f es) (f e)))

  pub piece_more : (v visit k : ℕ) (old new : Option ℕ)
      → new ≡ option_or old (first_sent (pieces_numbered k (piece_in v visit e.what)))
      → old ≡ first_sent (pieces_numbered k (flat_map (λ e. piece_in v visit e.what) es))
      → new ≡ first_sent (pieces_numbered k (flat_map (λ e. piece_in v visit e.what) (es ++ e ∷ [])))
  piece_more v visit k old new step before =
      let f = λ (e : Entry). piece_in v visit e.what in
      step ∙ (ap (λ o. option_or o (first_sent (pieces_numbered k (f e)))) before
      ∙ sym (ap (λ xs. first_sent (pieces_numbered k xs)) (flat_map-push f es e)
      ∙ (ap first_sent (filter-append (λ x. x.want.piece == k) (flat_map f es) (f e))
      ∙ first_sent-append (pieces_numbered k (flat_map f es)) (pieces_numbered k (f e)))))

  pub failed_more : (v visit : ℕ) (old new : Bool) → new ≡ (old || is_failed_read v visit 0 e.what)
      → old ≡ read_failed v visit 0 es → new ≡ read_failed v visit 0 (es ++ e ∷ [])
  failed_more v visit old new step before =
      let f = λ (e : Entry). is_failed_read v visit 0 e.what in
      step ∙ (ap (λ b. b || f e) before
      ∙ sym (list_any-append f es (e ∷ []) ∙ ap (λ b. list_any f es || b) (or_false (f e))))
    where
      or_false : (b : Bool) → (b || false) ≡ b
      or_false true = refl
      or_false false = refl
