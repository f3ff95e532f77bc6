-- The tables of the first journals, once one more is read; and those of all journals.
use Rattle.std.proofs.Common.{◌≡◌, ◌≢◌, ℕ, zero, suc, ◌+◌, ◌<◌, ◌≤◌, List, [], ◌∷◌, ◌++◌, Bool, true, false, ◌||◌, ◌==◌, length, take, get_or, unwrap_or, is_some, if◌then◌else◌, arith, refl, sym, ap, subst, ◌∙◌}
use Rattle.std.specs.List.{flat_map, list_any}
use Rattle.std.proofs.lemmas.Bool.{eqb-true, eq-eqb, false≢true}
use Rattle.std.proofs.lemmas.List.{append-nil, append_assoc}
use Rattle.std.proofs.lemmas.Option.{slice_get_read, slice_get_past}
use Rattle.std.proofs.lemmas.List.Concat.{flat_map-append}
use Rattle.std.proofs.lemmas.List.Folds.{list_any-append}
use Rattle.std.proofs.Math.Numerals.{add-one}
use Rattle.slot_plan.specs.declared.params.Params.{Params}
use Rattle.node_kit.specs.Links.{links_of, controller_of, viewers_of}
use Rattle.node_kit.specs.declared.journal.Entry.{Entry}
use Rattle.run_model.specs.Served.{journal_at, wholes_got, pieces_got}
use Rattle.run_model.specs.Tests.{is_failed_read}
use Rattle.run_report.specs.declared.told.Role.{Role}
use Rattle.run_report.specs.declared.told.Role.TheVariants as role
use Rattle.run_report.specs.declared.told.Told.{Told}
use Rattle.run_report.specs.Outcomes.{put_by, puts_of, earliest, stop_of, whole_sent, piece_sent}
use Rattle.run_report.specs.Tables.{Beats, beat_under, key_at, put_under, AreTables, deaths_of}
use Rattle.run_report.specs.Told.{role_of, TellsOf, of_controller, of_viewers, HasRead, IsToldBy}

-- the same entries, said otherwise
pub same_entries : (p : Params) (t : Told) (x y x2 y2 x3 y3 : List Entry) → x ≡ y → x2 ≡ y2 → x3 ≡ y3
    → TellsOf p x x2 x3 t → TellsOf p y y2 y3 t
same_entries p t x y x2 y2 x3 y3 all controller viewers told = rw (← all, ← controller, ← viewers) told

-- tables with nothing in them
pub none_told : (p : Params) (t : Told) → t.puts ≡ [] → t.stops ≡ [] → t.wholes ≡ [] → t.pieces ≡ [] → t.failed ≡ []
    → IsToldBy p [] t
unfolding journal_at
none_told p t puts stops wholes pieces failed = record {
  put = λ v. ap (put_under v) puts;
  stop = λ v. ap (beat_under (key_at v 0 0)) stops;
  whole = λ v visit. ap (beat_under (key_at v visit 0)) wholes;
  piece = λ v visit k. ap (beat_under (key_at v visit k)) pieces;
  failed = λ v visit. ap (λ (rows : Beats). is_some (beat_under (key_at v visit 0) rows)) failed;
}

-- ---- one more journal

abbrev joined : List (List Entry) → List Entry
joined js = flat_map (λ journal. journal) js

joined_more : (js : List (List Entry)) (n : ℕ) → joined (take (suc n) js) ≡ joined (take n js) ++ journal_at js n
unfolding journal_at
joined_more [] zero = refl
joined_more [] (suc n) = refl
joined_more (j ∷ js) zero = append-nil j
joined_more (j ∷ js) (suc n) =
    ap (λ es. j ++ es) (joined_more js n) ∙ sym (append_assoc j (joined (take n js)) (journal_at js n))

-- the journal of a node, of the first ones: its own turn has not come, it comes, or another's does
none_yet : (js : List (List Entry)) (n : ℕ) → journal_at (take n js) n ≡ []
unfolding journal_at
none_yet [] zero = refl
none_yet [] (suc n) = refl
none_yet (j ∷ js) zero = refl
none_yet (j ∷ js) (suc n) = none_yet js n

own_turn : (js : List (List Entry)) (n : ℕ) → journal_at (take (suc n) js) n ≡ journal_at js n
unfolding journal_at
own_turn [] zero = refl
own_turn [] (suc n) = refl
own_turn (j ∷ js) zero = refl
own_turn (j ∷ js) (suc n) = own_turn js n

other_turn : (js : List (List Entry)) (n m : ℕ) → n ≢ m → journal_at (take (suc n) js) m ≡ journal_at (take n js) m
unfolding journal_at
other_turn [] zero m apart = refl
other_turn [] (suc n) m apart = refl
other_turn (j ∷ js) zero zero apart = absurd (apart refl)
other_turn (j ∷ js) zero (suc m) apart = refl
other_turn (j ∷ js) (suc n) zero apart = refl
other_turn (j ∷ js) (suc n) (suc m) apart = other_turn js n m (λ e. apart (ap suc e))

other_more : (js : List (List Entry)) (n m : ℕ) → (n == m) ≡ false → journal_at (take n js) m ≡ journal_at (take (suc n) js) m
other_more js n m apart = sym (other_turn js n m (λ e. false≢true (sym apart ∙ eq-eqb n m e)))

own_more : (js : List (List Entry)) (n m : ℕ) → (n == m) ≡ true
    → journal_at (take n js) m ++ journal_at js n ≡ journal_at (take (suc n) js) m
own_more js n m same =
    subst (λ (k : ℕ). journal_at (take n js) k ++ journal_at js n ≡ journal_at (take (suc n) js) k) (eqb-true n m same)
    (ap (λ es. es ++ journal_at js n) (none_yet js n) ∙ sym (own_turn js n))

controller_more : (p : Params) (js : List (List Entry)) (n : ℕ)
    → of_controller (role_of p n) (journal_at (take n js) (controller_of (links_of p))) (journal_at js n)
    ≡ journal_at (take (suc n) js) (controller_of (links_of p))
controller_more p js n = by_test (n == controller_of (links_of p)) (n == viewers_of (links_of p)) refl
  where
    by_test : (b d : Bool) → (n == controller_of (links_of p)) ≡ b
        → of_controller (if b then role.Controller else if d then role.Viewers else role.Other)
        (journal_at (take n js) (controller_of (links_of p))) (journal_at js n)
        ≡ journal_at (take (suc n) js) (controller_of (links_of p))
    by_test true d same = own_more js n (controller_of (links_of p)) same
    by_test false true apart = other_more js n (controller_of (links_of p)) apart
    by_test false false apart = other_more js n (controller_of (links_of p)) apart

viewers_more : (p : Params) (js : List (List Entry)) (n : ℕ)
    → of_viewers (role_of p n) (journal_at (take n js) (viewers_of (links_of p))) (journal_at js n)
    ≡ journal_at (take (suc n) js) (viewers_of (links_of p))
viewers_more p js n = by_test (n == controller_of (links_of p)) (n == viewers_of (links_of p)) refl refl
  where
    by_test : (b d : Bool) → (n == controller_of (links_of p)) ≡ b → (n == viewers_of (links_of p)) ≡ d
        → of_viewers (if b then role.Controller else if d then role.Viewers else role.Other)
        (journal_at (take n js) (viewers_of (links_of p))) (journal_at js n)
        ≡ journal_at (take (suc n) js) (viewers_of (links_of p))
    by_test true true one two =
        let one : n ≡ controller_of (links_of p) = eqb-true n (controller_of (links_of p)) one in
        let two : n ≡ viewers_of (links_of p) = eqb-true n (viewers_of (links_of p)) two in
        absurd (omega (arith, one, two))
    by_test true false same apart = other_more js n (viewers_of (links_of p)) apart
    by_test false true apart same = own_more js n (viewers_of (links_of p)) same
    by_test false false other apart = other_more js n (viewers_of (links_of p)) apart

pub told_more : (p : Params) (js : List (List Entry)) (n : ℕ) (role : Role) (journal : List Entry) (old new : Told)
    → role ≡ role_of p n → journal ≡ journal_at js n → HasRead p role journal old new
    → IsToldBy p (take n js) old → IsToldBy p (take (n + 1) js) new
told_more p js n role journal old new its own read told =
    let step : HasRead p (role_of p n) (journal_at js n) old new = rw (← its, ← own) read in
    rw (add-one n)
    (same_entries p new _ _ _ _ _ _ (sym (joined_more js n)) (controller_more p js n) (viewers_more p js n) (step _ _ _ told))

-- a node that stands among the journals has the one at its place, and any other an empty one
pub journal-there : (js : List (List Entry)) (n : ℕ) (journal : List Entry) → n < length js
    → journal ≡ get_or js n journal → journal ≡ journal_at js n
unfolding journal_at
journal-there js n journal low is =
    sym (ap (λ o. unwrap_or o []) (slice_get_read js (length js) n journal refl low is))

pub journal-past : (js : List (List Entry)) (n : ℕ) → length js ≤ n → [] ≡ journal_at js n
unfolding journal_at
journal-past js n past = sym (ap (λ o. unwrap_or o []) (slice_get_past js n past))

-- ---- all journals

flat_map-joined : {A : Type 0} (f : Entry → List A) (js : List (List Entry)) → flat_map f (joined js) ≡ flat_map (λ journal. flat_map f journal) js
flat_map-joined f [] = refl
flat_map-joined f (j ∷ js) = flat_map-append f j (joined js) ∙ ap (λ ys. flat_map f j ++ ys) (flat_map-joined f js)

any-joined : (f : Entry → Bool) (js : List (List Entry)) → list_any f (joined js) ≡ list_any (λ journal. list_any f journal) js
any-joined f [] = refl
any-joined f (j ∷ js) = list_any-append f j (joined js) ∙ ap (λ b. list_any f j || b) (any-joined f js)

pub all_tables : (p : Params) (js : List (List Entry)) (t : Told) (deaths : List (List ℕ)) → IsToldBy p js t → deaths ≡ deaths_of js p.cubs
    → AreTables p js t.puts t.stops t.wholes t.pieces t.failed deaths
unfolding puts_of stop_of whole_sent piece_sent wholes_got pieces_got
all_tables p js t deaths told died = record {
  put = λ v. told.put v ∙ ap earliest (flat_map-joined (λ e. put_by p v e.stamp.beat e.what) js);
  stop = told.stop;
  whole = told.whole;
  piece = told.piece;
  read = λ v visit. told.failed v visit ∙ any-joined (λ e. is_failed_read v visit 0 e.what) js;
  death = died;
}
