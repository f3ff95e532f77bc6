-- What the telling entries of a journal tell is all that it tells.
use Rattle.std.proofs.Common.{◌≡◌, ℕ, suc, ◌+◌, ◌<◌, ◌≤◌, List, [], ◌∷◌, ◌++◌, Bool, true, false, cond, ◌||◌, length, take, get_or, filter, find, option_map, Some, arith, refl, sym, ap, ◌∙◌}
use Rattle.std.specs.Prelude.{slice_get, option_to_list}
use Rattle.std.specs.List.{flat_map, list_any, AllByRecursion}
use Rattle.std.proofs.lemmas.Bool.{false≢true}
use Rattle.std.proofs.lemmas.List.{append-nil, append_assoc, take_all, take_more}
use Rattle.std.proofs.lemmas.List.Concat.{flat_map-append}
use Rattle.std.proofs.lemmas.List.Elements.{filter-append, All-from_recursion}
use Rattle.std.proofs.lemmas.Option.{slice_get-get_or}
use Rattle.slot_plan.specs.declared.params.Params.{Params}
use Rattle.node_kit.specs.Telling.{is_telling, telling_places}
use Rattle.node_kit.specs.declared.journal.Entry.{Entry}
use Rattle.node_kit.specs.declared.journal.What.{What}
use Rattle.node_kit.specs.declared.journal.What.TheVariants as what
use Rattle.tiger_base.specs.declared.message.Note.TheVariants as note
use Rattle.node_kit.proofs.Telling.{telling-all}
use Rattle.run_facts.specs.Commanded.{is_gone_of}
use Rattle.run_model.specs.Served.{whole_in, piece_in, pieces_numbered}
use Rattle.run_model.specs.Tests.{is_failed_read}
use Rattle.run_report.specs.declared.told.Role.{Role}
use Rattle.run_report.specs.declared.told.Role.TheVariants as role
use Rattle.run_report.specs.declared.told.Told.{Told}
use Rattle.run_report.specs.Outcomes.{put_by, earliest, first_sent}
use Rattle.run_report.specs.Tables.{death_by, deaths_in}
use Rattle.run_report.specs.Told.{TellsOf, of_controller, of_viewers, HasRead}
use Rattle.run_report.proofs.Fronts.{same_entries}
use Rattle.run_report.proofs.Gathering.{flat_map-push}

-- the telling ones of some entries, and the entries at some places
abbrev pub telling_of : List Entry → List Entry
telling_of es = filter (λ e. is_telling e.what) es

abbrev pub picked : List Entry → List ℕ → List Entry
picked es ns = flat_map (λ n. option_to_list (slice_get es n)) ns

-- ---- the entries at the places of the telling ones

-- those of an entry that is telling or is not, and of the entries behind it
picked-by : (all : List Entry) (n : ℕ) (e : Entry) (t : Bool) (ns : List ℕ) (es : List Entry)
    → slice_get all n ≡ Some e → picked all ns ≡ es → picked all (cond t (n ∷ ns) ns) ≡ cond t (e ∷ es) es
picked-by all n e true ns es here rest = ap (λ o. option_to_list o ++ picked all ns) here ∙ ap (λ es. e ∷ es) rest
picked-by all n e false ns es here rest = rest

picked-from : (all : List Entry) (n : ℕ) (es : List Entry) → ((i : ℕ) → slice_get all (n + i) ≡ slice_get es i)
    → picked all (telling_places n es) ≡ telling_of es
picked-from all n [] rest = refl
picked-from all n (e ∷ es) rest =
    picked-by all n e (is_telling e.what) (telling_places (suc n) es) (telling_of es)
    (ap (slice_get all) (omega arith) ∙ rest 0)
    (picked-from all (suc n) es (λ i. ap (slice_get all) (omega arith) ∙ rest (suc i)))

pub picked-telling : (es : List Entry) → picked es (telling_places 0 es) ≡ telling_of es
picked-telling es = picked-from es 0 es (λ i. ap (slice_get es) (omega arith))

-- ---- what goes by entries of which only telling ones count

telling-again : (es : List Entry) → telling_of (telling_of es) ≡ telling_of es
telling-again [] = refl
telling-again (e ∷ es) = by_test (is_telling e.what) refl (telling-again es)
  where
    by_test : (t : Bool) → is_telling e.what ≡ t → telling_of (telling_of es) ≡ telling_of es
        → telling_of (cond t (e ∷ telling_of es) (telling_of es)) ≡ cond t (e ∷ telling_of es) (telling_of es)
    by_test true is rest =
        ap (λ (b : Bool). cond b (e ∷ telling_of (telling_of es)) (telling_of (telling_of es))) is
        ∙ ap (λ es. e ∷ es) rest
    by_test false is rest = rest

flat_map-telling : {A : Type 0} (f : Entry → List A) → ((e : Entry) → is_telling e.what ≡ false → f e ≡ [])
    → (es : List Entry) → flat_map f (telling_of es) ≡ flat_map f es
flat_map-telling f nothing [] = refl
flat_map-telling f nothing (e ∷ es) = by_test (is_telling e.what) refl (flat_map-telling f nothing es)
  where
    by_test : (t : Bool) → is_telling e.what ≡ t → flat_map f (telling_of es) ≡ flat_map f es
        → flat_map f (cond t (e ∷ telling_of es) (telling_of es)) ≡ f e ++ flat_map f es
    by_test true is rest = ap (λ ys. f e ++ ys) rest
    by_test false is rest = rest ∙ sym (ap (λ ys. ys ++ flat_map f es) (nothing e is))

find-telling : (f : Entry → Bool) → ((e : Entry) → is_telling e.what ≡ false → f e ≡ false) → (es : List Entry)
    → find f (telling_of es) ≡ find f es
find-telling f fails [] = refl
find-telling f fails (e ∷ es) = by_test (is_telling e.what) refl (find-telling f fails es)
  where
    by_test : (t : Bool) → is_telling e.what ≡ t → find f (telling_of es) ≡ find f es
        → find f (cond t (e ∷ telling_of es) (telling_of es)) ≡ cond (f e) (Some e) (find f es)
    by_test true is rest = ap (cond (f e) (Some e)) rest
    by_test false is rest = rest ∙ sym (ap (λ (b : Bool). cond b (Some e) (find f es)) (fails e is))

any-telling : (f : Entry → Bool) → ((e : Entry) → is_telling e.what ≡ false → f e ≡ false) → (es : List Entry)
    → list_any f (telling_of es) ≡ list_any f es
any-telling f fails [] = refl
any-telling f fails (e ∷ es) = by_test (is_telling e.what) refl (any-telling f fails es)
  where
    by_test : (t : Bool) → is_telling e.what ≡ t → list_any f (telling_of es) ≡ list_any f es
        → list_any f (cond t (e ∷ telling_of es) (telling_of es)) ≡ (f e || list_any f es)
    by_test true is rest = ap (λ b. f e || b) rest
    by_test false is rest = rest ∙ sym (ap (λ b. b || list_any f es) (fails e is))

-- ---- an entry that is not telling puts nothing into a table

no_put : (p : Params) (v beat : ℕ) (w : What) → is_telling w ≡ false → put_by p v beat w ≡ []
no_put p v beat (what.Put t) quiet = absurd (false≢true (sym quiet))
no_put p v beat other quiet = refl

no_stop : (v : ℕ) (w : What) → is_telling w ≡ false → is_gone_of v w ≡ false
no_stop v (what.Gone instance) quiet = absurd (false≢true (sym quiet))
no_stop v other quiet = refl

no_whole : (v visit : ℕ) (w : What) → is_telling w ≡ false → whole_in v visit w ≡ []
no_whole v visit (what.Got link (note.Whole want sent part)) quiet = absurd (false≢true (sym quiet))
no_whole v visit other quiet = refl

no_piece : (v visit : ℕ) (w : What) → is_telling w ≡ false → piece_in v visit w ≡ []
no_piece v visit (what.Got link (note.Piece want sent part)) quiet = absurd (false≢true (sym quiet))
no_piece v visit other quiet = refl

no_failed : (v visit : ℕ) (w : What) → is_telling w ≡ false → is_failed_read v visit 0 w ≡ false
no_failed v visit (what.ReadFailed want) quiet = absurd (false≢true (sym quiet))
no_failed v visit other quiet = refl

no_death : (e : Entry) → is_telling e.what ≡ false → death_by e ≡ []
no_death e quiet = by_what e.what quiet
  where
    by_what : (w : What) → is_telling w ≡ false → death_by (record { stamp = e.stamp; what = w }) ≡ []
    by_what what.Died quiet = absurd (false≢true (sym quiet))
    by_what other quiet = refl

-- ---- tables that tell what entries do tell what others do, if their telling entries are the same

module _ (xs ys : List Entry) (same : telling_of xs ≡ telling_of ys) where
  alike : {A : Type 0} (f : List Entry → A) → ((es : List Entry) → f (telling_of es) ≡ f es) → f xs ≡ f ys
  alike f tells = sym (tells xs) ∙ ap f same ∙ tells ys

  flat_map-alike : {A : Type 0} (f : Entry → List A) → ((e : Entry) → is_telling e.what ≡ false → f e ≡ [])
      → flat_map f xs ≡ flat_map f ys
  flat_map-alike f nothing = alike (flat_map f) (flat_map-telling f nothing)

  find-alike : (f : Entry → Bool) → ((e : Entry) → is_telling e.what ≡ false → f e ≡ false) → find f xs ≡ find f ys
  find-alike f fails = alike (find f) (find-telling f fails)

  any-alike : (f : Entry → Bool) → ((e : Entry) → is_telling e.what ≡ false → f e ≡ false)
      → list_any f xs ≡ list_any f ys
  any-alike f fails = alike (list_any f) (any-telling f fails)

tells-alike : (p : Params) (all all2 controller controller2 viewers viewers2 : List Entry) (t : Told)
    → telling_of all ≡ telling_of all2 → telling_of controller ≡ telling_of controller2
    → telling_of viewers ≡ telling_of viewers2 → TellsOf p all controller viewers t
    → TellsOf p all2 controller2 viewers2 t
tells-alike p all all2 controller controller2 viewers viewers2 t same same_stops same_got told = record {
  put = λ v. told.put v ∙ ap earliest (flat_map-alike all all2 same
      (λ e. put_by p v e.stamp.beat e.what) (λ e. no_put p v e.stamp.beat e.what));
  stop = λ v. told.stop v ∙ ap (option_map (λ e. e.stamp.beat)) (find-alike controller controller2 same_stops
      (λ e. is_gone_of v e.what) (λ e. no_stop v e.what));
  whole = λ v visit. told.whole v visit ∙ ap first_sent (flat_map-alike viewers viewers2 same_got
      (λ e. whole_in v visit e.what) (λ e. no_whole v visit e.what));
  piece = λ v visit k. told.piece v visit k ∙ ap (λ xs. first_sent (pieces_numbered k xs))
      (flat_map-alike viewers viewers2 same_got
      (λ e. piece_in v visit e.what) (λ e. no_piece v visit e.what));
  failed = λ v visit. told.failed v visit ∙ any-alike all all2 same
      (λ e. is_failed_read v visit 0 e.what) (λ e. no_failed v visit e.what);
}

behind : (xs es : List Entry) → telling_of (xs ++ telling_of es) ≡ telling_of (xs ++ es)
behind xs es =
    filter-append (λ e. is_telling e.what) xs (telling_of es)
    ∙ ap (λ ys. telling_of xs ++ ys) (telling-again es) ∙ sym (filter-append (λ e. is_telling e.what) xs es)

behind-controller : (r : Role) (xs es : List Entry)
    → telling_of (of_controller r xs (telling_of es)) ≡ telling_of (of_controller r xs es)
behind-controller role.Controller xs es = behind xs es
behind-controller role.Viewers xs es = refl
behind-controller role.Other xs es = refl

behind-viewers : (r : Role) (xs es : List Entry)
    → telling_of (of_viewers r xs (telling_of es)) ≡ telling_of (of_viewers r xs es)
behind-viewers role.Controller xs es = refl
behind-viewers role.Viewers xs es = behind xs es
behind-viewers role.Other xs es = refl

-- ---- a walk over their places

pub place-inside : (es shown : List Entry) (places : List ℕ) (i : ℕ) → places ≡ telling_places 0 es → shown ≡ es
    → i < length places → get_or places i 0 < length shown
place-inside es shown places i are same low =
    let inside : AllByRecursion (λ n. n < length es) (telling_places 0 es) =
    telling-all (λ n. n < length es) 0 es (λ n below. omega (arith, below)) in
    let inside : AllByRecursion (λ n. n < length shown) places = rw (are, same) inside in
    All-from_recursion (λ n. n < length shown) places inside i 0 low

picked-more : (es : List Entry) (ns : List ℕ) (i : ℕ) (d : Entry) → i < length ns → get_or ns i 0 < length es
    → picked es (take (i + 1) ns) ≡ picked es (take i ns) ++ get_or es (get_or ns i 0) d ∷ []
picked-more es ns i d low inside =
    let at = λ (n : ℕ). option_to_list (slice_get es n) in
    ap (picked es) (take_more ns i 0 low) ∙ flat_map-append at (take i ns) (get_or ns i 0 ∷ [])
    ∙ ap (λ xs. picked es (take i ns) ++ xs)
    (append-nil (at (get_or ns i 0)) ∙ ap option_to_list (slice_get-get_or es (get_or ns i 0) d inside))

controller-joined : (r : Role) (before xs ys : List Entry)
    → of_controller r (of_controller r before xs) ys ≡ of_controller r before (xs ++ ys)
controller-joined role.Controller before xs ys = append_assoc before xs ys
controller-joined role.Viewers before xs ys = refl
controller-joined role.Other before xs ys = refl

viewers-joined : (r : Role) (before xs ys : List Entry)
    → of_viewers r (of_viewers r before xs) ys ≡ of_viewers r before (xs ++ ys)
viewers-joined role.Controller before xs ys = refl
viewers-joined role.Viewers before xs ys = append_assoc before xs ys
viewers-joined role.Other before xs ys = refl

-- the entry at one place more is read
module _ (es shown : List Entry) (places : List ℕ) (i : ℕ) (d : Entry) (are : places ≡ telling_places 0 es)
    (same : shown ≡ es) (low : i < length places) where
  one_more : picked es (take (i + 1) (telling_places 0 es))
      ≡ picked es (take i (telling_places 0 es)) ++ get_or shown (get_or places i 0) d ∷ []
  one_more =
      let inside : get_or places i 0 < length es = rw (← same) (place-inside es shown places i are same low) in
      rw (← are, same) (picked-more es places i d low inside)

  pub read-more : (p : Params) (r : Role) (old mid new : Told)
      → HasRead p r (picked es (take i (telling_places 0 es))) old mid
      → HasRead p r (get_or shown (get_or places i 0) d ∷ []) mid new
      → HasRead p r (picked es (take (i + 1) (telling_places 0 es))) old new
  read-more p r old mid new before step =
      let xs = picked es (take i (telling_places 0 es)) in
      let ys = get_or shown (get_or places i 0) d ∷ [] in
      let joined : HasRead p r (xs ++ ys) old new = λ all controller viewers told.
      same_entries p new _ _ _ _ _ _ (append_assoc all xs ys) (controller-joined r controller xs ys)
      (viewers-joined r viewers xs ys) (step _ _ _ (before all controller viewers told)) in
      rw one_more joined

  pub died-more : (old new : List ℕ) → old ≡ flat_map death_by (picked es (take i (telling_places 0 es)))
      → new ≡ old ++ death_by (get_or shown (get_or places i 0) d)
      → new ≡ flat_map death_by (picked es (take (i + 1) (telling_places 0 es)))
  died-more old new before step =
      let e = get_or shown (get_or places i 0) d in
      step ∙ ap (λ ns. ns ++ death_by e) before
      ∙ sym (ap (flat_map death_by) one_more ∙ flat_map-push death_by (picked es (take i (telling_places 0 es))) e)

-- ---- who has read the entries at all these places has read all

pub all_picked : (es : List Entry) (places : List ℕ) (i : ℕ) → places ≡ telling_places 0 es → length places ≤ i
    → picked es (take i (telling_places 0 es)) ≡ telling_of es
all_picked es places i are past =
    ap (picked es) (take_all i (telling_places 0 es) (omega (arith, ap length are, past))) ∙ picked-telling es

pub read_all : (p : Params) (r : Role) (es picks : List Entry) (old new : Told) → picks ≡ telling_of es
    → HasRead p r picks old new → HasRead p r es old new
read_all p r es picks old new are read all controller viewers told =
    let read : HasRead p r (telling_of es) old new = rw (← are) read in
    tells-alike p _ _ _ _ _ _ new (behind all es) (behind-controller r controller es) (behind-viewers r viewers es)
    (read all controller viewers told)

pub died_all : (es picks : List Entry) → picks ≡ telling_of es → flat_map death_by picks ≡ deaths_in es
unfolding deaths_in
died_all es picks are = ap (flat_map death_by) are ∙ flat_map-telling death_by no_death es

-- who has read nothing has read an empty journal, in which nobody died
pub none_died : [] ≡ deaths_in []
unfolding deaths_in
none_died = refl

pub none_read : (p : Params) (r : Role) (t : Told) → HasRead p r [] t t
none_read p r t all controller viewers told =
    same_entries p t _ _ _ _ _ _ (sym (append-nil all)) (sym (controller-none r controller))
    (sym (viewers-none r viewers)) told
  where
    controller-none : (r : Role) (before : List Entry) → of_controller r before [] ≡ before
    controller-none role.Controller before = append-nil before
    controller-none role.Viewers before = refl
    controller-none role.Other before = refl

    viewers-none : (r : Role) (before : List Entry) → of_viewers r before [] ≡ before
    viewers-none role.Controller before = refl
    viewers-none role.Viewers before = append-nil before
    viewers-none role.Other before = refl
