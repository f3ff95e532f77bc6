-- What is held, as a list: which holdings are there, which are marked as passed on, and what a hold and a mark make of them.
use Rattle.std.proofs.Common.{◌≡◌, ℕ, List, [], ◌∷◌, ◌++◌, Bool, true, false, not, refl, sym, ap, subst, ◌∙◌, ⊎_elim, inl, inr}
use Rattle.std.specs.Prelude.{◌⊎◌, ◌&&◌, ◌||◌}
use Rattle.std.specs.List.{list_any}
use Rattle.std.proofs.lemmas.Bool.{true≢false, cases_Bool, eqb-true, eq-eqb, and_parts, and_from, or_left, or_right, not-true}
use Rattle.tiger_base.specs.declared.number.Instance.{Instance}
use Rattle.deschedule.specs.declared.held.Holding.{Holding}
use Rattle.deschedule.specs.Holds.{is_of, is_held, must_pass, with_hold, once_passed, with_pass}
use Rattle.lists.specs.Elements.{In}
use Rattle.lists.proofs.Elements.{chosen, in_left, in_right, in_cases, from_map}

pub no_both : {b : Bool} → b ≡ true → b ≡ false → ⊥
no_both e f = true≢false (sym e ∙ f)

-- elements of which one passes a test
pub any_in : {X : Type 0} (test : X → Bool) (xs : List X) → list_any test xs ≡ true → (x : X) × In x xs × (test x ≡ true)
any_in test [] e = absurd (cc)
any_in test (x ∷ xs) e = ⊎_elim
    (λ (t : test x ≡ true). (x, inl refl, t))
    (λ (t : test x ≡ false).
    let r = any_in test xs (subst (λ b. (b || list_any test xs) ≡ true) t e) in (r.0, inr r.1, r.2))
    (cases_Bool (test x))

pub in_any : {X : Type 0} (test : X → Bool) (x : X) (xs : List X) → In x xs → test x ≡ true → list_any test xs ≡ true
in_any test x [] i t = absurd i
in_any test x (z ∷ zs) i t = ⊎_elim
    (λ q. or_left (test z) (list_any test zs) (ap test (sym q) ∙ t))
    (λ q. or_right (test z) (list_any test zs) (in_any test x zs q t))
    i

pub held_in : (v : Instance) (xs : List Holding) → is_held xs v ≡ true → (x : Holding) × In x xs × (x.instance.0 ≡ v.0)
held_in v xs e = let r = any_in (is_of v) xs e in (r.0, r.1, eqb-true _ _ r.2)

pub in_held : (v : Instance) (x : Holding) (xs : List Holding) → In x xs → x.instance.0 ≡ v.0 → is_held xs v ≡ true
in_held v x xs i e = in_any (is_of v) x xs i (eq-eqb x.instance.0 v.0 e)

-- what must be passed on is held and was not passed on; if nothing must be, all of the instance was
abbrev is_unpassed : Instance → Holding → Bool
is_unpassed v x = is_of v x && not x.passed

pub must_in : (v : Instance) (xs : List Holding) → must_pass xs v ≡ true
    → (x : Holding) × In x xs × (x.instance.0 ≡ v.0) × (x.passed ≡ false)
must_in v xs e =
    let r = any_in (is_unpassed v) xs e in
    let b = and_parts (is_of v r.0) (not r.0.passed) r.2 in
    (r.0, r.1, eqb-true _ _ b.0, not-true r.0.passed b.1)

pub all_passed : (v : Instance) (x : Holding) (xs : List Holding) → In x xs → x.instance.0 ≡ v.0 → must_pass xs v ≡ false
    → x.passed ≡ true
all_passed v x xs i e none = ⊎_elim
    (λ (t : x.passed ≡ true). t)
    (λ (t : x.passed ≡ false).
    let must = and_from (is_of v x) (not x.passed) (eq-eqb x.instance.0 v.0 e) (ap not t) in
    absurd (no_both (in_any (is_unpassed v) x xs i must) none))
    (cases_Bool x.passed)

-- a hold adds one of its instance, unless that is held, and takes none away
abbrev pub new_hold : Instance → ℕ → Holding
new_hold v until = record { instance = v; until = until; passed = false }

pub hold_in : (v : Instance) (xs : List Holding) (until : ℕ)
    → (x : Holding) × In x (with_hold xs v until) × (x.instance.0 ≡ v.0)
hold_in v xs until =
    chosen (λ (ys : List Holding). (x : Holding) × In x ys × (x.instance.0 ≡ v.0)) (is_held xs v) xs (xs ++ new_hold v until ∷ [])
    (λ t. held_in v xs t)
    (λ _. (new_hold v until, in_right (new_hold v until) xs (new_hold v until ∷ []) (inl refl), refl))

pub with_hold_back : (v : Instance) (xs : List Holding) (until : ℕ) (x : Holding) → In x (with_hold xs v until)
    → In x xs ⊎ ((is_held xs v ≡ false) × (x ≡ new_hold v until))
with_hold_back v xs until x =
    chosen (λ (ys : List Holding). In x ys → In x xs ⊎ ((is_held xs v ≡ false) × (x ≡ new_hold v until))) (is_held xs v) xs (xs ++ new_hold v until ∷ [])
    (λ _ i. inl i)
    (λ f i. ⊎_elim (λ q. inl q) (λ q. ⊎_elim (λ e. inr (f, e)) (λ e. absurd e) q) (in_cases x xs (new_hold v until ∷ []) i))

pub with_hold_forth : (v : Instance) (xs : List Holding) (until : ℕ) (x : Holding) → In x xs → In x (with_hold xs v until)
with_hold_forth v xs until x i =
    chosen (λ (ys : List Holding). In x ys) (is_held xs v) xs (xs ++ new_hold v until ∷ [])
    (λ _. i) (λ _. in_left x xs (new_hold v until ∷ []) i)

pub must_begin : (xs : List Holding) (v : Instance) (until : ℕ) → is_held xs v ≡ false
    → must_pass (with_hold xs v until) v ≡ true
must_begin xs v until free =
    in_any (is_unpassed v) (new_hold v until) (with_hold xs v until)
    (chosen (λ (ys : List Holding). In (new_hold v until) ys) (is_held xs v) xs (xs ++ new_hold v until ∷ [])
    (λ t. absurd (no_both t free)) (λ _. in_right (new_hold v until) xs (new_hold v until ∷ []) (inl refl)))
    (and_from (is_of v (new_hold v until)) true (eq-eqb v.0 v.0 refl) refl)

-- all that is marked of an instance was passed on
pub all_marked : (v : Instance) (x : Holding) (xs : List Holding) → In x (with_pass xs v) → x.instance.0 ≡ v.0
    → x.passed ≡ true
all_marked v x xs i same =
    let f = from_map (once_passed v) x xs i in
    chosen (λ (z : Holding). x ≡ z → x.passed ≡ true) (is_of v f.0) (record f.0 { passed = true }) f.0
    (λ _ e. ap (λ (y : Holding). y.passed) e)
    (λ no e. absurd (no_both (eq-eqb f.0.instance.0 v.0 (ap (λ (y : Holding). y.instance.0) (sym e) ∙ same)) no))
    f.2
