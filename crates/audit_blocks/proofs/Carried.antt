-- What messages with bytes put into the tables of what was sent and of what came.
use Rattle.std.proofs.Common.{◌≡◌, ℕ, Bool, true, false, ◌&&◌, ◌||◌, ◌==◌, not, cond, List, [], ◌∷◌, ◌++◌, Option, Some, None, refl, ap, sym, subst, ◌∙◌, append-nil, if◌then◌else◌}
use Rattle.std.proofs.lemmas.Bool.{eqb-true, false≢true}
use Rattle.run_model.specs.declared.parcels.Parcel.{Parcel}
use Rattle.audit_blocks.specs.declared.receipts.Receipt.{Receipt}
use Rattle.audit_blocks.specs.declared.receipts.Came.{Came}
use Rattle.audit_blocks.specs.declared.cargo.Cargo.{Cargo}
use Rattle.audit_blocks.specs.Cargo.{parcel_of, is_for, whole_for, numbered_for}
use Rattle.audit_blocks.specs.Receipts.{KeptArrivals, came_under, again}
use Rattle.audit_blocks.specs.Dispatches.{is_dispatch}
use Rattle.audit_blocks.specs.Told.{TellsCame, is_some_piece, is_cargo}
use Rattle.audit_blocks.proofs.Adding.{or_false, and_true}

-- ---- what was sent

pub cargo_kept : (node beat c : ℕ) (w : Bool) (r : Receipt) (cargo : Cargo) (t was is : Bool) → t ≡ (cargo.receipt.sent == beat) → t ≡ true
    → is ≡ (was || is_dispatch node cargo.whole cargo.receipt c w r) → is ≡ (was || is_cargo node beat c w r (Some cargo))
cargo_kept node beat c w r cargo t was is e h added =
    added ∙ ap (λ (b : Bool). was || (b && is_dispatch node cargo.whole cargo.receipt c w r)) (sym (sym e ∙ h))

pub cargo_left : (node beat c : ℕ) (w : Bool) (r : Receipt) (cargo : Cargo) (t was : Bool) → t ≡ (cargo.receipt.sent == beat) → t ≡ false
    → was ≡ (was || is_cargo node beat c w r (Some cargo))
cargo_left node beat c w r cargo t was e h =
    sym (ap (λ (b : Bool). was || (b && is_dispatch node cargo.whole cargo.receipt c w r)) (sym e ∙ h) ∙ or_false was)

pub cargo_said : (node beat c : ℕ) (w : Bool) (r : Receipt) (cargo : Cargo) (o : Option Cargo) (told : Option Cargo) (was is : Bool)
    → o ≡ told → o ≡ Some cargo → is ≡ (was || is_cargo node beat c w r (Some cargo)) → is ≡ (was || is_cargo node beat c w r told)
cargo_said node beat c w r cargo o told was is e f h =
    h ∙ ap (λ (q : Option Cargo). was || is_cargo node beat c w r q) (sym f ∙ e)

pub none_said : (node beat c : ℕ) (w : Bool) (r : Receipt) (o : Option Cargo) (told : Option Cargo) (was : Bool)
    → o ≡ told → o ≡ None → was ≡ (was || is_cargo node beat c w r told)
none_said node beat c w r o told was e f =
    sym (ap (λ (q : Option Cargo). was || is_cargo node beat c w r q) (sym e ∙ f) ∙ or_false was)

-- ---- what came

came_more : (came : Option Came) (r : Receipt) (ps : List Parcel) → TellsCame came ps
    → TellsCame (Some (again came r)) (ps ++ parcel_of r ∷ [])
came_more None r [] h = record { any = refl; one = refl }
came_more None r (x ∷ xs) h = absurd (false≢true h.any)
came_more (Some c) r [] h = absurd (false≢true (sym h.any))
came_more (Some c) r (x ∷ []) h = record { any = refl; one = refl }
came_more (Some c) r (x ∷ y ∷ ys) h = record { any = refl; one = refl }

came_same : (came : Option Came) (ps qs : List Parcel) → qs ≡ [] → TellsCame came ps → TellsCame came (ps ++ qs)
came_same came ps qs none h =
    subst (λ (q : List Parcel). TellsCame came q) (sym (ap (λ (q : List Parcel). ps ++ q) none ∙ append-nil ps)) h

came_kept : (i m j v n k : ℕ) (r : Receipt) (old new : KeptArrivals) (ps qs : List Parcel)
    → came_under v n k new ≡ (if (i == v) && (m == n) && (j == k) then Some (again (came_under i m j old) r) else came_under v n k old)
    → qs ≡ (if (i == v) && (m == n) && (j == k) then parcel_of r ∷ [] else [])
    → TellsCame (came_under v n k old) ps → TellsCame (came_under v n k new) (ps ++ qs)
came_kept i m j v n k r old new ps qs e f h = go (i == v) (m == n) (j == k) refl refl refl
    (e) (f)
  where
    stays : came_under v n k new ≡ came_under v n k old → qs ≡ [] → TellsCame (came_under v n k new) (ps ++ qs)
    stays now is = came_same (came_under v n k new) ps qs is (subst (λ (o : Option Came). TellsCame o ps) (sym now) h)

    go : (a b c : Bool) → (i == v) ≡ a → (m == n) ≡ b → (j == k) ≡ c
        → came_under v n k new ≡ cond ((a && b) && c) (Some (again (came_under i m j old) r)) (came_under v n k old)
        → qs ≡ cond ((a && b) && c) (parcel_of r ∷ []) []
        → TellsCame (came_under v n k new) (ps ++ qs)
    go true true true x y z now is =
        let there : came_under i m j old ≡ came_under v n k old =
        ap (λ (q : ℕ). came_under q m j old) (eqb-true i v x)
        ∙ (ap (λ (q : ℕ). came_under v q j old) (eqb-true m n y) ∙ ap (λ (q : ℕ). came_under v n q old) (eqb-true j k z)) in
        subst (λ (q : List Parcel). TellsCame (came_under v n k new) (ps ++ q)) (sym is)
        (subst (λ (o : Option Came). TellsCame o (ps ++ parcel_of r ∷ []))
        (sym (now ∙ ap (λ (o : Option Came). Some (again o r)) there)) (came_more (came_under v n k old) r ps h))
    go true true false x y z now is = stays now is
    go true false c x y z now is = stays now is
    go false b c x y z now is = stays now is

pub whole_kept : (v n : ℕ) (cargo : Cargo) (t : Bool) (old new : KeptArrivals) → t ≡ cargo.whole → t ≡ true
    → came_under v n 0 new
    ≡ (if (cargo.receipt.want.instance.0 == v) && (cargo.receipt.want.visit == n) && true
    then Some (again (came_under cargo.receipt.want.instance.0 cargo.receipt.want.visit 0 old) cargo.receipt) else came_under v n 0 old)
    → (ps : List Parcel) → TellsCame (came_under v n 0 old) ps → TellsCame (came_under v n 0 new) (ps ++ whole_for v n (Some cargo))
whole_kept v n cargo t old new e h added ps tells =
    came_kept cargo.receipt.want.instance.0 cargo.receipt.want.visit 0 v n 0 cargo.receipt old new ps (whole_for v n (Some cargo)) added
    (ap (λ (b : Bool). cond (b && is_for v n cargo.receipt) (parcel_of cargo.receipt ∷ []) []) (sym e ∙ h)
    ∙ ap (λ (b : Bool). cond b (parcel_of cargo.receipt ∷ []) []) (sym (and_true (is_for v n cargo.receipt))))
    tells

pub whole_left : (v n : ℕ) (cargo : Cargo) (t : Bool) (old : KeptArrivals) → t ≡ cargo.whole → t ≡ false
    → (ps : List Parcel) → TellsCame (came_under v n 0 old) ps → TellsCame (came_under v n 0 old) (ps ++ whole_for v n (Some cargo))
whole_left v n cargo t old e h ps tells =
    came_same (came_under v n 0 old) ps (whole_for v n (Some cargo))
    (ap (λ (b : Bool). cond (b && is_for v n cargo.receipt) (parcel_of cargo.receipt ∷ []) []) (sym e ∙ h)) tells

pub piece_kept : (v n k : ℕ) (cargo : Cargo) (t : Bool) (old new : KeptArrivals) → t ≡ cargo.whole → t ≡ false
    → came_under v n k new
    ≡ (if (cargo.receipt.want.instance.0 == v) && (cargo.receipt.want.visit == n) && (cargo.receipt.want.piece == k)
    then Some (again (came_under cargo.receipt.want.instance.0 cargo.receipt.want.visit cargo.receipt.want.piece old) cargo.receipt)
    else came_under v n k old)
    → (ps : List Parcel) → TellsCame (came_under v n k old) ps → TellsCame (came_under v n k new) (ps ++ numbered_for v n k (Some cargo))
piece_kept v n k cargo t old new e h added ps tells =
    came_kept cargo.receipt.want.instance.0 cargo.receipt.want.visit cargo.receipt.want.piece v n k cargo.receipt old new ps
    (numbered_for v n k (Some cargo)) added
    (ap (λ (b : Bool). cond (not b && (is_for v n cargo.receipt && (cargo.receipt.want.piece == k))) (parcel_of cargo.receipt ∷ []) [])
    (sym e ∙ h))
    tells

pub piece_left : (v n k : ℕ) (cargo : Cargo) (t : Bool) (old : KeptArrivals) → t ≡ cargo.whole → t ≡ true
    → (ps : List Parcel) → TellsCame (came_under v n k old) ps → TellsCame (came_under v n k old) (ps ++ numbered_for v n k (Some cargo))
piece_left v n k cargo t old e h ps tells =
    came_same (came_under v n k old) ps (numbered_for v n k (Some cargo))
    (ap (λ (b : Bool). cond (not b && (is_for v n cargo.receipt && (cargo.receipt.want.piece == k))) (parcel_of cargo.receipt ∷ []) [])
    (sym e ∙ h)) tells

pub some_whole : (f : Option Cargo → List Parcel) (came : Option Came) (got : Option Cargo) (cargo : Cargo) (ps : List Parcel)
    → got ≡ Some cargo → TellsCame came (ps ++ f (Some cargo)) → TellsCame came (ps ++ f got)
some_whole f came got cargo ps is h = subst (λ (o : Option Cargo). TellsCame came (ps ++ f o)) (sym is) h

pub none_came : (f : Option Cargo → List Parcel) (came : Option Came) (got : Option Cargo) (ps : List Parcel)
    → got ≡ None → f None ≡ [] → TellsCame came ps → TellsCame came (ps ++ f got)
none_came f came got ps is none h = came_same came ps (f got) (ap f is ∙ none) h

-- ---- of which visits a piece came

pub visit_kept : (v n : ℕ) (cargo : Cargo) (t was is : Bool) → t ≡ cargo.whole → t ≡ false
    → is ≡ (was || ((cargo.receipt.want.instance.0 == v) && (cargo.receipt.want.visit == n) && true))
    → is ≡ (was || is_some_piece v n (Some cargo))
visit_kept v n cargo t was is e h added =
    added ∙ (ap (λ (b : Bool). was || b) (and_true (is_for v n cargo.receipt))
    ∙ ap (λ (b : Bool). was || (not b && is_for v n cargo.receipt)) (sym (sym e ∙ h)))

pub visit_left : (v n : ℕ) (cargo : Cargo) (t was : Bool) → t ≡ cargo.whole → t ≡ true → was ≡ (was || is_some_piece v n (Some cargo))
visit_left v n cargo t was e h =
    sym (ap (λ (b : Bool). was || (not b && is_for v n cargo.receipt)) (sym e ∙ h) ∙ or_false was)

pub visit_said : (v n : ℕ) (cargo : Cargo) (got : Option Cargo) (was is : Bool) → got ≡ Some cargo
    → is ≡ (was || is_some_piece v n (Some cargo)) → is ≡ (was || is_some_piece v n got)
visit_said v n cargo got was is at h = h ∙ ap (λ (o : Option Cargo). was || is_some_piece v n o) (sym at)

pub no_visit : (v n : ℕ) (got : Option Cargo) (was : Bool) → got ≡ None → was ≡ (was || is_some_piece v n got)
no_visit v n got was at = sym (ap (λ (o : Option Cargo). was || is_some_piece v n o) at ∙ or_false was)
