-- Laws of the parcels of a journal.
use Rattle.std.proofs.Common.{◌≡◌, ℕ, Bool, true, false, not, ◌||◌, ◌&&◌, List, [], ◌∷◌, ◌++◌, refl, sym, ap, nat_eq}
use Rattle.std.specs.List.{list_any, flat_map}
use Rattle.node_kit.specs.declared.journal.Entry.{Entry}
use Rattle.run_model.specs.declared.parcels.Parcel.{Parcel}
use Rattle.run_model.specs.declared.parcels.Form.{Form}
use Rattle.slot_plan.specs.declared.params.Params.{Params}
use Rattle.node_kit.specs.Links.{links_of, viewers_of}
use Rattle.run_model.specs.declared.parcels.Form.TheVariants.{Whole, Piece, AnyPiece}
use Rattle.std.proofs.lemmas.List.Elements.{filter-append}
use Rattle.run_model.specs.Served.{journal_at, piece_in, wholes_got, pieces_got, pieces_numbered}
use Rattle.run_model.specs.Tests.{is_empty, only, parcels_in, parcels, parcels_got}

empty_append : {X : Type 0} (xs ys : List X) → is_empty (xs ++ ys) ≡ (is_empty xs && is_empty ys)
empty_append [] ys = refl
empty_append (x ∷ xs) ys = refl

no_more : (a b : Bool) → not (not a || b) ≡ (a && not b)
no_more true b = refl
no_more false b = refl

-- there is no parcel in a journal where no entry has one
pub empty_parcels : (v visit : ℕ) (form : Form) (journal : List Entry)
    → is_empty (parcels v visit form journal) ≡ not (list_any (λ e. not (is_empty (parcels_in v visit form e.what))) journal)
empty_parcels v visit form [] = refl
empty_parcels v visit form (e ∷ es) =
    rw (empty_append (parcels_in v visit form e.what) (parcels v visit form es), empty_parcels v visit form es)
    (sym (no_more (is_empty (parcels_in v visit form e.what)) (list_any (λ d. not (is_empty (parcels_in v visit form d.what))) es)))

-- the pieces of one number of a journal are those of each entry
numbered : (v visit k : ℕ) (journal : List Entry)
    → parcels v visit (Piece k) journal ≡ pieces_numbered k (flat_map (λ e. piece_in v visit e.what) journal)
numbered v visit k [] = refl
numbered v visit k (e ∷ es) =
    rw (numbered v visit k es) (sym (filter-append (λ (x : Parcel). nat_eq x.want.piece k) (piece_in v visit e.what) (flat_map (λ d. piece_in v visit d.what) es)))

parcels_are_got : (p : Params) (journals : List (List Entry)) (v visit : ℕ) (form : Form)
    → parcels v visit form (journal_at journals (viewers_of (links_of p))) ≡ parcels_got p journals v visit form
unfolding wholes_got pieces_got
parcels_are_got p journals v visit Whole = refl
parcels_are_got p journals v visit (Piece k) = numbered v visit k (journal_at journals (viewers_of (links_of p)))
parcels_are_got p journals v visit AnyPiece = refl

pub none_is_got : (p : Params) (journals : List (List Entry)) (v visit : ℕ) (form : Form)
    → is_empty (parcels v visit form (journal_at journals (viewers_of (links_of p)))) ≡ is_empty (parcels_got p journals v visit form)
none_is_got p journals v visit form = ap is_empty (parcels_are_got p journals v visit form)

pub only_is_got : (p : Params) (journals : List (List Entry)) (v visit : ℕ) (form : Form)
    → only (parcels v visit form (journal_at journals (viewers_of (links_of p)))) ≡ only (parcels_got p journals v visit form)
only_is_got p journals v visit form = ap only (parcels_are_got p journals v visit form)
