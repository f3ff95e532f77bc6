-- What the entries of all journals tell, as tables keep it, is what the definitions ask of the journals.
use Rattle.std.proofs.Common.{◌≡◌, ℕ, Bool, true, false, ◌&&◌, ◌||◌, ◌==◌, not, nat_lt, nat_le, cond, List, [], ◌∷◌, ◌++◌, Option, Some, None, refl, ap, sym, ◌∙◌}
use Rattle.std.specs.List.{list_any, flat_map}
use Rattle.std.proofs.lemmas.List.Elements.{filter-append}
use Rattle.tiger_base.specs.declared.message.Note.TheVariants as note
use Rattle.tiger_base.specs.declared.tenancy.Tenancy.{Tenancy}
use Rattle.slot_plan.specs.declared.params.Params.{Params}
use Rattle.slot_plan.specs.Times.{cub_of, time_of}
use Rattle.node_kit.specs.declared.journal.Entry.{Entry}
use Rattle.node_kit.specs.declared.journal.What.{What}
use Rattle.node_kit.specs.declared.journal.What.TheVariants as what
use Rattle.node_kit.specs.Links.{links_of, viewers_of}
use Rattle.run_facts.specs.Commanded.{is_gone_of}
use Rattle.run_facts.specs.Order.{Noted, beat_of}
use Rattle.run_facts.specs.Timed.{is_died, is_returned}
use Rattle.run_model.specs.declared.parcels.Parcel.{Parcel}
use Rattle.run_model.specs.Served.{journal_at, whole_in, piece_in, wholes_got, pieces_got, pieces_numbered}
use Rattle.run_model.specs.Tests.{is_empty, is_failed_read, read_failed, stopped_before, visited, some_tenancy}
use Rattle.audit_blocks.specs.declared.cargo.Cargo.{Cargo}
use Rattle.audit_blocks.specs.Cargo.{cargo_taken, cargo_got, parcel_of, is_for, whole_for, piece_for, numbered_for}
use Rattle.audit_blocks.specs.Entries.{journals_noted, put_for, puts_for, death_of_node, return_of_node, stops_below, fails_reading, fails_at_cub}
use Rattle.audit_blocks.specs.Told.{is_some_piece}
use Rattle.audit_blocks.proofs.Adding.{or_false}
use Rattle.audit_blocks.proofs.Journals.{any_at, any_anywhere, any_alike, any_flat, flat_at, flat_alike}

-- ---- reads, stops, deaths and returns

pub failed_lines : (v n k : ℕ) (js : List (List Entry)) → list_any (fails_reading v n k) (journals_noted 0 js) ≡ list_any (read_failed v n k) js
failed_lines v n k js = any_anywhere (fails_reading v n k) (λ e. is_failed_read v n k e.what) (λ m e. refl) 0 js

pub cub_lines : (p : Params) (v n : ℕ) (js : List (List Entry))
    → list_any (fails_at_cub p v n) (journals_noted 0 js) ≡ read_failed v n 0 (journal_at js (cub_of p n))
cub_lines p v n js = any_at (cub_of p n) (fails_reading v n 0) (λ e. is_failed_read v n 0 e.what) js (λ e. refl)

pub stop_lines : (p : Params) (v time : ℕ) (js : List (List Entry))
    → list_any (stops_below p v time) (journals_noted 0 js) ≡ list_any (stopped_before p v time) js
stop_lines p v time js =
    any_anywhere (stops_below p v time) (λ e. is_gone_of v e.what && nat_lt (time_of p e.stamp.beat) time) (λ m e. refl) 0 js

one_death : (c : ℕ) (q : ℕ → Bool) (x : Noted)
    → list_any q (death_of_node c x) ≡ ((x.node == c) && (is_died x.entry.what && q (beat_of x)))
one_death c q x = go (x.node == c) (is_died x.entry.what) where
  go : (a d : Bool) → list_any q (cond (a && d) (beat_of x ∷ []) []) ≡ (a && (d && q (beat_of x)))
  go true true = or_false (q (beat_of x))
  go true false = refl
  go false d = refl

pub death_lines : (c : ℕ) (q : ℕ → Bool) (js : List (List Entry))
    → list_any q (flat_map (death_of_node c) (journals_noted 0 js))
    ≡ list_any (λ e. is_died e.what && q e.stamp.beat) (journal_at js c)
death_lines c q js =
    any_flat q (death_of_node c) (journals_noted 0 js)
    ∙ (any_alike (λ x. list_any q (death_of_node c x)) (λ x. (x.node == c) && (is_died x.entry.what && q (beat_of x))) (one_death c q)
    (journals_noted 0 js)
    ∙ any_at c (λ x. is_died x.entry.what && q (beat_of x)) (λ e. is_died e.what && q e.stamp.beat) js (λ e. refl))

one_return : (c : ℕ) (q : ℕ → Bool) (x : Noted)
    → list_any q (return_of_node c x) ≡ ((x.node == c) && (is_returned x.entry.what && q x.entry.stamp.reading))
one_return c q x = go (x.node == c) (is_returned x.entry.what) where
  go : (a d : Bool) → list_any q (cond (a && d) (x.entry.stamp.reading ∷ []) []) ≡ (a && (d && q x.entry.stamp.reading))
  go true true = or_false (q x.entry.stamp.reading)
  go true false = refl
  go false d = refl

pub return_lines : (c : ℕ) (q : ℕ → Bool) (js : List (List Entry))
    → list_any q (flat_map (return_of_node c) (journals_noted 0 js))
    ≡ list_any (λ e. is_returned e.what && q e.stamp.reading) (journal_at js c)
return_lines c q js =
    any_flat q (return_of_node c) (journals_noted 0 js)
    ∙ (any_alike (λ x. list_any q (return_of_node c x)) (λ x. (x.node == c) && (is_returned x.entry.what && q x.entry.stamp.reading))
    (one_return c q) (journals_noted 0 js)
    ∙ any_at c (λ x. is_returned x.entry.what && q x.entry.stamp.reading) (λ e. is_returned e.what && q e.stamp.reading) js (λ e. refl))

-- ---- Puts

one_put : (v n : ℕ) (test : Tenancy → Bool) (w : What)
    → list_any (λ t. nat_le t.first n && nat_le n t.last && test t) (put_for v w) ≡ visited v n test w
one_put v n test (what.Put t) = go (t.instance.0 == v) where
  go : (a : Bool)
      → list_any (λ s. nat_le s.first n && nat_le n s.last && test s) (cond a (t ∷ []) [])
      ≡ (((a && nat_le t.first n) && nat_le n t.last) && test t)
  go true = or_false (nat_le t.first n && nat_le n t.last && test t)
  go false = refl
one_put v n test other = refl

pub put_lines : (v n : ℕ) (test : Tenancy → Bool) (js : List (List Entry))
    → list_any (λ t. nat_le t.first n && nat_le n t.last && test t) (flat_map (puts_for v) (journals_noted 0 js))
    ≡ some_tenancy js v n test
put_lines v n test js =
    any_flat (λ t. nat_le t.first n && nat_le n t.last && test t) (puts_for v) (journals_noted 0 js)
    ∙ any_anywhere (λ x. list_any (λ t. nat_le t.first n && nat_le n t.last && test t) (puts_for v x)) (λ e. visited v n test e.what)
    (λ m e. one_put v n test e.what) 0 js

-- ---- what came

whole_cargo : (v n : ℕ) (w : What) → whole_for v n (cargo_taken w) ≡ whole_in v n w
whole_cargo v n (what.Got link (note.Whole want sent part)) = refl
whole_cargo v n (what.Got link (note.Piece want sent part)) = refl
whole_cargo v n (what.Got link other) = refl
whole_cargo v n other = refl

piece_cargo : (v n : ℕ) (w : What) → piece_for v n (cargo_taken w) ≡ piece_in v n w
piece_cargo v n (what.Got link (note.Whole want sent part)) = refl
piece_cargo v n (what.Got link (note.Piece want sent part)) = refl
piece_cargo v n (what.Got link other) = refl
piece_cargo v n other = refl

whole_of : (p : Params) (v n : ℕ) (x : Noted)
    → whole_for v n (cargo_got p x) ≡ cond (x.node == viewers_of (links_of p)) (whole_in v n x.entry.what) []
whole_of p v n x = go (x.node == viewers_of (links_of p)) where
  go : (b : Bool) → whole_for v n (cond b (cargo_taken x.entry.what) None) ≡ cond b (whole_in v n x.entry.what) []
  go true = whole_cargo v n x.entry.what
  go false = refl

piece_of_line : (p : Params) (v n : ℕ) (x : Noted)
    → piece_for v n (cargo_got p x) ≡ cond (x.node == viewers_of (links_of p)) (piece_in v n x.entry.what) []
piece_of_line p v n x = go (x.node == viewers_of (links_of p)) where
  go : (b : Bool) → piece_for v n (cond b (cargo_taken x.entry.what) None) ≡ cond b (piece_in v n x.entry.what) []
  go true = piece_cargo v n x.entry.what
  go false = refl

pub whole_lines : (p : Params) (v n : ℕ) (js : List (List Entry))
    → flat_map (λ x. whole_for v n (cargo_got p x)) (journals_noted 0 js) ≡ wholes_got p js v n
unfolding wholes_got
whole_lines p v n js =
    flat_alike (λ x. whole_for v n (cargo_got p x)) (λ x. cond (x.node == viewers_of (links_of p)) (whole_in v n x.entry.what) [])
    (whole_of p v n) (journals_noted 0 js)
    ∙ flat_at (viewers_of (links_of p)) (λ x. whole_in v n x.entry.what) (λ e. whole_in v n e.what) js (λ e. refl)

all_piece_lines : (p : Params) (v n : ℕ) (js : List (List Entry))
    → flat_map (λ x. piece_for v n (cargo_got p x)) (journals_noted 0 js) ≡ pieces_got p js v n
unfolding pieces_got
all_piece_lines p v n js =
    flat_alike (λ x. piece_for v n (cargo_got p x)) (λ x. cond (x.node == viewers_of (links_of p)) (piece_in v n x.entry.what) [])
    (piece_of_line p v n) (journals_noted 0 js)
    ∙ flat_at (viewers_of (links_of p)) (λ x. piece_in v n x.entry.what) (λ e. piece_in v n e.what) js (λ e. refl)

one_numbered : (v n k : ℕ) (o : Option Cargo) → numbered_for v n k o ≡ pieces_numbered k (piece_for v n o)
one_numbered v n k None = refl
one_numbered v n k (Some c) = go (not c.whole) (is_for v n c.receipt) (c.receipt.want.piece == k) refl where
  go : (a b d : Bool) → (c.receipt.want.piece == k) ≡ d
      → cond (a && (b && d)) (parcel_of c.receipt ∷ []) [] ≡ pieces_numbered k (cond (a && b) (parcel_of c.receipt ∷ []) [])
  go true true true e = sym (ap (λ (t : Bool). cond t (parcel_of c.receipt ∷ []) []) e)
  go true true false e = sym (ap (λ (t : Bool). cond t (parcel_of c.receipt ∷ []) []) e)
  go true false d e = refl
  go false b d e = refl

numbered_flat : {X : Type 0} (k : ℕ) (f : X → List Parcel) (xs : List X)
    → flat_map (λ x. pieces_numbered k (f x)) xs ≡ pieces_numbered k (flat_map f xs)
numbered_flat k f [] = refl
numbered_flat k f (x ∷ xs) =
    ap (λ (q : List Parcel). pieces_numbered k (f x) ++ q) (numbered_flat k f xs)
    ∙ sym (filter-append (λ (y : Parcel). y.want.piece == k) (f x) (flat_map f xs))

pub numbered_lines : (p : Params) (v n k : ℕ) (js : List (List Entry))
    → flat_map (λ x. numbered_for v n k (cargo_got p x)) (journals_noted 0 js) ≡ pieces_numbered k (pieces_got p js v n)
numbered_lines p v n k js =
    flat_alike (λ x. numbered_for v n k (cargo_got p x)) (λ x. pieces_numbered k (piece_for v n (cargo_got p x)))
    (λ x. one_numbered v n k (cargo_got p x)) (journals_noted 0 js)
    ∙ (numbered_flat k (λ x. piece_for v n (cargo_got p x)) (journals_noted 0 js)
    ∙ ap (λ (q : List Parcel). pieces_numbered k q) (all_piece_lines p v n js))

some_is_piece : (v n : ℕ) (o : Option Cargo) → is_some_piece v n o ≡ not (is_empty (piece_for v n o))
some_is_piece v n None = refl
some_is_piece v n (Some c) = go (not c.whole && is_for v n c.receipt) where
  go : (b : Bool) → b ≡ not (is_empty (cond b (parcel_of c.receipt ∷ []) []))
  go true = refl
  go false = refl

empty_flat : {X : Type 0} (f : X → List Parcel) (xs : List X) → list_any (λ x. not (is_empty (f x))) xs ≡ not (is_empty (flat_map f xs))
empty_flat f [] = refl
empty_flat f (x ∷ xs) = go (f x) (empty_flat f xs) where
  go : (ps : List Parcel) → list_any (λ y. not (is_empty (f y))) xs ≡ not (is_empty (flat_map f xs))
      → (not (is_empty ps) || list_any (λ y. not (is_empty (f y))) xs) ≡ not (is_empty (ps ++ flat_map f xs))
  go [] h = h
  go (q ∷ qs) h = refl

pub some_lines : (p : Params) (v n : ℕ) (js : List (List Entry))
    → list_any (λ x. is_some_piece v n (cargo_got p x)) (journals_noted 0 js) ≡ not (is_empty (pieces_got p js v n))
some_lines p v n js =
    any_alike (λ x. is_some_piece v n (cargo_got p x)) (λ x. not (is_empty (piece_for v n (cargo_got p x))))
    (λ x. some_is_piece v n (cargo_got p x)) (journals_noted 0 js)
    ∙ (empty_flat (λ x. piece_for v n (cargo_got p x)) (journals_noted 0 js)
    ∙ ap (λ (q : List Parcel). not (is_empty q)) (all_piece_lines p v n js))
