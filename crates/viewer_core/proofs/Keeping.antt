-- The first part under each key is kept.
use Rattle.std.proofs.Common.{◌≡◌, ℕ, List, [], ◌∷◌, Bool, true, false, cond, ◌==◌, ◌&&◌, Option, Some, None, refl, sym, ap, ◌∙◌}
use Rattle.std.specs.Cmp.{both_tied, unsigned_ties}
use Rattle.std.specs.Ordering.{is_eq, nat_cmp}
use Rattle.std.specs.Option.{option_or}
use Rattle.std.specs.List.{fold}
use Rattle.std.proofs.lemmas.Bool.{and_parts, eqb-true}
use Rattle.tiger_base.specs.Span.{LibraryPart}
use Rattle.tiger_base.specs.declared.message.Msg.{Msg}
use Rattle.tiger_base.specs.declared.message.Msg.TheVariants as msg
use Rattle.visit_rows.proofs.Under.{or_none, under-inserted, under-there}
use Rattle.viewer_core.specs.declared.viewers.Key.{Key}
use Rattle.viewer_core.specs.Parts.{KeptParts, key_order, key_of, part_under, unless_kept, with_part}
use Rattle.viewer_core.specs.Came.{CameParts, kept_of, first_came}
use Rattle.viewer_core.specs.Rules.{keeping}
use Rattle.viewer_core.specs.Taken.{is_same, part_in, first_part, FirstPartsAreKept}

and_assoc : (a b c : Bool) → (a && (b && c)) ≡ (a && b && c)
and_assoc true b c = refl
and_assoc false b c = refl

-- keys that compare equal are the same
order_eq : (a b : Key) → is_eq (key_order a b) ≡ is_same a b
order_eq a b =
    sym (both_tied (a.instance.0 == b.instance.0) (a.visit == b.visit && a.piece == b.piece) (nat_cmp a.instance.0 b.instance.0) _
    (unsigned_ties a.instance.0 b.instance.0)
    (both_tied (a.visit == b.visit) (a.piece == b.piece) (nat_cmp a.visit b.visit) (nat_cmp a.piece b.piece)
    (unsigned_ties a.visit b.visit) (unsigned_ties a.piece b.piece)))
    ∙ and_assoc (a.instance.0 == b.instance.0) (a.visit == b.visit) (a.piece == b.piece)

same_key : (a b : Key) → is_same a b ≡ true → a ≡ b
same_key a b e =
    let h = and_parts (a.instance.0 == b.instance.0 && a.visit == b.visit) (a.piece == b.piece) e in
    let f = and_parts (a.instance.0 == b.instance.0) (a.visit == b.visit) h.0 in
    let i : a.instance.0 ≡ b.instance.0 = eqb-true _ _ f.0 in
    let v : a.visit ≡ b.visit = eqb-true _ _ f.1 in
    let k : a.piece ≡ b.piece = eqb-true _ _ h.1 in
    ap (λ (x : ℕ). record { instance = record { 0 = x }; visit = a.visit; piece = a.piece }) i
    ∙ (ap (λ (x : ℕ). record { instance = b.instance; visit = x; piece = a.piece }) v
    ∙ ap (λ (x : ℕ). record { instance = b.instance; visit = b.visit; piece = x }) k)

or_assoc : (a b c : Option LibraryPart) → option_or (option_or a b) c ≡ option_or a (option_or b c)
or_assoc None b c = refl
or_assoc (Some x) b c = refl

-- what a part under one key brings for another key
abbrev brought : Key → Key → LibraryPart → Option LibraryPart
brought q k part = cond (is_same q k) (Some part) None

exact : (a b : Key) → is_eq (key_order a b) ≡ true → a ≡ b
exact a b e = same_key a b (sym (order_eq a b) ∙ e)

unless_kept_gives : (q k : Key) (part : LibraryPart) (kept : KeptParts) (o : Option LibraryPart) → part_under k kept ≡ o
    → part_under q (unless_kept k part kept o) ≡ option_or (part_under q kept) (brought q k part)
unless_kept_gives q k part kept None e = under-inserted key_order exact q k part (is_same q k) (order_eq q k) kept e
unless_kept_gives q k part kept (Some other) e = under-there key_order exact q k part (is_same q k) (order_eq q k) kept other e

with_part_gives : (q k : Key) (part : LibraryPart) (kept : KeptParts)
    → part_under q (with_part k part kept) ≡ option_or (part_under q kept) (brought q k part)
unfolding with_part
with_part_gives q k part kept = unless_kept_gives q k part kept (part_under k kept) refl

came_from : (q : Key) (es : CameParts) (kept : KeptParts)
    → part_under q (fold (λ kept e. with_part e.0 e.1 kept) kept es) ≡ option_or (part_under q kept) (first_came q es)
came_from q [] kept = sym (or_none (part_under q kept))
came_from q (e ∷ es) kept =
    came_from q es (with_part e.0 e.1 kept)
    ∙ (ap (λ o. option_or o (first_came q es)) (with_part_gives q e.0 e.1 kept)
    ∙ or_assoc (part_under q kept) (brought q e.0 e.1) (first_came q es))

-- what is kept under a key is the first part that came under it
pub kept_first : (q : Key) (came : CameParts) → part_under q (kept_of came) ≡ first_came q came
kept_first q came = came_from q came []

keeping_gives : (q : Key) (m : Msg) (kept : KeptParts) → part_under q (keeping m kept) ≡ option_or (part_under q kept) (part_in q m)
unfolding keeping
keeping_gives q (msg.Whole want sent part) kept = with_part_gives q (key_of want) part kept
keeping_gives q (msg.Piece want sent part) kept = with_part_gives q (key_of want) part kept
keeping_gives q other kept = sym (or_none (part_under q kept))

kept_from : (q : Key) (ms : List Msg) (kept : KeptParts)
    → part_under q (fold (λ kept m. keeping m kept) kept ms) ≡ option_or (part_under q kept) (first_part q ms)
kept_from q [] kept = sym (or_none (part_under q kept))
kept_from q (m ∷ ms) kept =
    kept_from q ms (keeping m kept)
    ∙ (ap (λ o. option_or o (first_part q ms)) (keeping_gives q m kept) ∙ or_assoc (part_under q kept) (part_in q m) (first_part q ms))

pub first_parts : FirstPartsAreKept
first_parts k ms = kept_from k ms []
