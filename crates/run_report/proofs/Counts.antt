-- How far the counts of a report go.
use Rattle.std.proofs.Common.{ℕ, ◌+◌, ◌-◌, ◌*◌, ◌≤◌, ◌<◌, ◌^◌, zero, suc, Bool, true, false, ◌&&◌, nat_lt, nat_le, if◌then◌else◌, List, [], ◌∷◌, ◌++◌, length, Option, Some, None, IfSome, IsTrue, option_map, option_to_list, option_and_then, slice_get, min, arith}
use Rattle.std.specs.Option.{option_or}
use Rattle.std.specs.List.{flat_map}
use Rattle.std.specs.Int.{div_ceil}
use Rattle.std.proofs.lemmas.Bool.{leb-true}
use Rattle.std.proofs.lemmas.List.FromFn.{length-range_with_len}
use Rattle.tiger_base.specs.declared.number.FileNo.{FileNo}
use Rattle.tiger_base.specs.declared.tenancy.Tenancy.{Tenancy}
use Rattle.tiger_base.specs.Limits.{most_visit}
use Rattle.slot_plan.specs.declared.params.Params.{Params}
use Rattle.stripe_layout.specs.Layout.{block_span}
use Rattle.stripe_layout.specs.Places.{place_of, place_in}
use Rattle.stripe_layout.specs.declared.catalogue.Catalogue.{Catalogue}
use Rattle.stripe_layout.specs.declared.catalogue.FileInfo.{FileInfo}
use Rattle.node_kit.specs.Form.{is_tenancy}
use Rattle.node_kit.specs.declared.course.Course.{Course}
use Rattle.node_kit.specs.declared.course.Kept.{Kept}
use Rattle.node_kit.specs.declared.course.Order.{Order}
use Rattle.node_kit.specs.declared.course.OrderKind.{OrderKind}
use Rattle.node_kit.specs.declared.course.OrderKind.TheVariants as order
use Rattle.node_kit.specs.declared.journal.Entry.{Entry}
use Rattle.run_report.specs.declared.outcome.BlockKind.{BlockKind}
use Rattle.run_report.specs.declared.outcome.BlockKind.TheVariants as kind
use Rattle.run_report.specs.declared.outcome.Outcome.{Outcome}
use Rattle.run_report.specs.declared.outcome.Reason.{Reason}
use Rattle.run_report.specs.declared.tally.Tally.{Tally}
use Rattle.run_report.specs.Outcomes.{placed_of, whole_sent, pieces_sent, span_in, span_at, reason_of, missing_of, kind_of, block_at, is_settled, settled_block, visits_of, blocks_of, outcome_of, order_outcomes, outcomes_of}
use Rattle.run_report.specs.Text.{plus, kind_tally, tally_of, kind_bytes, bytes_of, total_tally, kept_outcomes, Fits, BytesFit}
use Rattle.run_report.proofs.Forms.{placed_form, and_right}

-- what so many blocks can come to
record IsSmall (n : ℕ) (t : Tally) : Type 0 where
  whole : t.whole ≤ n
  pieces : t.pieces ≤ n
  missing : t.missing ≤ n

abbrev IsShort : BlockKind → Type 0
IsShort (kind.Whole len sent) = len ≤ 1048576
IsShort (kind.Pieces len sent) = len ≤ 1048576
IsShort (kind.Missing reason) = Unit {0}

abbrev ShortIfAny : Option BlockKind → Type 0
ShortIfAny None = Unit {0}
ShortIfAny (Some k) = IsShort k

-- no block has more bytes than a full one
block_span-short : (file : FileNo) (len size block : ℕ) → (block_span file len size block).len ≤ size
unfolding block_span
block_span-short file len size block = short (block * size) ((block + 1) * size) len size (more block size)
  where
    more : (n k : ℕ) → (n + 1) * k ≤ n * k + k
    more n k = grind arith

    short : (m n len size : ℕ) → n ≤ m + size → min n len - m ≤ size
    short m n len size le = omega arith

place-short : (l : Catalogue) (file : FileNo) (info : FileInfo) (block : ℕ) (b : Bool)
    → (span_in file (if b then Some (place_in l file info block) else None)).len ≤ 1048576
place-short l file info block true =
    let short = block_span-short file info.len l.block block in
    let high = l.sound.block_high in
    omega arith
place-short l file info block false = omega arith

span_at-short : (l : Catalogue) (t : Tenancy) (visit : ℕ) → (span_at l t visit).len ≤ 1048576
unfolding span_at place_of
span_at-short l t visit = by_file (slice_get l.files t.file.0)
  where
    by_file : (o : Option FileInfo) → (span_in t.file (option_and_then (λ info. if nat_lt (visit - t.first) (div_ceil info.len l.block) then Some (place_in l t.file info (visit - t.first)) else None) o)).len ≤ 1048576
    by_file None = omega arith
    by_file (Some info) = place-short l t.file info (visit - t.first) (nat_lt (visit - t.first) (div_ceil info.len l.block))

short_or : (a b : Option BlockKind) → ShortIfAny a → ShortIfAny b → ShortIfAny (option_or a b)
short_or None b ha hb = hb
short_or (Some k) b ha hb = ha

whole_short : (len : ℕ) (o : Option ℕ) → len ≤ 1048576 → ShortIfAny (option_map (λ sent. kind.Whole len sent) o)
whole_short len None h = tt
whole_short len (Some sent) h = h

pieces_short : (len : ℕ) (o : Option (List ℕ)) → len ≤ 1048576 → ShortIfAny (option_map (λ sent. kind.Pieces len sent) o)
pieces_short len None h = tt
pieces_short len (Some sent) h = h

missing_short : (b : Bool) (r : Reason) → ShortIfAny (if b then None else Some (kind.Missing r))
missing_short true r = tt
missing_short false r = tt

missing_of-short : (p : Params) (js : List (List Entry)) (t : Tenancy) (visit : ℕ) → ShortIfAny (missing_of p js t visit)
unfolding missing_of
missing_of-short p js t visit = missing_short _ (reason_of p js t visit)

kind_of-short : (p : Params) (l : Catalogue) (js : List (List Entry)) (t : Tenancy) (visit : ℕ) → ShortIfAny (kind_of p l js t visit)
unfolding kind_of
kind_of-short p l js t visit =
    let short = span_at-short l t visit in
    short_or _ _ (whole_short (span_at l t visit).len (whole_sent p js t.instance.0 visit) short)
    (short_or _ _ (pieces_short (span_at l t visit).len (pieces_sent p js t.instance.0 visit) short) (missing_of-short p js t visit))

kind_tally-small : (k : BlockKind) → IsSmall 1 (kind_tally k)
kind_tally-small (kind.Whole len sent) = record { whole = omega arith; pieces = omega arith; missing = omega arith }
kind_tally-small (kind.Pieces len sent) = record { whole = omega arith; pieces = omega arith; missing = omega arith }
kind_tally-small (kind.Missing reason) = record { whole = omega arith; pieces = omega arith; missing = omega arith }

plus-small : (m n k : ℕ) (a b : Tally) → m + n ≤ k → IsSmall m a → IsSmall n b → IsSmall k (plus a b)
plus-small m n k a b le ha hb = record { whole = omega arith; pieces = omega arith; missing = omega arith }

small_within : (m n : ℕ) (t : Tally) → m ≤ n → IsSmall m t → IsSmall n t
small_within m n t le h = record { whole = omega arith; pieces = omega arith; missing = omega arith }

one_more : (test : Bool) (p : Params) (l : Catalogue) (t : Tenancy) (visit : ℕ) (k : Option BlockKind) (rest : List _) (n : ℕ)
    → IsSmall n (tally_of rest)
    → IsSmall (suc n) (tally_of ((if test then option_to_list (option_map (block_at p l t visit) k) else []) ++ rest))
one_more true p l t visit (Some k) rest n small =
    plus-small 1 n (suc n) (kind_tally k) (tally_of rest) (omega arith) (kind_tally-small k) small
one_more true p l t visit None rest n small = small_within n (suc n) (tally_of rest) (omega arith) small
one_more false p l t visit k rest n small = small_within n (suc n) (tally_of rest) (omega arith) small

settled-small : (c : Course) (l : Catalogue) (js : List (List Entry)) (t : Tenancy) (visits : List ℕ)
    → IsSmall (length visits) (tally_of (flat_map (settled_block c l js t) visits))
unfolding settled_block
settled-small c l js t [] = record { whole = omega arith; pieces = omega arith; missing = omega arith }
settled-small c l js t (visit ∷ visits) =
    one_more (is_settled c t.slot.0 visit) c.plan.params l t visit (kind_of c.plan.params l js t visit)
    (flat_map (settled_block c l js t) visits) (length visits) (settled-small c l js t visits)

blocks_of-small : (c : Course) (l : Catalogue) (js : List (List Entry)) (placed : Option Tenancy)
    → IfSome placed (λ t. IsTrue (is_tenancy c.plan.params t)) → IsSmall 2147483649 (tally_of (blocks_of c l js placed))
unfolding blocks_of
blocks_of-small c l js None h = record { whole = omega arith; pieces = omega arith; missing = omega arith }
blocks_of-small c l js (Some t) h =
    let n = length-range_with_len t.first (t.last + 1 - t.first) in
    let last = leb-true t.last most_visit (and_right (nat_lt t.slot.0 c.plan.params.slots && nat_le t.first t.last) (nat_le t.last most_visit) h) in
    small_within (length (visits_of t)) 2147483649 (tally_of (flat_map (settled_block c l js t) (visits_of t))) (omega arith)
    (settled-small c l js t (visits_of t))

-- and their bytes
kind_bytes-short : (k : BlockKind) → IsShort k → kind_bytes k ≤ 1048576
kind_bytes-short (kind.Whole len sent) h = h
kind_bytes-short (kind.Pieces len sent) h = h
kind_bytes-short (kind.Missing reason) h = omega arith

more_bytes : (test : Bool) (p : Params) (l : Catalogue) (t : Tenancy) (visit : ℕ) (k : Option BlockKind) (rest : List _) (n : ℕ)
    → ShortIfAny k → bytes_of rest ≤ n * 1048576
    → bytes_of ((if test then option_to_list (option_map (block_at p l t visit) k) else []) ++ rest) ≤ suc n * 1048576
more_bytes true p l t visit (Some k) rest n short low = let one = kind_bytes-short k short in omega arith
more_bytes true p l t visit None rest n short low = omega arith
more_bytes false p l t visit k rest n short low = omega arith

settled-bytes : (c : Course) (l : Catalogue) (js : List (List Entry)) (t : Tenancy) (visits : List ℕ)
    → bytes_of (flat_map (settled_block c l js t) visits) ≤ length visits * 1048576
unfolding settled_block
settled-bytes c l js t [] = omega arith
settled-bytes c l js t (visit ∷ visits) =
    more_bytes (is_settled c t.slot.0 visit) c.plan.params l t visit (kind_of c.plan.params l js t visit)
    (flat_map (settled_block c l js t) visits) (length visits) (kind_of-short c.plan.params l js t visit) (settled-bytes c l js t visits)

blocks_of-bytes : (c : Course) (l : Catalogue) (js : List (List Entry)) (placed : Option Tenancy)
    → IfSome placed (λ t. IsTrue (is_tenancy c.plan.params t)) → bytes_of (blocks_of c l js placed) < 2 ^ 64
unfolding blocks_of
blocks_of-bytes c l js None h = omega arith
blocks_of-bytes c l js (Some t) h =
    let n = length-range_with_len t.first (t.last + 1 - t.first) in
    let last = leb-true t.last most_visit (and_right (nat_lt t.slot.0 c.plan.params.slots && nat_le t.first t.last) (nat_le t.last most_visit) h) in
    let low = settled-bytes c l js t (visits_of t) in
    omega arith

order-small : (c : Course) (l : Catalogue) (js : List (List Entry)) (k : OrderKind) (rest : List Outcome) (n : ℕ)
    → IsSmall (n * 2147483649) (total_tally rest) → IsSmall (suc n * 2147483649) (total_tally (order_outcomes c l js k ++ rest))
unfolding outcome_of
order-small c l js (order.Begin ask) rest n small =
    plus-small 2147483649 (n * 2147483649) (suc n * 2147483649) (tally_of (blocks_of c l js (placed_of c.plan.params js ask.instance.0)))
    (total_tally rest) (omega arith)
    (blocks_of-small c l js (placed_of c.plan.params js ask.instance.0) (placed_form c.plan.params js ask.instance.0)) small
order-small c l js (order.Finish instance) rest n small =
    small_within (n * 2147483649) (suc n * 2147483649) (total_tally rest) (omega arith) small

outcomes-small : (c : Course) (l : Catalogue) (js : List (List Entry)) (orders : List Order)
    → IsSmall (length orders * 2147483649) (total_tally (flat_map (λ o. order_outcomes c l js o.what) orders))
outcomes-small c l js [] = record { whole = omega arith; pieces = omega arith; missing = omega arith }
outcomes-small c l js (o ∷ orders) =
    order-small c l js o.what (flat_map (λ o. order_outcomes c l js o.what) orders) (length orders) (outcomes-small c l js orders)

-- the counts of a run fit, and the bytes of each start
pub Fits-total_tally : (k : Kept) → length k.orders < 2 ^ 32 → Fits (total_tally (kept_outcomes k))
unfolding outcomes_of
Fits-total_tally k few =
    let small = outcomes-small k.course k.catalogue k.journals k.orders in
    record { whole = omega arith; pieces = omega arith; missing = omega arith }

BytesFit-cons : (o : Outcome) (os : List Outcome) → bytes_of o.blocks < 2 ^ 64 → BytesFit os → BytesFit (o ∷ os)
BytesFit-cons o os low rest zero d lt = low
BytesFit-cons o os low rest (suc i) d lt = rest i d (omega arith)

order-bytes : (c : Course) (l : Catalogue) (js : List (List Entry)) (k : OrderKind) (rest : List Outcome)
    → BytesFit rest → BytesFit (order_outcomes c l js k ++ rest)
unfolding outcome_of
order-bytes c l js (order.Begin ask) rest fit =
    BytesFit-cons (outcome_of c l js ask) rest
    (blocks_of-bytes c l js (placed_of c.plan.params js ask.instance.0) (placed_form c.plan.params js ask.instance.0)) fit
order-bytes c l js (order.Finish instance) rest fit = fit

outcomes-bytes : (c : Course) (l : Catalogue) (js : List (List Entry)) (orders : List Order)
    → BytesFit (flat_map (λ o. order_outcomes c l js o.what) orders)
outcomes-bytes c l js [] = λ i d lt. absurd (omega arith)
outcomes-bytes c l js (o ∷ orders) =
    order-bytes c l js o.what (flat_map (λ o. order_outcomes c l js o.what) orders) (outcomes-bytes c l js orders)

pub BytesFit-kept : (k : Kept) → BytesFit (kept_outcomes k)
unfolding outcomes_of
BytesFit-kept k = outcomes-bytes k.course k.catalogue k.journals k.orders
