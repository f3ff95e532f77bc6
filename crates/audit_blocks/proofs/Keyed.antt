-- What a table has under a key after one thing more.
use Rattle.std.proofs.Common.{◌≡◌, ℕ, Bool, true, ◌&&◌, ◌||◌, ◌==◌, cond, List, Option, Some, if◌then◌else◌, sym, ap, ◌∙◌}
use Rattle.std.specs.Cmp.{unsigned_tied, tied_then}
use Rattle.std.specs.Ordering.{is_eq, nat_cmp, ordering_then}
use Rattle.audit_frame.proofs.Keyed.{or_turned}
use Rattle.audit_blocks.specs.declared.receipts.Receipt.{Receipt}
use Rattle.audit_blocks.specs.declared.receipts.Came.{Came}
use Rattle.audit_blocks.specs.declared.dispatches.Dispatch.{Dispatch}
use Rattle.audit_blocks.specs.Dispatches.{has_dispatch, dispatch_of, dispatch_cmp, is_dispatch}
use Rattle.audit_blocks.specs.Parts.{PartNumbers, has_part}
use Rattle.audit_blocks.specs.Receipts.{KeptArrivals, came_under, again}

three_same : (v n k i m j : ℕ)
    → is_eq (ordering_then (ordering_then (nat_cmp v i) (nat_cmp n m)) (nat_cmp k j)) ≡ ((v == i) && (n == m) && (k == j))
three_same v n k i m j =
    sym (tied_then (ordering_then (nat_cmp v i) (nat_cmp n m)) (nat_cmp k j))
    ∙ (ap (λ (b : Bool). b && is_eq (nat_cmp k j)) (sym (tied_then (nat_cmp v i) (nat_cmp n m)))
    ∙ (ap (λ (b : Bool). (b && is_eq (nat_cmp n m)) && is_eq (nat_cmp k j)) (unsigned_tied v i)
    ∙ (ap (λ (b : Bool). ((v == i) && b) && is_eq (nat_cmp k j)) (unsigned_tied n m)
    ∙ ap (λ (b : Bool). ((v == i) && (n == m)) && b) (unsigned_tied k j))))

pub part_added : (v visit piece i n k : ℕ) (old mid new : PartNumbers) → mid ≡ old
    → has_part i n k new
    ≡ cond (is_eq (ordering_then (ordering_then (nat_cmp v i) (nat_cmp visit n)) (nat_cmp piece k))) true (has_part i n k mid)
    → has_part i n k new ≡ (has_part i n k old || ((v == i) && (visit == n) && (piece == k)))
part_added v visit piece i n k old mid new view e =
    e
    ∙ (ap (λ (b : Bool). cond b true (has_part i n k mid)) (three_same v visit piece i n k)
    ∙ (or_turned ((v == i) && (visit == n) && (piece == k)) (has_part i n k mid)
    ∙ ap (λ (rows : PartNumbers). has_part i n k rows || ((v == i) && (visit == n) && (piece == k))) view))

pub came_added : (v visit piece i n k : ℕ) (r : Receipt) (came : Came) (got : Option Came) (old mid new : KeptArrivals) → mid ≡ old
    → got ≡ came_under v visit piece old → came ≡ again got r
    → came_under i n k new
    ≡ cond (is_eq (ordering_then (ordering_then (nat_cmp v i) (nat_cmp visit n)) (nat_cmp piece k))) (Some came) (came_under i n k mid)
    → came_under i n k new
    ≡ (if (v == i) && (visit == n) && (piece == k) then Some (again (came_under v visit piece old) r) else came_under i n k old)
came_added v visit piece i n k r came got old mid new view is now e =
    e
    ∙ (ap (λ (b : Bool). cond b (Some came) (came_under i n k mid)) (three_same v visit piece i n k)
    ∙ (ap (λ (rows : KeptArrivals). cond ((v == i) && (visit == n) && (piece == k)) (Some came) (came_under i n k rows)) view
    ∙ ap (λ (c : Came). cond ((v == i) && (visit == n) && (piece == k)) (Some c) (came_under i n k old))
    (now ∙ ap (λ (o : Option Came). again o r) is)))

pub dispatch_added : (c d : ℕ) (w x : Bool) (r q : Receipt) (key : Dispatch) (old mid new : List Dispatch) → mid ≡ old
    → key ≡ dispatch_of c w r
    → has_dispatch d x q new ≡ cond (is_eq (dispatch_cmp key (dispatch_of d x q))) true (has_dispatch d x q mid)
    → has_dispatch d x q new ≡ (has_dispatch d x q old || is_dispatch c w r d x q)
dispatch_added c d w x r q key old mid new view is e =
    e
    ∙ (ap (λ (k : Dispatch). cond (is_eq (dispatch_cmp k (dispatch_of d x q))) true (has_dispatch d x q mid)) is
    ∙ (or_turned (is_dispatch c w r d x q) (has_dispatch d x q mid)
    ∙ ap (λ (rows : List Dispatch). has_dispatch d x q rows || is_dispatch c w r d x q) view))
