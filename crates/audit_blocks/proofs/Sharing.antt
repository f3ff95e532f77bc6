-- The settled visits of a tenancy by where they end, and where a stop comes among them.
use Rattle.std.proofs.Common.{◌≡◌, ℕ, zero, suc, ◌+◌, ◌-◌, ◌<◌, ◌≤◌, Bool, true, false, not, ◌&&◌, cond, IsTrue, List, [], ◌∷◌, ◌++◌, length, filter, refl, sym, ap, ◌∙◌, ⊎_elim, arith, append-nil, length-append}
use Rattle.std.specs.Prelude.{if◌then◌else◌}
use Rattle.std.specs.List.{range_with_len}
use Rattle.std.proofs.lemmas.Bool.{cases_Bool, false≢true}
use Rattle.std.proofs.lemmas.List.Elements.{filter-append}
use Rattle.std.proofs.lemmas.List.FromFn.{length-range_with_len}
use Rattle.tiger_base.specs.declared.tenancy.Tenancy.{Tenancy}
use Rattle.node_kit.specs.declared.course.Kept.{Kept}
use Rattle.node_kit.specs.declared.journal.What.{What}
use Rattle.node_kit.specs.declared.journal.What.TheVariants as what
use Rattle.run_facts.specs.Order.{Noted}
use Rattle.audit_frame.proofs.Deciding.{state_more}
use Rattle.audit_blocks.specs.Shares.{AreCountedBy, AreSharesOf, AreSharesOfPut, IsParted, is_excused_by, is_in_share, lies_past, is_stopped_at, settled_visits, share_of_entry, share_of_log, share_of_put}
use Rattle.audit_blocks.specs.Serving.{is_settled_at}
use Rattle.audit_blocks.specs.declared.shares.Share.{Share}
use Rattle.audit_blocks.specs.declared.shares.Share.TheVariants as share
use Rattle.audit_blocks.specs.declared.shares.Shares.{Shares}
use Rattle.audit_blocks.proofs.Visiting.{is_settled_by, settled_is, dues_rise, stopped_later}

-- ---- numbers in a row

none_of : (f : ℕ → Bool) (a n : ℕ) → ((i : ℕ) → a ≤ i → i < a + n → f i ≡ false) → filter f (range_with_len a n) ≡ []
none_of f a zero h = refl
none_of f a (suc n) h =
    rw (h a (omega arith) (omega arith)) (none_of f (a + 1) n (λ i low high. h i (omega (arith, low)) (omega (arith, high))))

all_of : (f : ℕ → Bool) (a n : ℕ) → ((i : ℕ) → a ≤ i → i < a + n → f i ≡ true) → filter f (range_with_len a n) ≡ range_with_len a n
all_of f a zero h = refl
all_of f a (suc n) h =
    rw (h a (omega arith) (omega arith))
    (ap (λ (l : List ℕ). a ∷ l) (all_of f (a + 1) n (λ i low high. h i (omega (arith, low)) (omega (arith, high)))))

same_of : (f g : ℕ → Bool) (a n : ℕ) → ((i : ℕ) → a ≤ i → i < a + n → f i ≡ g i)
    → filter f (range_with_len a n) ≡ filter g (range_with_len a n)
same_of f g a zero h = refl
same_of f g a (suc n) h =
    rw (h a (omega arith) (omega arith))
    (ap (λ (l : List ℕ). cond (g a) (a ∷ l) l) (same_of f g (a + 1) n (λ i low high. h i (omega (arith, low)) (omega (arith, high)))))

in_two : (a m n : ℕ) → range_with_len a (m + n) ≡ range_with_len a m ++ range_with_len (a + m) n
in_two a zero n = let at : a ≡ a + 0 = omega arith in let long : 0 + n ≡ n = omega arith in
    ap (range_with_len a) long ∙ ap (λ (b : ℕ). range_with_len b n) at
in_two a (suc m) n =
    let long : suc m + n ≡ suc (m + n) = omega arith in
    let at : a + 1 + m ≡ a + suc m = omega arith in
    ap (range_with_len a) long
    ∙ ap (λ (l : List ℕ). a ∷ l) (in_two (a + 1) m n ∙ ap (λ (b : ℕ). range_with_len (a + 1) m ++ range_with_len b n) at)

-- in two at a number between the ends
parted : (a b c : ℕ) → a ≤ b → b ≤ c → range_with_len a (c - a) ≡ range_with_len a (b - a) ++ range_with_len b (c - b)
parted a b c low high =
    let long : c - a ≡ b - a + (c - b) = omega (arith, low, high) in
    let at : a + (b - a) ≡ b = omega (arith, low) in
    ap (range_with_len a) long ∙ in_two a (b - a) (c - b) ∙ ap (λ (d : ℕ). range_with_len a (b - a) ++ range_with_len d (c - b)) at

-- one more at the end
pub one_number : (f : ℕ → Bool) (a n : ℕ) → a ≤ n
    → length (filter f (range_with_len a (n + 1 - a))) ≡ (if f n then length (filter f (range_with_len a (n - a))) + 1 else length (filter f (range_with_len a (n - a))))
one_number f a n low =
    let one : n + 1 - n ≡ 1 = omega arith in
    ap (λ (l : List ℕ). length (filter f l)) (parted a n (n + 1) low (omega arith) ∙ ap (λ (m : ℕ). range_with_len a (n - a) ++ range_with_len n m) one)
    ∙ ap length (filter-append f (range_with_len a (n - a)) (n ∷ []))
    ∙ length-append (filter f (range_with_len a (n - a))) (filter f (n ∷ []))
    ∙ last (f n) (length (filter f (range_with_len a (n - a))))
  where
    last : (b : Bool) (m : ℕ) → m + length (cond b (n ∷ []) []) ≡ (if b then m + 1 else m)
    last true m = refl
    last false m = omega arith

few_filtered : (f : ℕ → Bool) (xs : List ℕ) → length (filter f xs) ≤ length xs
few_filtered f [] = omega arith
few_filtered f (x ∷ xs) = ⊎_elim
    (λ (t : f x ≡ true). let rest = few_filtered f xs in rw t (omega (arith, rest)))
    (λ (n : f x ≡ false). let rest = few_filtered f xs in rw n (omega (arith, rest)))
    (cases_Bool (f x))

pub few_numbers : (f : ℕ → Bool) (a n : ℕ) → length (filter f (range_with_len a n)) ≤ n
few_numbers f a n =
    let few = few_filtered f (range_with_len a n) in
    let long = length-range_with_len a n in
    omega (arith, few, long)

pub none_yet : (f : ℕ → Bool) (a : ℕ) → 0 ≡ length (filter f (range_with_len a (a - a)))
none_yet f a = let none : 0 ≡ a - a = omega arith in ap (λ (n : ℕ). length (filter f (range_with_len a n))) none

-- ---- what is over stays so

on : (b : Bool) → not b ≡ false → b ≡ true
on true h = refl
on false h = absurd (false≢true (sym h))

off : (b : Bool) → not b ≡ true → b ≡ false
off false h = refl
off true h = absurd (false≢true h)

unsettled : (b : Bool) → (IsTrue b → ⊥) → not b ≡ true
unsettled true h = absurd (h refl)
unsettled false h = refl

pub still_over : (k : Kept) (stops : Bool) (t : Tenancy) (m n : ℕ) → m ≤ n → lies_past k stops t m ≡ true → lies_past k stops t n ≡ true
still_over k true t m n le h = stopped_later k.course.plan.params k.journals t m n le h
still_over k false t m n le h =
    let p = k.course.plan.params in
    let later = dues_rise p t.slot.0 m n le in
    unsettled (is_settled_at k t n) (λ s.
    let at = is_settled_by k t n s in
    false≢true (sym (off (is_settled_at k t m) h) ∙ settled_is k t m (omega (arith, later, at))))

not_true : (b : Bool) → b ≡ false → b ≡ true → ⊥
not_true b f t = false≢true (sym f ∙ t)

pub not_yet_over : (k : Kept) (stops : Bool) (t : Tenancy) (m n : ℕ) → m ≤ n → lies_past k stops t n ≡ false → lies_past k stops t m ≡ false
not_yet_over k stops t m n le h = ⊎_elim
    (λ (over : lies_past k stops t m ≡ true). absurd (not_true (lies_past k stops t n) h (still_over k stops t m n le over)))
    (λ (not_over : lies_past k stops t m ≡ false). not_over)
    (cases_Bool (lies_past k stops t m))

-- ---- the shares of a tenancy

settled_are : (k : Kept) (t : Tenancy) (asked settled : ℕ) → IsParted k t asked settled
    → settled_visits k t ≡ range_with_len t.first (settled - t.first)
settled_are k t asked settled h =
    let first = h.first in
    let order = h.order in
    let last = h.last in
    let test = is_settled_at k t in
    let front = range_with_len t.first (settled - t.first) in
    ap (filter test) (parted t.first settled (t.last + 1) (omega (arith, first, order)) last)
    ∙ filter-append test front (range_with_len settled (t.last + 1 - settled))
    ∙ ap (λ (l : List ℕ). filter test front ++ l)
    (none_of test settled (t.last + 1 - settled) (λ n low high. off (test n) (h.not_settled n low (omega (arith, high, last)))))
    ∙ append-nil (filter test front)
    ∙ all_of test t.first (settled - t.first) (λ n low high. on (test n) (h.is_settled n low (omega (arith, high, first, order))))

two_shares : (k : Kept) (s : Share) (t : Tenancy) (asked settled : ℕ) → IsParted k t asked settled
    → share_of_put k s t ≡ length (filter (is_in_share k s t) (range_with_len t.first (asked - t.first)))
    + length (filter (is_in_share k s t) (range_with_len asked (settled - asked)))
two_shares k s t asked settled h =
    let test = is_in_share k s t in
    ap (λ (l : List ℕ). length (filter test l)) (settled_are k t asked settled h ∙ parted t.first asked settled h.first h.order)
    ∙ ap length (filter-append test (range_with_len t.first (asked - t.first)) (range_with_len asked (settled - asked)))
    ∙ length-append (filter test (range_with_len t.first (asked - t.first))) (filter test (range_with_len asked (settled - asked)))

all_share : (k : Kept) (t : Tenancy) (asked settled : ℕ) → IsParted k t asked settled
    → settled - t.first ≡ share_of_put k share.All t
all_share k t asked settled h =
    sym (ap (λ (l : List ℕ). length (filter (λ (n : ℕ). true) l)) (settled_are k t asked settled h)
    ∙ ap length (all_of (λ (n : ℕ). true) t.first (settled - t.first) (λ n low high. refl))
    ∙ length-range_with_len t.first (settled - t.first))

stopped_share : (k : Kept) (t : Tenancy) (asked settled : ℕ) → IsParted k t asked settled
    → settled - asked ≡ share_of_put k share.Stopped t
stopped_share k t asked settled h =
    let first = h.first in
    let order = h.order in
    let none : length (filter (is_stopped_at k t) (range_with_len t.first (asked - t.first))) ≡ 0 =
    ap length (none_of (is_stopped_at k t) t.first (asked - t.first) (λ n low high. h.not_stopped n low (omega (arith, high, first)))) in
    let rest : length (filter (is_stopped_at k t) (range_with_len asked (settled - asked))) ≡ settled - asked =
    ap length (all_of (is_stopped_at k t) asked (settled - asked) (λ n low high. h.is_stopped n low (omega (arith, high, order))))
    ∙ length-range_with_len asked (settled - asked) in
    let two = two_shares k share.Stopped t asked settled h in
    omega (arith, none, rest, two)

going : (stopped meant : Bool) → stopped ≡ false → (not stopped && meant) ≡ meant
going false meant h = refl
going true meant h = absurd (false≢true (sym h))

gone : (stopped meant : Bool) → stopped ≡ true → (not stopped && meant) ≡ false
gone true meant h = refl
gone false meant h = absurd (false≢true h)

-- a share of visits that are not stopped
abbrev IsOfOthers : Kept → Tenancy → Share → Type 0
IsOfOthers k t s = (n : ℕ) → is_in_share k s t n ≡ (not (is_stopped_at k t n) && is_excused_by k s t n)

of_others : (k : Kept) (s : Share) (t : Tenancy) (asked settled count : ℕ) → IsOfOthers k t s → IsParted k t asked settled
    → count ≡ length (filter (is_excused_by k s t) (range_with_len t.first (asked - t.first))) → count ≡ share_of_put k s t
of_others k s t asked settled count is h counted =
    let first = h.first in
    let order = h.order in
    let front : length (filter (is_in_share k s t) (range_with_len t.first (asked - t.first)))
    ≡ length (filter (is_excused_by k s t) (range_with_len t.first (asked - t.first))) =
    ap length (same_of (is_in_share k s t) (is_excused_by k s t) t.first (asked - t.first)
    (λ n low high. is n ∙ going (is_stopped_at k t n) (is_excused_by k s t n) (h.not_stopped n low (omega (arith, high, first))))) in
    let none : length (filter (is_in_share k s t) (range_with_len asked (settled - asked))) ≡ 0 =
    ap length (none_of (is_in_share k s t) asked (settled - asked)
    (λ n low high. is n ∙ gone (is_stopped_at k t n) (is_excused_by k s t n) (h.is_stopped n low (omega (arith, high, order))))) in
    let two = two_shares k s t asked settled h in
    omega (arith, counted, front, none, two)

-- ---- the shares of a log

-- those of no entry
pub no_shares : (k : Kept) (c : Shares) → AreCountedBy (λ s. 0) c → AreSharesOf k [] c
no_shares k c h = record { settled = h.settled; read = h.read; piece = h.piece; dead = h.dead; stopped = h.stopped }

-- numbers that are counted by one function are counted by another one that says the same of each share
same_counts : (f g : Share → ℕ) (c : Shares) → ((s : Share) → f s ≡ g s) → AreCountedBy f c → AreCountedBy g c
same_counts f g c same h = record {
  settled = h.settled ∙ same share.All;
  read = h.read ∙ same share.Read;
  piece = h.piece ∙ same share.Piece;
  dead = h.dead ∙ same share.Dead;
  stopped = h.stopped ∙ same share.Stopped;
}

one_entry : (k : Kept) (s : Share) (log : List Noted) (x : Noted)
    → share_of_log k s log + share_of_entry k s x.entry.what ≡ share_of_log k s (log ++ x ∷ [])
one_entry k s log x = sym (state_more (λ (n : ℕ) (y : Noted). n + share_of_entry k s y.entry.what) 0 log x)

as_counts : (k : Kept) (log : List Noted) (c : Shares) → AreSharesOf k log c → AreCountedBy (λ s. share_of_log k s log) c
as_counts k log c h = record { settled = h.settled; read = h.read; piece = h.piece; dead = h.dead; stopped = h.stopped }

of_counts : (k : Kept) (log : List Noted) (c : Shares) → AreCountedBy (λ s. share_of_log k s log) c → AreSharesOf k log c
of_counts k log c h = record { settled = h.settled; read = h.read; piece = h.piece; dead = h.dead; stopped = h.stopped }

-- those of an entry that puts a tenancy, if the sum of any counts is what is counted by both
pub put_shared : (k : Kept) (log : List Noted) (x : Noted) (t : Tenancy) (old more new : Shares) → x.entry.what ≡ what.Put t
    → AreSharesOf k log old → AreSharesOfPut k t more
    → ((f g : Share → ℕ) → AreCountedBy f old → AreCountedBy g more → AreCountedBy (λ s. f s + g s) new)
    → AreSharesOf k (log ++ x ∷ []) new
put_shared k log x t old more new is before here summed =
    let f = λ (s : Share). share_of_log k s log in
    let g = λ (s : Share). share_of_put k s t in
    of_counts k (log ++ x ∷ []) new
    (same_counts (λ s. f s + g s) (λ s. share_of_log k s (log ++ x ∷ [])) new
    (λ s. sym (ap (λ (w : What). share_of_log k s log + share_of_entry k s w) is) ∙ one_entry k s log x)
    (summed f g (as_counts k log old before) here))

no_put_share : (k : Kept) (s : Share) (w : What) → ((t : Tenancy) → w ≡ what.Put t → ⊥) → 0 ≡ share_of_entry k s w
no_put_share k s (what.Put t) h = absurd (h t refl)
no_put_share k s other h = refl

-- and of one that puts none
pub none_shared : (k : Kept) (log : List Noted) (x : Noted) (c : Shares) → ((t : Tenancy) → x.entry.what ≡ what.Put t → ⊥)
    → AreSharesOf k log c → AreSharesOf k (log ++ x ∷ []) c
none_shared k log x c other before =
    of_counts k (log ++ x ∷ []) c
    (same_counts (λ s. share_of_log k s log) (λ s. share_of_log k s (log ++ x ∷ [])) c (λ s. more s ∙ one_entry k s log x)
    (as_counts k log c before))
  where
    more : (s : Share) → share_of_log k s log ≡ share_of_log k s log + share_of_entry k s x.entry.what
    more s = let none = no_put_share k s x.entry.what other in omega (arith, none)

-- ---- of a tenancy

-- one that has no visit
pub no_visits : (k : Kept) (t : Tenancy) (behind : ℕ) (c : Shares) → behind ≡ t.last + 1 → behind < t.first → AreCountedBy (λ s. 0) c
    → AreSharesOfPut k t c
no_visits k t behind c is low =
    same_counts (λ s. 0) (λ s. share_of_put k s t) c
    (λ s. ap (λ (n : ℕ). length (filter (is_in_share k s t) (filter (is_settled_at k t) (range_with_len t.first n)))) none)
  where
    none : 0 ≡ t.last + 1 - t.first
    none = omega (arith, is, low)

pub put_shares : (k : Kept) (t : Tenancy) (asked settled read piece dead : ℕ)
    → read ≡ length (filter (is_excused_by k share.Read t) (range_with_len t.first (asked - t.first)))
    → piece ≡ length (filter (is_excused_by k share.Piece t) (range_with_len t.first (asked - t.first)))
    → dead ≡ length (filter (is_excused_by k share.Dead t) (range_with_len t.first (asked - t.first)))
    → IsParted k t asked settled
    → AreSharesOfPut k t (record { settled = settled - t.first; read = read; piece = piece; dead = dead; stopped = settled - asked })
put_shares k t asked settled read piece dead read_is piece_is dead_is h = record {
  settled = all_share k t asked settled h;
  read = of_others k share.Read t asked settled read (λ n. refl) h read_is;
  piece = of_others k share.Piece t asked settled piece (λ n. refl) h piece_is;
  dead = of_others k share.Dead t asked settled dead (λ n. refl) h dead_is;
  stopped = stopped_share k t asked settled h;
}

-- what the two searches give
pub put_parted : (k : Kept) (t : Tenancy) (behind asked settled : ℕ) → behind ≡ t.last + 1 → t.first ≤ asked → asked ≤ settled → settled ≤ behind
    → ((n : ℕ) → t.first ≤ n → n < settled → lies_past k false t n ≡ false) → ((n : ℕ) → settled ≤ n → n < behind → lies_past k false t n ≡ true)
    → ((n : ℕ) → t.first ≤ n → n < asked → lies_past k true t n ≡ false) → ((n : ℕ) → asked ≤ n → n < settled → lies_past k true t n ≡ true)
    → IsParted k t asked settled
put_parted k t behind asked settled is first order last is_settled not_settled not_stopped is_stopped = record {
  first = first;
  order = order;
  last = omega (arith, last, is);
  is_settled = is_settled;
  not_settled = λ n low high. not_settled n low (omega (arith, high, is));
  not_stopped = not_stopped;
  is_stopped = is_stopped;
}
