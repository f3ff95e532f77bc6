-- What an end keeps, through its calls.
use Rattle.std.proofs.Common.{◌≡◌, ℕ, ◌+◌, ◌*◌, ◌/◌, ◌%◌, ◌<◌, ◌≤◌, Bool, true, false, true≢false, ◌⊎◌, inl, inr, List, [], ◌∷◌, ◌++◌, length, take, drop, sym, refl, ap, ◌∙◌, subst, append_assoc, length-append, div-add-mod', mod-lt, arith}
use mathlib.Core.List.{IsPrefix}
use Rattle.std.specs.List.{AllByRecursion}
use Rattle.run_facts.specs.declared.mail.Flight.{Flight}
use Rattle.ring_links.specs.declared.line.Side.{Side}
use Rattle.ring_links.specs.declared.board.Knows.{Knows}
use Rattle.ring_links.specs.Flights.{IsOrdered, AllFrom, IsFront}
use Rattle.ring_links.specs.Linked.{side, most}
use Rattle.ring_links.specs.Marked.{knows, given_by, below_of, IsLast}
use Rattle.ring_links.specs.Ends.{IsTrueOf, IsSender, IsReceiver}
use Rattle.ring_links.proofs.Orders.{from_drop, from_next, from_lower, from_front, take_rest}

given_is : (k r n : ℕ) (x : ℕ) → x < 1048576 → k * 1048576 + r ≡ n * 1048576 + x → r < 1048576 → k ≡ n
given_is k r n x small e low = omega arith

pub word_given : (count below : ℕ) → below < 1048576 → given_by (count * 1048576 + below) ≡ count
word_given count below small =
    let w : ℕ = count * 1048576 + below in given_is (w / 1048576) (w % 1048576) count below small (div-add-mod' w 1048576) (mod-lt w (omega arith))

below_is : (k r n x : ℕ) → k * 1048576 + r ≡ n * 1048576 + x → k ≡ n → r ≡ x
below_is k r n x e same = omega arith

pub word_below : (count below : ℕ) → below < 1048576 → below_of (count * 1048576 + below) ≡ below
word_below count below small =
    let w : ℕ = count * 1048576 + below in below_is (w / 1048576) (w % 1048576) count below (div-add-mod' w 1048576) (word_given count below small)

all_weaker : (P Q : ℕ → Type 0) → ((n : ℕ) → P n → Q n) → (ns : List ℕ) → AllByRecursion P ns → AllByRecursion Q ns
all_weaker P Q f [] h = tt
all_weaker P Q f (n ∷ ns) h = (f n h.0, all_weaker P Q f ns h.1)

pub all_next : {A : Type 0} (P : A → Type 0) (ns : List A) (n : A) → AllByRecursion P ns → P n → AllByRecursion P (ns ++ n ∷ [])
all_next P [] n h p = (p, tt)
all_next P (m ∷ ns) n h p = (h.0, all_next P ns n h.1 p)

all_at : (P : ℕ → Type 0) (front : List ℕ) (n : ℕ) (back : List ℕ) → AllByRecursion P (front ++ n ∷ back) → P n
all_at P [] n back h = h.0
all_at P (m ∷ front) n back h = all_at P front n back h.1

module _ {M : Type 0} where
  pub sender-opens : (v : Side M) (k : Knows) → v ≡ side true false [] [] → k ≡ knows true (0 ∷ []) [] → IsSender v k 0 0
  sender-opens v k is known =
      subst (λ (x : Side M). IsSender {M = M} x k 0 0) (sym is)
      (subst (λ (y : Knows). IsSender {M = M} (side true false [] []) y 0 0) (sym known) record {
        sends = refl;
        takes = refl;
        got = refl;
        count_is = refl;
        within = omega arith;
        ordered = tt;
        writes = refl;
        honest = ((omega arith, omega arith, tt), tt);
      })

  pub receiver-opens : (v : Side M) (k : Knows) → v ≡ side false true [] [] → k ≡ knows false (0 ∷ []) [] → IsReceiver v k 0 0 false
  receiver-opens v k is known =
      subst (λ (x : Side M). IsReceiver {M = M} x k 0 0 false) (sym is)
      (subst (λ (y : Knows). IsReceiver {M = M} (side false true [] []) y 0 0 false) (sym known) record {
        sends = refl;
        takes = refl;
        sent = refl;
        all = λ _. refl;
        within = omega arith;
        short = omega arith;
        ordered = tt;
        writes = refl;
        word = 0;
        front = [];
        back = [];
        known = refl;
        reached = omega arith;
        closed_is = refl;
        lost = λ e _. true≢false (sym e);
      })

  pub sender-sends : (v w : Side M) (k : Knows) (count closed : ℕ) (p : Flight M) → IsSender v k count closed → w ≡ side v.sends v.takes (v.sent ++ p ∷ []) v.got
      → count < most → closed ≤ p.sent → IsOrdered (v.sent ++ p ∷ []) → IsSender w k (count + 1) closed
  sender-sends v w k count closed p h is room from ordered =
      subst (λ (x : Side M). IsSender x k (count + 1) closed) (sym is) record {
        sends = h.sends;
        takes = h.takes;
        got = h.got;
        count_is = omega (arith, h.count_is, length-append v.sent (p ∷ []));
        within = omega (arith, room);
        ordered = ordered;
        writes = h.writes;
        honest = all_weaker (IsTrueOf v.sent closed) (IsTrueOf (v.sent ++ p ∷ []) closed)
            (λ (w : ℕ) (t : IsTrueOf v.sent closed w).
            (omega (arith, t.0, length-append v.sent (p ∷ [])), t.1, from_next (below_of w) (given_by w) v.sent p (omega (arith, t.1, from)) t.2 t.0))
            k.marks h.honest;
      }

  nothing_behind : (beat : ℕ) (xs : List (Flight M)) → AllFrom beat (drop (length xs) xs)
  nothing_behind beat [] = tt
  nothing_behind beat (x ∷ xs) = nothing_behind beat xs

  pub sender-marks : (v : Side M) (k l : Knows) (count closed below : ℕ) → IsSender v k count closed
      → l ≡ knows k.writes (k.marks ++ (count * 1048576 + below) ∷ []) k.told → closed ≤ below → below < 1048576 → IsSender v l count below
  sender-marks v k l count closed below h is rises small =
      let word : ℕ = count * 1048576 + below in
      let given : given_by word ≡ length v.sent = word_given count below small ∙ h.count_is in
      let under : below_of word ≡ below = word_below count below small in
      let mine : IsTrueOf v.sent below word =
      (omega (arith, given), omega (arith, under), subst (λ n. AllFrom (below_of word) (drop n v.sent)) (sym given) (nothing_behind (below_of word) v.sent)) in
      subst (λ (x : Knows). IsSender v x count below) (sym is) record {
        sends = h.sends;
        takes = h.takes;
        got = h.got;
        count_is = h.count_is;
        within = h.within;
        ordered = h.ordered;
        writes = h.writes;
        honest = all_next (IsTrueOf v.sent below) k.marks word
            (all_weaker (IsTrueOf v.sent closed) (IsTrueOf v.sent below) (λ (w : ℕ) (t : IsTrueOf v.sent closed w). (t.0, omega (arith, t.1, rises), t.2)) k.marks h.honest) mine;
      }

  pub receiver-looks : (v : Side M) (k l : Knows) (count closed after word : ℕ) (spoilt : Bool) → IsReceiver v k count closed spoilt
      → l.writes ≡ k.writes → IsPrefix k.marks l.marks → IsLast l.marks word
      → closed ≤ after → (after ≡ closed) ⊎ ((given_by word ≤ count) × (after ≡ below_of word)) → IsReceiver v l count after spoilt
  receiver-looks v k l count closed after word spoilt h same longer last rises (inl stays) =
      record {
        sends = h.sends;
        takes = h.takes;
        sent = h.sent;
        all = h.all;
        within = h.within;
        short = h.short;
        ordered = h.ordered;
        writes = same ∙ h.writes;
        word = h.word;
        front = h.front;
        back = h.back ++ longer.0;
        known = sym longer.1 ∙ ap (λ xs. xs ++ longer.0) h.known ∙ append_assoc h.front (h.word ∷ h.back) longer.0;
        reached = h.reached;
        closed_is = stays ∙ h.closed_is;
        lost = λ e all. h.lost e (from_lower closed after (drop count v.got) rises all);
      }
  receiver-looks v k l count closed after word spoilt h same longer last rises (inr moves) =
      record {
        sends = h.sends;
        takes = h.takes;
        sent = h.sent;
        all = h.all;
        within = h.within;
        short = h.short;
        ordered = h.ordered;
        writes = same ∙ h.writes;
        word = word;
        front = last.0;
        back = [];
        known = last.1;
        reached = moves.0;
        closed_is = moves.1;
        lost = λ e all. h.lost e (from_lower closed after (drop count v.got) rises all);
      }

  not_spoilt : (spoilt : Bool) (count : ℕ) (got : List (Flight M)) → (spoilt ≡ false → count ≡ length got) → (spoilt ≡ true → ⊥) → count ≡ length got
  not_spoilt false count got all never = all refl
  not_spoilt true count got all never = absurd (never refl)

  -- at the end: the queue holds what was not received, and no message of a beat that is known to be closed is in it
  pub ends-meet : (v w both : Side M) (k l told : Knows) (sent received closed known : ℕ) (spoilt : Bool) (items : List (Flight M))
      → IsSender v k sent closed → IsReceiver w l received known spoilt → both ≡ side true true v.sent w.got → both.sent ≡ both.got ++ items
      → told ≡ knows k.writes k.marks l.marks → IsPrefix told.told told.marks
      → IsFront known (take received w.got) v.sent × (known ≤ closed) × (sent ≡ received + length items)
  ends-meet v w both k l told sent received closed known spoilt items s r joined total learned agrees =
      let is : v.sent ≡ w.got ++ items = ap (λ (x : Side M). x.sent) (sym joined) ∙ total ∙ ap (λ (x : Side M). x.got ++ items) joined in
      let front : IsPrefix l.marks k.marks = subst (λ (x : Knows). IsPrefix x.told x.marks) learned agrees in
      let marks : k.marks ≡ r.front ++ r.word ∷ (r.back ++ front.0) = sym front.1 ∙ ap (λ xs. xs ++ front.0) r.known ∙ append_assoc r.front (r.word ∷ r.back) front.0 in
      let true_of : IsTrueOf v.sent closed r.word = all_at (IsTrueOf v.sent closed) r.front r.word (r.back ++ front.0) (subst (λ xs. AllByRecursion (IsTrueOf v.sent closed) xs) marks s.honest) in
      let later : AllFrom (below_of r.word) (drop received v.sent) = from_drop (below_of r.word) (given_by r.word) received v.sent r.reached true_of.2 in
      let whole : v.sent ≡ take received w.got ++ drop received v.sent = is ∙ take_rest received w.got items r.within ∙ ap (λ xs. take received w.got ++ drop received xs) (sym is) in
      let all : AllFrom known (drop received v.sent) = subst (λ b. AllFrom b (drop received v.sent)) (sym r.closed_is) later in
      let none_lost : received ≡ length w.got = not_spoilt spoilt received w.got r.all (λ e. r.lost e (from_front known received w.got items (subst (λ xs. AllFrom known (drop received xs)) is all))) in
      ((drop received v.sent, whole, all), omega (arith, r.closed_is, true_of.1), omega (arith, s.count_is, ap length is, length-append w.got items, none_lost))
