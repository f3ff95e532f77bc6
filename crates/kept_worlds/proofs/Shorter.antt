-- A history in which a death comes in a tick of which nothing goes out, and the same one in which it comes in the take before.
use Rattle.std.proofs.Common.{◌≡◌, ℕ, zero, suc, ◌<◌, ◌≤◌, [], Bool, true, false, refl, ap, sym, ◌∙◌, subst, arith, ⊎_elim, inl, inr, cond}
use Rattle.std.specs.Prelude.{◌⊎◌, nat_le, if◌then◌else◌}
use Rattle.std.proofs.lemmas.Bool.{cases_eq, cases_lt}
use Rattle.std.proofs.lemmas.Bool.Decides.{nat_tests}
use Rattle.tiger_base.specs.declared.number.LinkNo.{LinkNo}
use Rattle.tiger_base.specs.declared.number.Stamp.{Stamp}
use Rattle.tiger_base.specs.declared.message.Note.{Note}
use Rattle.node_kit.specs.Outputs.{send_count}
use Rattle.node_kit.specs.Steps.{Input, Deed}
use Rattle.node_kit.specs.Steps.Input.{Take, Tick}
use Rattle.run_facts.specs.Events.{NodeEvent, Past, after, outs_of, kept_outs, left_outs, stamp_at, is_return}
use Rattle.run_facts.specs.Events.NodeEvent.{Does, Ends}
use Rattle.run_facts.specs.Histories.{History, TakesAt, past, beat, reading, place, place_behind}
use Rattle.kept_worlds.proofs.Whole.{left-all}

-- the first has one event more, a tick behind a take, of which nothing goes out and in which the death comes: in the second
-- the death comes in the take, with all that this sends
pub record IsCut {M S : Type 0} (note : M → Note) (step : S → Input M → Deed M S) (h g : History M S) (n last : ℕ)
    : Type 0 where
  pub size : h.count n ≡ suc (g.count n)
  pub inside : last < g.count n
  pub stamp : Stamp
  pub link : LinkNo
  pub msg : M
  pub now : Stamp
  pub sends : ℕ
  pub takes : h.event n last ≡ Does (Take stamp link msg)
  pub ticks : h.event n (suc last) ≡ Ends (Tick now) sends
  pub none : left_outs step (Tick now) sends (past note step h n (suc last)) ≡ []
  pub ends : g.event n last ≡ Ends (Take stamp link msg) (send_count (step (past note step h n last).state (Take stamp link msg)).outs)
  pub later : (i : ℕ) → last < i → i < g.count n → g.event n i ≡ h.event n (suc i)

-- two histories in which the events of a node are the same below a number, and all of them are, or there is such a tick
pub record IsAlike {M S : Type 0} (note : M → Note) (step : S → Input M → Deed M S) (h g : History M S) (n : ℕ) : Type 0 where
  pub last : ℕ
  pub same : (i : ℕ) → i < last → g.event n i ≡ h.event n i
  pub kind : ((g.count n ≡ h.count n) × (h.count n ≤ last)) ⊎ IsCut note step h g n last

pub record AreAlike {M S : Type 0} (note : M → Note) (step : S → Input M → Deed M S) (h g : History M S) : Type 0 where
  pub first : (n : ℕ) → g.first n ≡ h.first n
  pub life : (n : ℕ) → g.life n ≡ h.life n
  pub before : (l : ℕ) → g.before l ≡ h.before l
  pub each : (n : ℕ) → IsAlike note step h g n

-- the number in the first history of the event that has number i in the second
abbrev pub old_of : ℕ → ℕ → ℕ
old_of last i = if nat_le i last then i else suc i

pub old-low : (last i : ℕ) → i ≤ last → old_of last i ≡ i
old-low last i low = let t : nat_le i last ≡ true = grind (arith, nat_tests, low) in rw t refl

pub old-high : (last i : ℕ) → last < i → old_of last i ≡ suc i
old-high last i high = let t : nat_le i last ≡ false = grind (arith, nat_tests, high) in rw t refl

pub old-rises : (last i j : ℕ) → i ≤ j → old_of last i ≤ old_of last j
old-rises last i j up = ⊎_elim
    (λ (low : j < suc last).
    let a = old-low last i (omega (arith, up, low)) in
    let b = old-low last j (omega (arith, low)) in
    omega (arith, a, b, up))
    (λ (high : suc last ≤ j).
    let b = old-high last j high in
    let a : old_of last i ≤ suc i = at_most (nat_le i last) in
    omega (arith, a, b, up))
    (cases_lt j (suc last))
  where
    at_most : (t : Bool) → cond t i (suc i) ≤ suc i
    at_most true = omega arith
    at_most false = omega arith

pub old-strict : (last i j : ℕ) → i < j → old_of last i < old_of last j
old-strict last i j less =
    let a = old-rises last (suc i) j less in
    ⊎_elim
    (λ (low : i < last).
    let b = old-low last i (omega (arith, low)) in
    let c = old-low last (suc i) low in
    omega (arith, a, b, c))
    (λ (high : last ≤ i).
    let b : old_of last i ≤ suc i = most (nat_le i last) in
    let c = old-high last (suc i) (omega (arith, high)) in
    omega (arith, a, b, c))
    (cases_lt i last)
  where
    most : (t : Bool) → cond t i (suc i) ≤ suc i
    most true = omega arith
    most false = omega arith

-- ---- an event of the second, beside that of the first with its number

-- the same, or a take in which the death comes that sends all
abbrev pub IsBeside : {M S : Type 0} → (S → Input M → Deed M S) → S → NodeEvent M → NodeEvent M → Type 0
IsBeside {M} step s e f =
    (f ≡ e)
    ⊎ ((stamp : Stamp) × (link : LinkNo) × (msg : M) × (e ≡ Does (Take stamp link msg))
    × (f ≡ Ends (Take stamp link msg) (send_count (step s (Take stamp link msg)).outs)))

module _ {M S : Type 0} (step : S → Input M → Deed M S) (s : S) (e f : NodeEvent M) (b : IsBeside step s e f) where
  pub stamp-same : stamp_at f ≡ stamp_at e
  stamp-same = ⊎_elim
      (λ (q : f ≡ e). ap stamp_at q)
      (λ q. ap stamp_at q.4 ∙ sym (ap stamp_at q.3))
      b

  pub return-same : is_return f ≡ is_return e
  return-same = ⊎_elim (λ (q : f ≡ e). ap is_return q) (λ q. ap is_return q.4 ∙ sym (ap is_return q.3)) b

  place-same : (l before k : ℕ) → place_behind l before f k ≡ place_behind l before e k
  place-same l before k = ⊎_elim
      (λ (q : f ≡ e). ap (λ (x : NodeEvent M). place_behind l before x k) q)
      (λ q. ap (λ (x : NodeEvent M). place_behind l before x k) q.4 ∙ sym (ap (λ (x : NodeEvent M). place_behind l before x k) q.3))
      b

  pub takes-same : (stamp : Stamp) (link : LinkNo) (msg : M) → TakesAt f stamp link msg → TakesAt e stamp link msg
  takes-same stamp link msg t = ⊎_elim
      (λ (q : f ≡ e). subst (λ (x : NodeEvent M). TakesAt x stamp link msg) q t)
      (λ q. inl (q.3 ∙ taken q.0 q.1 q.2 _ (subst (λ (x : NodeEvent M). TakesAt x stamp link msg) q.4 t)))
      b
    where
      input-of : (i j : Input M) (a d : ℕ) → ◌≡◌ {A = NodeEvent M} (Ends i a) (Ends j d) → i ≡ j
      input-of i j a d q = cc

      taken : (at : Stamp) (on : LinkNo) (what : M) (k : ℕ) → TakesAt (Ends (Take at on what) k) stamp link msg
          → ◌≡◌ {A = NodeEvent M} (Does (Take at on what)) (Does (Take stamp link msg))
      taken at on what k t = ⊎_elim
          (λ (q : ◌≡◌ {A = NodeEvent M} (Ends (Take at on what) k) (Does (Take stamp link msg))). absurd (cc))
          (λ (q : (d : ℕ) × (◌≡◌ {A = NodeEvent M} (Ends (Take at on what) k) (Ends (Take stamp link msg) d))).
          ap (λ (i : Input M). Does i) (input-of (Take at on what) (Take stamp link msg) k q.0 q.1))
          t

  -- and it puts the same out
  pub outs-same : (x y : Past S) → x.state ≡ s → y ≡ x → outs_of step f y ≡ outs_of step e x
  unfolding kept_outs left_outs
  outs-same x y state same = ⊎_elim
      (λ (q : f ≡ e). ap (λ (z : NodeEvent M). outs_of step z y) q ∙ ap (outs_of step e) same)
      (λ q.
      let os = (step x.state (Take q.0 q.1 q.2)).outs in
      let k : send_count (step s (Take q.0 q.1 q.2)).outs ≡ send_count os =
      ap (λ z. send_count (step z (Take q.0 q.1 q.2)).outs) (sym state) in
      ap (λ (z : NodeEvent M). outs_of step z y) q.4 ∙ ap (outs_of step (Ends (Take q.0 q.1 q.2) _)) same
      ∙ ap (λ (d : ℕ). outs_of step (Ends (Take q.0 q.1 q.2) d) x) k
      ∙ left-all os
      ∙ sym (ap (λ (z : NodeEvent M). outs_of step z x) q.3))
      b

-- ---- the second history beside the first

module _ {M S : Type 0} (note : M → Note) (step : S → Input M → Deed M S) (h g : History M S)
    (alike : AreAlike note step h g) (n : ℕ) where
  abbrev pub last_in : ℕ
  last_in = (alike.each n).last

  abbrev pub old : ℕ → ℕ
  old i = old_of last_in i

  -- behind the last number below which all is the same there is such a tick
  pub far : (i : ℕ) → i < g.count n → last_in ≤ i → IsCut note step h g n last_in
  far i low high = ⊎_elim
      (λ (s : (g.count n ≡ h.count n) × (h.count n ≤ last_in)). let a = s.0 in let b = s.1 in absurd (omega (arith, low, high, a, b)))
      (λ (s : IsCut note step h g n last_in). s)
      (alike.each n).kind

  pub old-count : old (g.count n) ≡ h.count n
  old-count = ⊎_elim
      (λ (s : (g.count n ≡ h.count n) × (h.count n ≤ last_in)).
      let a = s.0 in let b = s.1 in old-low last_in (g.count n) (omega (arith, a, b)) ∙ a)
      (λ (s : IsCut note step h g n last_in). old-high last_in (g.count n) s.inside ∙ sym s.size)
      (alike.each n).kind

  pub inside : (i : ℕ) → i < g.count n → old i < h.count n
  inside i low = ⊎_elim
      (λ (s : (g.count n ≡ h.count n) × (h.count n ≤ last_in)).
      let a = s.0 in let b = s.1 in
      let same = old-low last_in i (omega (arith, a, b, low)) in omega (arith, same, a, low))
      (λ (s : IsCut note step h g n last_in).
      let rises = old-rises last_in i (g.count n) (omega (arith, low)) in
      let size = s.size in
      ⊎_elim
      (λ (up : i < suc last_in). let same = old-low last_in i (omega (arith, up)) in omega (arith, same, low, size))
      (λ (high : suc last_in ≤ i). let same = old-high last_in i high in omega (arith, same, low, size))
      (cases_lt i (suc last_in)))
      (alike.each n).kind

  -- the event of that number, in each of the three places
  pub beside : (i : ℕ) → i < g.count n → IsBeside step (past note step h n (old i)).state (h.event n (old i)) (g.event n i)
  beside i low = ⊎_elim
      (λ (below_it : i < last_in).
      subst (λ k. IsBeside step (past note step h n k).state (h.event n k) (g.event n i)) (sym (old-low last_in i (omega (arith, below_it))))
      (inl ((alike.each n).same i below_it)))
      (λ (high : last_in ≤ i).
      let s = far i low high in
      ⊎_elim
      (λ (is : last_in ≡ i).
      subst (λ k. IsBeside step (past note step h n (old k)).state (h.event n (old k)) (g.event n k)) is
      (subst (λ k. IsBeside step (past note step h n k).state (h.event n k) (g.event n last_in))
      (sym (old-low last_in last_in (omega arith))) (inr (s.stamp, s.link, s.msg, s.takes, s.ends))))
      (λ (other : last_in ≡ i → ⊥).
      subst (λ k. IsBeside step (past note step h n k).state (h.event n k) (g.event n i)) (sym (old-high last_in i (omega (arith, other, high))))
      (inl (s.later i (omega (arith, other, high)) low)))
      (cases_eq last_in i))
      (cases_lt i last_in)

  pub back-same : (i : ℕ) → i < g.count n → is_return (g.event n i) ≡ is_return (h.event n (old i))
  back-same i low = return-same step _ (h.event n (old i)) (g.event n i) (beside i low)

  start-same : past note step g n 0 ≡ past note step h n 0
  start-same =
      let first = alike.first n in
      let life = alike.life n in
      rw (first, life) refl

  pub past-same : (i : ℕ) → i ≤ last_in → past note step g n i ≡ past note step h n i
  past-same zero low = start-same
  past-same (suc i) low =
      ap (λ (e : NodeEvent M). after note step e (past note step g n i)) ((alike.each n).same i (omega (arith, low)))
      ∙ ap (after note step (h.event n i)) (past-same i (omega (arith, low)))

  pub beat-same : (i : ℕ) → i < g.count n → beat g n i ≡ beat h n (old i)
  beat-same i low = ap (λ (s : Stamp). s.beat) (stamp-same step _ (h.event n (old i)) (g.event n i) (beside i low))

  pub reading-same : (i : ℕ) → i < g.count n → reading g n i ≡ reading h n (old i)
  reading-same i low = ap (λ (s : Stamp). s.reading) (stamp-same step _ (h.event n (old i)) (g.event n i) (beside i low))

  -- the tick takes nothing
  place-cut : (l : ℕ) → IsCut note step h g n last_in → place l h n (suc (suc last_in)) ≡ place l h n (suc last_in)
  place-cut l s = ap (λ (e : NodeEvent M). place_behind l (h.before l) e (place l h n (suc last_in))) s.ticks

  pub place-to : (l i : ℕ) → i ≤ g.count n → place l g n i ≡ place l h n (old i)
  place-to l zero low = ap (place l h n) (sym (old-low last_in 0 (omega arith)))
  place-to l (suc i) low =
      let at : i < g.count n = omega (arith, low) in
      let one : place l g n (suc i) ≡ place l h n (suc (old i)) =
      ap (place_behind l (g.before l) (g.event n i)) (place-to l i (omega (arith, low)))
      ∙ ap (λ (k : ℕ). place_behind l k (g.event n i) (place l h n (old i))) (alike.before l)
      ∙ place-same step _ (h.event n (old i)) (g.event n i) (beside i at) l (h.before l) (place l h n (old i)) in
      one ∙ ⊎_elim
      (λ (below_it : i < last_in).
      ap (place l h n) (ap suc (old-low last_in i (omega (arith, below_it))) ∙ sym (old-low last_in (suc i) (omega (arith, below_it)))))
      (λ (high : last_in ≤ i). ⊎_elim
      (λ (is : last_in ≡ i).
      let s = far i at high in
      ap (λ k. place l h n (suc k)) (old-low last_in i (omega (arith, is)) ∙ sym is) ∙ sym (place-cut l s)
      ∙ ap (place l h n) (ap (λ k. suc (suc k)) is ∙ sym (old-high last_in (suc i) (omega (arith, is)))))
      (λ (other : last_in ≡ i → ⊥).
      ap (place l h n) (ap suc (old-high last_in i (omega (arith, other, high))) ∙ sym (old-high last_in (suc i) (omega (arith, other, high)))))
      (cases_eq last_in i))
      (cases_lt i last_in)

  pub place-all : (l : ℕ) → place l g n (g.count n) ≡ place l h n (h.count n)
  place-all l = place-to l (g.count n) (omega arith) ∙ ap (place l h n) old-count
