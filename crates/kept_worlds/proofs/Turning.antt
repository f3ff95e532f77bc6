-- What the code makes of entries one after another is what they say of the last event.
use Rattle.std.proofs.Common.{◌≡◌, ℕ, zero, suc, ◌+◌, ◌<◌, ◌≤◌, List, [], ◌∷◌, ◌++◌, Bool, true, false, ◌&&◌, drop, get_or, length, Option, Some, None, refl, ap, sym, ◌∙◌, subst, arith, cond, ⊎_elim, inl, inr, append_assoc, append-nil}
use Rattle.std.specs.Prelude.{◌⊎◌, ◌==◌, not, if◌then◌else◌}
use Rattle.std.specs.List.{AllByRecursion}
use Rattle.std.proofs.lemmas.Bool.{cases_Bool}
use Rattle.std.proofs.lemmas.List.{drop_more}
use Rattle.tiger_base.specs.declared.number.LinkNo.{LinkNo}
use Rattle.tiger_base.specs.declared.message.Note.{Note}
use Rattle.node_kit.specs.declared.course.Course.{Course}
use Rattle.node_kit.specs.declared.journal.Entry.{Entry}
use Rattle.node_kit.specs.declared.journal.What.{What}
use Rattle.node_kit.specs.declared.journal.What.TheVariants as what
use Rattle.node_kit.specs.Life.{ends_in, lifetime_of}
use Rattle.run_facts.specs.Timed.{is_died}
use Rattle.run_facts.proofs.Rows.{all-append}
use Rattle.ring_world.specs.declared.event.Act.TheVariants as act
use Rattle.ring_world.specs.declared.event.Last.TheVariants as last
use Rattle.proof_turns.specs.Turns.{is_of_take}
use Rattle.kept_worlds.specs.declared.turn.Turn.{Turn}
use Rattle.kept_worlds.specs.Events.{said_in, is_sent, sends_said, behind_take, is_none, message_got, tick_part, has_got, is_in_take, get_told}
use Rattle.kept_worlds.specs.Turning.{sent_more, turn_on, turn_by, turn_after, turns, sends_of_take, sends_of_tick}
use Rattle.kept_worlds.proofs.Said.{said-append, take-gone, all-gone, no-gots, some-got, tick-all, tick-behind}

-- ---- entries that are left

pub said-next : (b i : ℕ) (es : List Entry) (d : Entry) → i < length es
    → said_in b (drop i es) ≡ said_in b (get_or es i d ∷ []) ++ said_in b (drop (i + 1) es)
said-next b i es d low =
    ap (said_in b) (drop_more es i d low) ∙ said-append b (get_or es i d ∷ []) (drop (i + 1) es)

pub said-over : (b i : ℕ) (es : List Entry) → length es ≤ i → said_in b (drop i es) ≡ []
said-over b i es over = ap (said_in b) (drop_all i es over)
  where
    drop_all : (k : ℕ) (xs : List Entry) → length xs ≤ k → drop k xs ≡ []
    drop_all zero [] h = refl
    drop_all zero (x ∷ xs) h = absurd (omega (arith, h))
    drop_all (suc k) [] h = refl
    drop_all (suc k) (x ∷ xs) h = drop_all k xs (omega (arith, h))

-- ---- a take

some-same : (a b : ℕ) → Some a ≡ Some b → a ≡ b
some-same a b e = cc

more-by : (b : Bool) (n k : ℕ) → cond b (suc n) n + k ≡ n + cond b (suc k) k
more-by true n k = omega arith
more-by false n k = refl

-- what is counted is what was sent, if all may come of the take
pub take-counts : (m : Note) (sends : ℕ) (ws : List What)
    → sends_of_take m sends ws ≡ (if is_none (behind_take m ws) then Some (sends + sends_said ws) else None)
take-counts m sends [] = let none : sends + 0 ≡ sends = omega arith in ap (λ k. Some k) (sym none)
take-counts m sends (w ∷ ws) = ⊎_elim
    (λ (t : is_of_take m w ≡ true).
    rw t (take-counts m (sent_more sends w) ws
    ∙ ap (λ k. cond (is_none (behind_take m ws)) (Some k) None) (more-by (is_sent w) sends (sends_said ws))))
    (λ (t : is_of_take m w ≡ false). rw t refl)
    (cases_Bool (is_of_take m w))

-- ---- the turn

pub turns-append : (t : Turn) (xs ys : List What) → turns t (xs ++ ys) ≡ turns (turns t xs) ys
turns-append t [] ys = refl
turns-append t (x ∷ xs) ys = turns-append (turn_after t x) xs ys

sends-more : (ws : List What) (w : What) → sends_said (ws ++ w ∷ []) ≡ sent_more (sends_said ws) w
sends-more [] w = refl
sends-more (x ∷ xs) w = by (is_sent x) (is_sent w) (sends_said (xs ++ w ∷ [])) (sends_said xs) (sends-more xs w)
  where
    by : (a b : Bool) (m n : ℕ) → m ≡ cond b (suc n) n → cond a (suc m) m ≡ cond b (suc (cond a (suc n) n)) (cond a (suc n) n)
    by true true m n e = ap suc e
    by true false m n e = ap suc e
    by false true m n e = e
    by false false m n e = e

behind-more : (m : Note) (us vs : List What) (v w : What) → behind_take m us ≡ v ∷ vs
    → behind_take m (us ++ w ∷ []) ≡ v ∷ (vs ++ w ∷ [])
behind-more m [] vs v w h = absurd (cc)
behind-more m (u ∷ us) vs v w h = ⊎_elim
    (λ (t : is_of_take m u ≡ true).
    let q : behind_take m (u ∷ us) ≡ behind_take m us = rw t refl in rw t (behind-more m us vs v w (sym q ∙ h)))
    (λ (t : is_of_take m u ≡ false).
    let q : behind_take m (u ∷ us) ≡ u ∷ us = rw t refl in
    let same : u ∷ us ≡ v ∷ vs = sym q ∙ h in
    rw t (ap (λ zs. zs ++ w ∷ []) same))
    (cases_Bool (is_of_take m u))

-- no message is got among what was said, or some was, and behind the last of them
record IsGot (front : List What) (m : Note) (us : List What) : Type 0 where
  before : List What
  link : LinkNo
  is : front ≡ before ++ what.Got link m ∷ us
  none : AllByRecursion (λ (w : What). message_got w ≡ None) us

record IsTaking (front : List What) (m : Note) : Type 0 where
  us : List What
  got : IsGot front m us
  own : AllByRecursion (λ (w : What). is_of_take m w ≡ true) us

record IsTicking (front : List What) (sends : ℕ) : Type 0 where
  m : Note
  us : List What
  got : IsGot front m us
  first : What
  rest : List What
  left : behind_take m us ≡ first ∷ rest
  count : sends ≡ sends_said (first ∷ rest)

record IsFirst (front : List What) (sends : ℕ) : Type 0 where
  none : AllByRecursion (λ (w : What). message_got w ≡ None) front
  count : sends ≡ sends_said front

abbrev IsTurnBy : List What → Option Note → ℕ → Type 0
IsTurnBy front None sends = IsFirst front sends ⊎ IsTicking front sends
IsTurnBy front (Some m) sends = IsTaking front m

abbrev IsTurnOf : List What → Turn → Type 0
IsTurnOf front t = IsTurnBy front t.taking t.sends

got-more : (front : List What) (m : Note) (us : List What) (w : What) → IsGot front m us → message_got w ≡ None
    → IsGot (front ++ w ∷ []) m (us ++ w ∷ [])
got-more front m us w g none = record {
  before = g.before;
  link = g.link;
  is = ap (λ q. q ++ w ∷ []) g.is ∙ append_assoc g.before (what.Got g.link m ∷ us) (w ∷ []);
  none = all-append (λ (x : What). message_got x ≡ None) us (w ∷ []) g.none (none, tt);
}

turn-on : (front : List What) (w : What) (taking : Option Note) (sends : ℕ) → message_got w ≡ None → IsTurnBy front taking sends
    → IsTurnOf (front ++ w ∷ []) (turn_on taking sends w)
turn-on front w None sends none h = ⊎_elim
    (λ (f : IsFirst front sends). inl (record {
      none = all-append (λ (x : What). message_got x ≡ None) front (w ∷ []) f.none (none, tt);
      count = ap (λ k. sent_more k w) f.count ∙ sym (sends-more front w);
    }))
    (λ (f : IsTicking front sends). inr (record {
      m = f.m;
      us = f.us ++ w ∷ [];
      got = got-more front f.m f.us w f.got none;
      first = f.first;
      rest = f.rest ++ w ∷ [];
      left = behind-more f.m f.us f.rest f.first w f.left;
      count = ap (λ k. sent_more k w) f.count ∙ sym (sends-more (f.first ∷ f.rest) w);
    }))
    h
turn-on front w (Some m) sends none h = ⊎_elim
    (λ (t : is_of_take m w ≡ true). rw t (record {
      us = h.us ++ w ∷ [];
      got = got-more front m h.us w h.got none;
      own = all-append (λ (x : What). is_of_take m x ≡ true) h.us (w ∷ []) h.own (t, tt);
    }))
    (λ (t : is_of_take m w ≡ false). rw t (inr (record {
      m = m;
      us = h.us ++ w ∷ [];
      got = got-more front m h.us w h.got none;
      first = w;
      rest = [];
      left = take-gone m h.us (w ∷ []) h.own ∙ (let q : behind_take m (w ∷ []) ≡ w ∷ [] = rw t refl in q);
      count = refl;
    })))
    (cases_Bool (is_of_take m w))

got-is : (w : What) (m : Note) → message_got w ≡ Some m → (link : LinkNo) × (w ≡ what.Got link m)
got-is (what.Got link message) m h = let same : message ≡ m = cc in (link, ap (λ q. what.Got link q) same)
got-is other m h = absurd (cc)

turn-next : (front : List What) (w : What) (t : Turn) → IsTurnOf front t → IsTurnOf (front ++ w ∷ []) (turn_after t w)
turn-next front w t h = by (message_got w) refl
  where
    by : (o : Option Note) → message_got w ≡ o → IsTurnOf (front ++ w ∷ []) (turn_by t o w)
    by None none = turn-on front w t.taking t.sends none h
    by (Some m) some =
        let g = got-is w m some in
        record {
          us = [];
          got = record { before = front; link = g.0; is = ap (λ q. front ++ q ∷ []) g.1; none = tt };
          own = tt;
        }

turn-all : (front ws : List What) (t : Turn) → IsTurnOf front t → IsTurnOf (front ++ ws) (turns t ws)
turn-all front [] t h = subst (λ q. IsTurnOf q t) (sym (append-nil front)) h
turn-all front (w ∷ ws) t h =
    subst (λ q. IsTurnOf q (turns (turn_after t w) ws)) (append_assoc front (w ∷ []) ws)
    (turn-all (front ++ w ∷ []) ws (turn_after t w) (turn-next front w t h))

-- what is told of the turn at the end
abbrev pub sends_by : Option Note → ℕ → Option ℕ
sends_by None sends = Some sends
sends_by (Some m) sends = None

turn-end : (ws : List What) (taking : Option Note) (sends : ℕ) → IsTurnBy ws taking sends → sends_of_tick ws ≡ sends_by taking sends
turn-end ws None sends h = ⊎_elim
    (λ (f : IsFirst ws sends).
    let apart : is_in_take ws ≡ false = ap (λ t. t && is_none (tick_part ws ws)) (no-gots ws f.none) in
    ap (λ b. cond b None (Some (sends_said (tick_part ws ws)))) apart
    ∙ ap (λ q. Some (sends_said q)) (tick-all ws ws f.none) ∙ ap (λ k. Some k) (sym f.count))
    (λ (f : IsTicking ws sends).
    let part : tick_part ws ws ≡ f.first ∷ f.rest =
    ap (tick_part ws) f.got.is ∙ tick-behind ws f.got.before f.got.link f.m f.us f.got.none ∙ f.left in
    let apart : is_in_take ws ≡ false = ap (λ q. has_got ws && is_none q) part ∙ and-false (has_got ws) in
    ap (λ b. cond b None (Some (sends_said (tick_part ws ws)))) apart
    ∙ ap (λ q. Some (sends_said q)) part ∙ ap (λ k. Some k) (sym f.count))
    h
  where
    and-false : (b : Bool) → (b && false) ≡ false
    and-false true = refl
    and-false false = refl
turn-end ws (Some m) sends h =
    let part : tick_part ws ws ≡ [] =
    ap (tick_part ws) h.got.is ∙ tick-behind ws h.got.before h.got.link m h.us h.got.none ∙ all-gone m h.us h.own in
    let some : has_got ws ≡ true = ap has_got h.got.is ∙ some-got h.got.before h.got.link m h.us in
    let inside : is_in_take ws ≡ true = ap (λ q. has_got ws && is_none q) part ∙ ap (λ t. t && true) some in
    ap (λ b. cond b None (Some (sends_said (tick_part ws ws)))) inside

pub tick-sends : (ws : List What) (t : Turn) → t ≡ turns (record { taking = None; sends = 0 }) ws
    → sends_of_tick ws ≡ sends_by t.taking t.sends
tick-sends ws t is =
    let first : Turn = record { taking = None; sends = 0 } in
    let begins : IsTurnOf [] first = inl (record { none = tt; count = refl }) in
    let ends = turn-all [] ws first begins in
    turn-end ws (turns first ws).taking (turns first ws).sends ends
    ∙ sym (ap (λ (q : Turn). sends_by q.taking q.sends) is)

-- no more messages are sent than there are entries
one-more : (b : Bool) (n : ℕ) → cond b (suc n) n ≤ n + 1
one-more true n = omega arith
one-more false n = omega arith

few-on : (taking : Option Note) (sends : ℕ) (w : What) → (turn_on taking sends w).sends ≤ sends + 1
few-on None sends w = one-more (is_sent w) sends
few-on (Some m) sends w =
    let one = one-more (is_sent w) 0 in
    ⊎_elim
    (λ (t : is_of_take m w ≡ true). rw t (omega arith))
    (λ (t : is_of_take m w ≡ false). rw t (omega (arith, one)))
    (cases_Bool (is_of_take m w))

few-by : (t : Turn) (o : Option Note) (w : What) → (turn_by t o w).sends ≤ t.sends + 1
few-by t None w = few-on t.taking t.sends w
few-by t (Some m) w = omega arith

pub few-turn : (t : Turn) (b : ℕ) (e : Entry) → (turns t (said_in b (e ∷ []))).sends ≤ t.sends + 1
few-turn t b e = ⊎_elim
    (λ (q : (e.stamp.beat == b && not (is_died e.what)) ≡ true). rw q (few-by t (message_got e.what) e.what))
    (λ (q : (e.stamp.beat == b && not (is_died e.what)) ≡ false). rw q (omega arith))
    (cases_Bool (e.stamp.beat == b && not (is_died e.what)))

-- ---- one turn of each loop

pub record TurnLeft (b i : ℕ) (es : List Entry) (t : Turn) : Type 0 where
  pub left : turns t (said_in b (drop i es)) ≡ turns (record { taking = None; sends = 0 }) (said_in b es)
  pub few : t.sends ≤ i

pub turn-turn : (b i : ℕ) (es : List Entry) (d : Entry) (t u : Turn) → i < length es
    → u ≡ turns t (said_in b (get_or es i d ∷ []))
    → turns t (said_in b (drop i es)) ≡ turns (record { taking = None; sends = 0 }) (said_in b es) → t.sends ≤ i
    → TurnLeft b (i + 1) es u
turn-turn b i es d t u low here left few =
    let up = few-turn t b (get_or es i d) in
    let sends = ap (λ (q : Turn). q.sends) here in
    record {
      left = ap (λ q. turns q (said_in b (drop (i + 1) es))) here
          ∙ sym (turns-append t (said_in b (get_or es i d ∷ [])) (said_in b (drop (i + 1) es)))
          ∙ sym (ap (turns t) (said-next b i es d low)) ∙ left;
      few = omega (arith, up, few, sends);
    }

pub turn-ends : (b i : ℕ) (es : List Entry) (t : Turn) → length es ≤ i
    → turns t (said_in b (drop i es)) ≡ turns (record { taking = None; sends = 0 }) (said_in b es)
    → sends_by t.taking t.sends ≡ sends_of_tick (said_in b es)
turn-ends b i es t over left =
    sym (tick-sends (said_in b es) t (sym (ap (turns t) (said-over b i es over)) ∙ left))

-- ---- a message got

pub get-cut : (c : Course) (n b : ℕ) (link : LinkNo) (m : Note) (number : ℕ) (es : List Entry) (sends : ℕ)
    → ends_in (lifetime_of c n) b ≡ true → sends_of_take m 0 (said_in b es) ≡ Some sends
    → act.DieIn (last.Get link number) sends ≡ get_told c n b link m number es
get-cut c n b link m number es sends cut counted =
    let ws = said_in b es in
    let all : cond (is_none (behind_take m ws)) (Some (0 + sends_said ws)) None ≡ Some sends = sym (take-counts m 0 ws) ∙ counted in
    ⊎_elim
    (λ (t : is_none (behind_take m ws) ≡ true).
    let same = some-same (0 + sends_said ws) sends (sym (ap (λ q. cond q (Some (0 + sends_said ws)) None) t) ∙ all) in
    let count : sends ≡ sends_said ws = omega (arith, same) in
    rw (cut, t) (ap (λ k. act.DieIn (last.Get link number) k) count))
    (λ (t : is_none (behind_take m ws) ≡ false).
    let z : ◌≡◌ {A = Option ℕ} None (Some sends) = sym (ap (λ q. cond q (Some (0 + sends_said ws)) None) t) ∙ all in absurd (cc))
    (cases_Bool (is_none (behind_take m ws)))

pub get-whole : (c : Course) (n b : ℕ) (link : LinkNo) (m : Note) (number : ℕ) (es : List Entry)
    → sends_of_take m 0 (said_in b es) ≡ None → act.Get link number ≡ get_told c n b link m number es
get-whole c n b link m number es none =
    let ws = said_in b es in
    let all : cond (is_none (behind_take m ws)) (Some (0 + sends_said ws)) None ≡ None = sym (take-counts m 0 ws) ∙ none in
    ⊎_elim
    (λ (t : is_none (behind_take m ws) ≡ true).
    let z : ◌≡◌ {A = Option ℕ} (Some (0 + sends_said ws)) None = sym (ap (λ q. cond q (Some (0 + sends_said ws)) None) t) ∙ all in absurd (cc))
    (λ (t : is_none (behind_take m ws) ≡ false).
    ap (λ q. cond q (act.DieIn (last.Get link number) (sends_said ws)) (act.Get link number))
    (sym (ap (λ q. ends_in (lifetime_of c n) b && q) t ∙ and-none (ends_in (lifetime_of c n) b))))
    (cases_Bool (is_none (behind_take m ws)))
  where
    and-none : (b : Bool) → (b && false) ≡ false
    and-none true = refl
    and-none false = refl
