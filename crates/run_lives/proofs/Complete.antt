-- A history of nodes of any lives of which the events are known is complete: each node goes on until its death or the
-- end
-- of the beats, and again from its return on.
use Rattle.std.proofs.Common.{◌≡◌, ℕ, suc, ◌+◌, ◌<◌, ◌≤◌, [], ◌∷◌, ◌++◌, length, true, false}
use Rattle.std.proofs.Common.{Option, Some, None, refl, ap, sym, ◌∙◌, subst, cond, arith, append_assoc, ⊎_elim}
use Rattle.std.specs.Prelude.{nat_lt}
use Rattle.std.proofs.lemmas.Bool.{cases_lt}
use Rattle.std.proofs.lemmas.Bool.Decides.{nat_tests}
use Rattle.node_kit.specs.Life.{Lifetime, acts}
use Rattle.run_facts.specs.Accounts.{LivesBy, IsWhole, AreAlive, event_at}
use Rattle.run_facts.specs.Accounts.{front, history_of}
use Rattle.run_facts.specs.Events.{NodeEvent, Past, opening, stamp_at, is_death}
use Rattle.run_facts.specs.Events.NodeEvent.{Does, Ends, Dies, Returns}
use Rattle.run_facts.specs.Histories.{History, past}
use Rattle.run_facts.specs.Histories.{IsComplete}
use Rattle.run_facts.specs.Timed.{death_within}
use Rattle.run_facts.proofs.Fronts.{lived}
use Rattle.run_facts.proofs.Indexed.{past-front, all-at}
use Rattle.run_lives.proofs.Alike.{IsOfLife, of-itself, life-of-events, over-events, acts-of, dies-of, returns-of}
use Rattle.run_lives.proofs.Alike.{acts-past}
use Rattle.run_lives.proofs.Missing.{event-behind, length-both}
use Rattle.run_lives.proofs.Numbers.{front-first, all-front}
use Rattle.run_lives.proofs.Returning.{death-place}
use Rattle.run_lives.proofs.Standing.{within-of}
use Rattle.run_lives.proofs.Counting.{whole-at, above, length-one}
use Rattle.run_lives.proofs.Lasting.{Known, end-at, around, two, up-total}

module _ {M S : Type 0} (known : Known M S) where
  abbrev life : ℕ → Lifetime
  life n = lived (known.death n) (known.left n) (known.back n)

  abbrev h : History M S
  h = history_of known.first life known.lost known.events

  abbrev at : ℕ → ℕ → NodeEvent M
  at n i = event_at (known.events n) i

  abbrev again : ℕ → Option ℕ
  again n = death_within known.beats (known.back n)

  -- a node before an event has what its life is
  abbrev lives_at : ℕ → ℕ → Lifetime
  lives_at n i = (past known.note known.step h n i).life

  front-life : (n i : ℕ) → i < length (known.events n) → IsOfLife (life n) (lives_at n i)
  front-life n i hi = subst (λ (s : Past S). IsOfLife (life n) s.life)
      (sym (past-front known.note known.step known.first life known.lost known.events n i (omega (arith, hi))))
      (life-of-events known.note known.step (life n) (front i (known.events n)) (opening (known.first n) (life n))
      (of-itself (life n)))

  front-alive : (n i : ℕ) → i < length (known.events n) → AreAlive (front i (known.events n)) →
      (lives_at n i).over ≡ false
  front-alive n i hi alive =
      ap (λ (s : Past S). s.life.over) (past-front known.note known.step known.first life known.lost known.events n i
      (omega (arith, hi)))
      ∙ over-events known.note known.step (front i (known.events n)) (opening (known.first n) (life n)) alive

  acts-by : (n i : ℕ) → n < known.nodes → i < length (known.events n) → (o : Option ℕ) → death_within known.beats
      (known.death n) ≡ o
      → acts (lives_at n i) (stamp_at (at n i)).beat ≡ acts (life n) (stamp_at (at n i)).beat
  acts-by n i low hi None is =
      acts-of (life n) (lives_at n i) (stamp_at (at n i)).beat (front-life n i hi) (front-alive n i hi
      (all-front (λ e. is_death e ≡ false) i (known.events n) (end-at known n low None (again n) is refl).0))
  acts-by n i low hi (Some d) is =
      let a = around known n low d (again n) is refl in
      ⊎_elim
      (λ (up : i < length a.front + 1).
      let parts : front i (known.events n) ≡ front i a.front = ap (front i) a.parts
      ∙ front-first a.front (a.last ∷ a.more) i (omega (arith, up)) in
      acts-of (life n) (lives_at n i) (stamp_at (at n i)).beat (front-life n i hi) (front-alive n i hi
      (subst AreAlive (sym parts) (all-front (λ e. is_death e ≡ false) i a.front a.alive))))
      (λ (behind_it : length a.front + 1 ≤ i).
      let j = above (length a.front + 1) i behind_it in
      let same = j.1 in
      let q : i ≡ length a.front + suc j.0 = omega (arith, same) in
      let event_is : at n i ≡ event_at a.more j.0 = ap (at n) q
      ∙ ap (λ es. event_at es (length a.front + suc j.0)) a.parts
      ∙ event-behind a.front (a.last ∷ a.more) (suc j.0) in
      let long = ap length a.parts ∙ length-both a.front (a.last ∷ a.more) in
      let late = all-at (λ e. d + 2 ≤ (stamp_at e).beat) a.more j.0 (omega (arith, long, hi, same)) a.late in
      let beat_is = ap (λ e. (stamp_at e).beat) event_is in
      acts-past (life n) (lives_at n i) d (stamp_at (at n i)).beat (within-of known.beats d (known.death n) is).0
      (omega (arith, late, beat_is)) (front-life n i hi))
      (cases_lt i (length a.front + 1))

  acts-at : (n i : ℕ) → n < known.nodes → i < length (known.events n)
      → acts (lives_at n i) (stamp_at (at n i)).beat ≡ acts (life n) (stamp_at (at n i)).beat
  acts-at n i low hi = acts-by n i low hi (death_within known.beats (known.death n)) refl

  lived-at : (n i : ℕ) (e : NodeEvent M) → n < known.nodes → i < length (known.events n) → at n i ≡ e → LivesBy
      (life n) e
  lived-at n i e low hi is = subst (λ (f : NodeEvent M). LivesBy (life n) f) is
      (all-at (LivesBy (life n)) (known.events n) i hi (known.accounts.timeline n low).lived)

  is-whole : (n i : ℕ) (e : NodeEvent M) → n < known.nodes → i < length (known.events n) → at n i ≡ e
      → IsWhole known.step e (past known.note known.step h n i)
  is-whole n i e low hi is = subst (λ (f : NodeEvent M). IsWhole known.step f (past known.note known.step h n i)) is
      (subst (IsWhole known.step (at n i)) (sym
      (past-front known.note known.step known.first life known.lost known.events n i (omega (arith, hi))))
      (whole-at known.note known.step (known.events n) (opening (known.first n) (life n)) i hi
      (known.accounts.whole n low)))

  -- who is to come back does so, if the run comes to it
  back-by : (n i w : ℕ) → n < known.nodes → i + 1 ≡ length (known.events n) → is_death (at n i) ≡ true
      → known.back n ≡ Some w
      → nat_lt w known.beats ≡ true → ⊥
  back-by n i w low last died is soon =
      let there : again n ≡ Some w = ap (death_within known.beats) is ∙ ap (λ t. cond t (Some w) None) soon in
      let t = (two known n low w there).1 in
      let one = t.front ++ t.last ∷ [] in
      let hi : i < length (known.events n) = omega (arith, last) in
      let place = subst (λ es. i < length es → is_death (event_at es i) ≡ true → i ≡ length t.front)
      (sym (t.parts ∙ append_assoc t.front (t.last ∷ []) (Returns (known.when n w) ∷ t.rest)))
      (death-place t.front (Returns (known.when n w) ∷ t.rest) t.last i t.alive (refl, t.alive_rest)) hi died in
      let both = ap length t.parts ∙ length-both one (Returns (known.when n w) ∷ t.rest) in
      let long = length-one t.front t.last in
      omega (arith, last, place, both, long)

  pub complete-lives : IsComplete known.note known.step known.nodes known.beats
      (history_of known.first (λ n. lived (known.death n) (known.left n) (known.back n)) known.lost known.events)
  complete-lives = record {
    early = λ n i low hi. all-at (λ e. (stamp_at e).beat < known.beats) (known.events n) i hi
        (known.accounts.timeline n low).early;
    acting = λ n i input low hi is. (
      acts-at n i low hi ∙ ap (λ (e : NodeEvent M). acts (life n) (stamp_at e).beat) is
          ∙ lived-at n i (Does input) low hi is,
      is-whole n i (Does input) low hi is,
    );
    ending = λ n i sends input low hi is. (
      acts-at n i low hi ∙ ap (λ (e : NodeEvent M). acts (life n) (stamp_at e).beat) is
          ∙ (lived-at n i (Ends input sends) low hi is).0,
      is-whole n i (Ends input sends) low hi is,
    );
    dying = λ n i stamp low hi is. (
      ap (λ (e : NodeEvent M). acts (lives_at n i) (stamp_at e).beat) (sym is) ∙ acts-at n i low hi
          ∙ ap (λ (e : NodeEvent M). acts (life n) (stamp_at e).beat) is ∙ (lived-at n i (Dies stamp) low hi is).0,
      dies-of (life n) (lives_at n i) stamp.beat (front-life n i hi) ∙ (lived-at n i (Dies stamp) low hi is).1,
    );
    returning = λ n i stamp low hi is.
        returns-of (life n) (lives_at n i) stamp.beat (front-life n i hi) ∙ lived-at n i (Returns stamp) low hi is;
    until_end = up-total known;
    comes_back = λ n i w low last died is.
        let hi : i < length (known.events n) = omega (arith, last) in
        let mine : known.back n ≡ Some w = sym (front-life n i hi).back ∙ is in
        ⊎_elim
        (λ (soon : w < known.beats). absurd (back-by n i w low last died mine (grind (arith, nat_tests, soon))))
        (λ (late : known.beats ≤ w). late)
        (cases_lt w known.beats);
  }
