-- Beats that a share does one after another, and what its answer says of them.
use Rattle.std.proofs.Common.{◌≡◌, ℕ, zero, suc, ◌+◌, ◌<◌, ◌≤◌, Bool, true, false, List, [], ◌∷◌, ◌++◌, length, Option, Some, None, refl, ap, sym, ◌∙◌, subst, arith, length-append, inl, inr}
use Rattle.std.specs.Prelude.{slice_get, is_some, IfSome, MatchOption, ◌==◌}
use Rattle.std.proofs.lemmas.Bool.{false≢true, ne_eqb}
use Rattle.tiger_base.specs.declared.number.LinkNo.{LinkNo}
use Rattle.tiger_base.specs.declared.message.Note.{Note}
use Rattle.node_kit.specs.declared.journal.Entry.{Entry}
use Rattle.node_kit.specs.Courses.{Setting, stamp_by}
use Rattle.node_kit.specs.Life.{Lifetime}
use Rattle.node_kit.specs.Steps.{Input, Deed}
use Rattle.node_kit.proofs.Rows.{get-below}
use Rattle.run_facts.specs.declared.mail.Letter.{Letter}
use Rattle.run_facts.specs.Beats.{after_beat}
use Rattle.run_facts.specs.Events.{Past}
use Rattle.run_facts.specs.Rings.{Ring, IsAt}
use Rattle.ring_cells.specs.Cells.{Seen, ring_in}
use Rattle.ring_cells.specs.Shares.{FirstShort}
use Rattle.ring_cells.specs.Moves.{after_beats_by, HasGoneThrough, HaveLived, DidBeat, DidBeats, DidNothing, IsSameShare, HasMoved, moved_of}

pub none-of : {A : Type 0} (P : Type 0) (Q : A → Type 0) (o : Option A) → is_some o ≡ false → MatchOption o P Q → P
none-of P Q None e h = h
none-of P Q (Some x) e h = absurd (false≢true (sym e))

pub some-of : {A : Type 0} (P : Type 0) (o : Option A) → is_some o ≡ true → IfSome o (λ x. P) → P
some-of P None e h = absurd (false≢true e)
some-of P (Some x) e h = h

module _ {M S : Type 0} where
  pub same-on : (c d e : Seen M S) → IsSameShare c d → IsSameShare d e → IsSameShare c e
  same-on c d e h g = record { number = g.number ∙ h.number; numbers = g.numbers ∙ h.numbers; dials = g.dials ∙ h.dials; beats = g.beats ∙ h.beats }

  -- where nothing was done each member is where it was
  still-at : (c d : Seen M S) → DidNothing c d → (q : ℕ) (past : Past S) → IsAt (ring_in c) q past → IsAt (ring_in d) q past
  still-at c d n q past h = record {
    state = ap (λ (xs : List S). slice_get xs q) n.same_nodes ∙ h.state;
    life = ap (λ (xs : List Lifetime). slice_get xs q) n.same_lives ∙ h.life;
    journal = ap (λ (xs : List (List Entry)). slice_get xs q) n.same_journals ∙ h.journal;
  }

  nothing-on : (c d e : Seen M S) → DidNothing c d → DidNothing d e → DidNothing c e
  nothing-on c d e h g = record { same_next = g.same_next ∙ h.same_next; same_nodes = g.same_nodes ∙ h.same_nodes; same_lives = g.same_lives ∙ h.same_lives; same_journals = g.same_journals ∙ h.same_journals }

  pub nothing-first : (c : Seen M S) → DidNothing c c
  nothing-first c = record { same_next = refl; same_nodes = refl; same_lives = refl; same_journals = refl }

module _ {M S : Type 0} (note : M → Note) (step : S → Input M → Deed M S) where
  -- what one try of a beat has done: it did the beat, or an in-port fell short
  abbrev pub Tried : Option LinkNo → Seen M S → Seen M S → Type 0
  Tried o d e = MatchOption o (DidBeat note step d e) (λ l. DidNothing d e × FirstShort d.next l e.ins)

  beats-append : (k : Setting) (beat : ℕ) (xs ys : List (List (Letter M))) (past : Past S)
      → after_beats_by note step k beat (xs ++ ys) past ≡ after_beats_by note step k (beat + length xs) ys (after_beats_by note step k beat xs past)
  beats-append k beat [] ys past = ap (λ b. after_beats_by note step k b ys past) (let e : beat ≡ beat + 0 = omega arith in e)
  beats-append k beat (x ∷ xs) ys past =
      beats-append k (beat + 1) xs ys (after_beat note step (stamp_by k beat) x past)
      ∙ ap (λ b. after_beats_by note step k b ys (after_beats_by note step k (beat + 1) xs (after_beat note step (stamp_by k beat) x past))) (let e : beat + 1 + length xs ≡ beat + suc (length xs) = omega arith in e)

  -- a whole beat, member for member
  pub did-beat : (c d : Seen M S) (count : ℕ) → HaveLived note step c.dials c.next count (ring_in c) (ring_in d) → length c.nodes ≤ count → d.next ≡ c.next + 1 → DidBeat note step c d
  did-beat c d count lived all further = record {
    each = λ q past k at there. lived.done q past k (let low = get-below c.nodes q past.state at.state in omega (arith, low, all)) at there;
    further = further;
  }

  did-more : (k : ℕ) (c d e : Seen M S) → d.dials ≡ c.dials → DidBeats note step k c d → DidBeat note step d e → DidBeats note step (k + 1) c e
  did-more k c d e dials h b =
      let far = h.further in
      let more = b.further in
      record {
        each = λ q past s at there.
            let w = h.each q past s at there in
            let v = b.each q (after_beats_by note step s c.next w.letters past) s w.here (ap (λ ds. slice_get ds q) dials ∙ there) in
            let count = w.each_beat in
            let one = v.each_beat in
            record {
              letters = w.letters ++ v.letters;
              each_beat = length-append w.letters v.letters ∙ omega (arith, count, one);
              here = subst (λ (x : Past S). IsAt (ring_in e) q x)
                  (ap (λ x. after_beats_by note step s x v.letters (after_beats_by note step s c.next w.letters past)) (let at : d.next ≡ c.next + length w.letters = omega (arith, far, count) in at)
                  ∙ sym (beats-append s c.next w.letters v.letters past)) v.here;
            };
        further = omega (arith, far, more);
      }

  pub did-none : (c : Seen M S) → DidBeats note step 0 c c
  did-none c = record { each = λ q past k at there. record { letters = []; each_beat = refl; here = at }; further = omega arith }

  did-same : (k : ℕ) (c d e : Seen M S) → DidBeats note step k c d → DidNothing d e → DidBeats note step k c e
  did-same k c d e h n = record {
    each = λ q past s at there. (let w = h.each q past s at there in record { letters = w.letters; each_beat = w.each_beat; here = still-at d e n q (after_beats_by note step s c.next w.letters past) w.here });
    further = n.same_next ∙ h.further;
  }

  -- before the first beat nothing was done
  pub record HasDone (k : ℕ) (c d : Seen M S) : Type 0 where
    pub beats : DidBeats note step k c d
    pub none : k ≡ 0 → DidNothing c d

  pub done-none : (c : Seen M S) → HasDone 0 c c
  done-none c = record { beats = did-none c; none = λ e. nothing-first c }

  pub done-on : (k : ℕ) (o : Option LinkNo) (c d e : Seen M S) → d.dials ≡ c.dials → HasDone k c d → is_some o ≡ false → Tried o d e → HasDone (k + 1) c e
  done-on k None c d e dials h s m = record { beats = did-more k c d e dials h.beats m; none = λ z. absurd (omega (arith, z)) }
  done-on k (Some l) c d e dials h s m = absurd (false≢true (sym s))

  moved-short : (k : ℕ) (l : LinkNo) (c d e : Seen M S) → HasDone k c d → d.beats ≡ c.beats → d.next < d.beats → DidNothing d e → FirstShort d.next l e.ins → HasMoved note step (moved_of k (Some l)) c e
  moved-short zero l c d e h same low n f =
      let no = h.none refl in
      let next = no.same_next in
      (nothing-on c d e no n, omega (arith, same, low, next), subst (λ b. FirstShort b l e.ins) next f)
  moved-short (suc k) l c d e h same low n f =
      let z : (suc k == 0) ≡ false = ne_eqb (suc k) 0 (λ z. absurd (omega (arith, z))) in
      rw z (omega arith, did-same (suc k) c d e h.beats n, inr (l, subst (λ b. FirstShort b l e.ins) (sym n.same_next) f))

  pub moved-at : (k : ℕ) (o : Option LinkNo) (c d e : Seen M S) → HasDone k c d → d.beats ≡ c.beats → d.next < d.beats → is_some o ≡ true
      → Tried o d e → HasMoved note step (moved_of k o) c e
  moved-at k None c d e h same low s m = absurd (false≢true s)
  moved-at k (Some l) c d e h same low s m = moved-short k l c d e h same low m.0 m.1

  pub next-on : (o : Option LinkNo) (d e : Seen M S) → is_some o ≡ false → Tried o d e → e.next ≡ d.next + 1
  next-on None d e s m = m.further
  next-on (Some l) d e s m = absurd (false≢true (sym s))

  pub moved-end : (k : ℕ) (c d : Seen M S) → HasDone k c d → d.beats ≡ c.beats → d.beats ≤ d.next → HasMoved note step (moved_of k None) c d
  moved-end zero c d h same all = (let no = h.none refl in (no, (let next = no.same_next in omega (arith, same, all, next))))
  moved-end (suc k) c d h same all =
      let z : (suc k == 0) ≡ false = ne_eqb (suc k) 0 (λ z. absurd (omega (arith, z))) in
      rw z (omega arith, h.beats, inl all)
