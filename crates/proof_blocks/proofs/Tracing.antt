-- The lines of a cub along its life: each was taken and stays since, and its mark tells that its block was asked for.
use Rattle.std.proofs.Common.{◌≡◌, ℕ, zero, suc, ◌+◌, ◌<◌, ◌≤◌, true, false, refl, sym, ap, subst, ◌∙◌, ⊎_elim, inl, inr, arith}
use Rattle.std.specs.Prelude.{◌⊎◌}
use Rattle.std.proofs.lemmas.Bool.{cases_Bool, cases_lt}
use Rattle.tiger_base.specs.declared.number.Stamp.{Stamp}
use Rattle.tiger_base.specs.declared.tenancy.Rec.{Rec}
use Rattle.tiger_base.specs.declared.message.Msg.{Msg}
use Rattle.tiger_base.specs.Kinds.{is_own}
use Rattle.slot_plan.specs.declared.params.Params.{Params}
use Rattle.slot_plan.specs.Times.{due}
use Rattle.node_kit.specs.Steps.{Input}
use Rattle.node_kit.specs.Steps.Input.{Take, Tick}
use Rattle.partial_view.specs.declared.line.Line.{Line}
use Rattle.cub_rules.specs.declared.store.Store.{Store}
use Rattle.cub_rules.specs.Ticks.{must_read}
use Rattle.proof_lives.proofs.HoldLaws.{no_both}
use Rattle.proof_lives.specs.Lives.{deed_of, store_at, outs_at}
use Rattle.lists.specs.Elements.{In}
use Rattle.proof_lives.proofs.Moves.{taken_out}
use Rattle.proof_lives.proofs.States.{from_tick}
use Rattle.proof_facts.specs.Pieces.{before_reading}
use Rattle.proof_blocks.specs.Marks.{AskedBefore, WasEarly}
use Rattle.proof_blocks.proofs.Marks.{taking_none, before_none, before_out, IsLeft, ticking_left, asked_line, unread_early, unserved_early}

module _ (p : Params) (c : ℕ) (inputs : ℕ → Input Msg) where
  -- A line's record was there before an input, and without a mark if the line has none.
  pub record Was (i : ℕ) (y : Line) : Type 0 where
    pub line : Line
    pub there : In line (store_at p c inputs i).view.lines
    pub same : y.rec ≡ line.rec
    pub unmarked : y.asked ≡ false → line.asked ≡ false

  was_on : {i : ℕ} (y z : Line) → y.rec ≡ z.rec → (y.asked ≡ false → z.asked ≡ false) → Was i z → Was i y
  was_on y z same mark w =
      record { line = w.line; there = w.there; same = same ∙ w.same; unmarked = λ e. w.unmarked (mark e) }

  -- A line's record was taken at an input before `end`, and it is there before each later input up to number i.
  pub record Trail (end i : ℕ) (y : Line) : Type 0 where
    pub at : ℕ
    pub before : at < end
    pub taken : In (taken_out y.rec) (outs_at p c inputs at)
    pub there : (k : ℕ) → at < k → k ≤ i → Was k y

  -- ---- from input to input

  -- a line that is there when a tick asks
  asking_back : (i : ℕ) (stamp : Stamp) (x : Line) → inputs i ≡ Tick stamp
      → In x (before_reading p c stamp (store_at p c inputs i)).view.lines
      → Was i x ⊎ In (taken_out x.rec) (outs_at p c inputs i)
  asking_back i stamp x is k =
      let h : Store = store_at p c inputs i in
      ⊎_elim
      (λ w. inl (record { line = w.line; there = w.there; same = w.same; unmarked = λ e. sym w.mark ∙ e }))
      (λ w. inr (from_tick p c inputs i stamp (taken_out x.rec) is (before_out p c stamp h (taken_out x.rec) w.taken)))
      ((before_none p c stamp h).back x k)

  -- what a tick leaves has no mark only if it had none before
  left_unmarked : (stamp : Stamp) (h : Store) (y : Line) (l : IsLeft p c stamp h y) → y.asked ≡ false
      → (must_read p stamp l.line ≡ false) × (l.line.asked ≡ false)
  left_unmarked stamp h y l e =
      let f = sym (ap (λ (z : Line). z.asked) l.is) ∙ e in
      ⊎_elim (λ m. absurd (no_both m.1 f)) (λ m. (m.0, sym m.1 ∙ f)) (asked_line p stamp l.line).1

  left_same : (stamp : Stamp) (h : Store) (y : Line) (l : IsLeft p c stamp h y) → y.rec ≡ l.line.rec
  left_same stamp h y l = ap (λ (z : Line). z.rec) l.is ∙ (asked_line p stamp l.line).0

  step_back : (i : ℕ) (q : Input Msg) (y : Line) → inputs i ≡ q
      → In y (deed_of p c q (store_at p c inputs i)).state.view.lines
      → Was i y ⊎ In (taken_out y.rec) (outs_at p c inputs i)
  step_back i (Take stamp link m) y is k =
      let h : Store = store_at p c inputs i in
      ⊎_elim
      (λ w. inl (record { line = w.line; there = w.there; same = w.same; unmarked = λ e. sym w.mark ∙ e }))
      (λ w. inr (subst (λ (q : Input Msg). In (taken_out y.rec) (deed_of p c q h).outs) (sym is) w.taken))
      ((taking_none p c stamp link m h).back y k)
  step_back i (Tick stamp) y is k =
      let h : Store = store_at p c inputs i in
      let l = ticking_left p c stamp h y k in
      let same = left_same stamp h y l in
      ⊎_elim
      (λ w. inl (was_on y l.line same (λ e. (left_unmarked stamp h y l e).1) w))
      (λ w. inr (subst (λ (r : Rec). In (taken_out r) (outs_at p c inputs i)) (sym same) w))
      (asking_back i stamp l.line is l.there)

  -- ---- along the life

  was_now : (i : ℕ) (y : Line) → In y (store_at p c inputs i).view.lines → Was i y
  was_now i y k = record { line = y; there = k; same = refl; unmarked = λ e. e }

  more_trail : (end i : ℕ) (y z : Line) → y.rec ≡ z.rec → (y.asked ≡ false → z.asked ≡ false) → i ≤ end → Trail i i z
      → ((k : ℕ) → i < k → k ≤ end → Was k y) → Trail (suc i) end y
  more_trail end i y z same mark low d last =
      let before = d.before in
      record {
        at = d.at;
        before = omega arith;
        taken = subst (λ (r : Rec). In (taken_out r) (outs_at p c inputs d.at)) (sym same) d.taken;
        there = λ k l le. ⊎_elim
            (λ (e : i < k). last k e le)
            (λ (e : k ≤ i). was_on y z same mark (d.there k l e))
            (cases_lt i k);
      }

  pub trail : (i : ℕ) (y : Line) → In y (store_at p c inputs i).view.lines → Trail i i y
  trail zero y k = absurd k
  trail (suc i) y k = ⊎_elim
      (λ w.
      more_trail (suc i) i y w.line w.same w.unmarked (omega arith) (trail i w.line w.there)
      (λ n l le. at_end n (omega arith)))
      (λ t. record { at = i; before = omega arith; taken = t; there = λ n l le. at_end n (omega arith) })
      (step_back i (inputs i) y refl k)
    where
      at_end : (n : ℕ) → suc i ≡ n → Was n y
      at_end n e = subst (λ (m : ℕ). Was m y) e (was_now (suc i) y k)

  -- of a line that is there when a tick asks
  pub asking_trail : (i : ℕ) (stamp : Stamp) (x : Line) → inputs i ≡ Tick stamp
      → In x (before_reading p c stamp (store_at p c inputs i)).view.lines → Trail (suc i) i x
  asking_trail i stamp x is k = ⊎_elim
      (λ w. more_trail i i x w.line w.same w.unmarked (omega arith) (trail i w.line w.there)
      (λ n l le. absurd (omega arith)))
      (λ t. record { at = i; before = omega arith; taken = t; there = λ n l le. absurd (omega arith) })
      (asking_back i stamp x is k)

  -- ---- ticks since a line was taken

  left_at : (k : ℕ) (stamp : Stamp) (z : Line) → inputs k ≡ Tick stamp → In z (store_at p c inputs (suc k)).view.lines
      → IsLeft p c stamp (store_at p c inputs k) z
  left_at k stamp z is i =
      ticking_left p c stamp (store_at p c inputs k) z
      (subst (λ (q : Input Msg). In z (deed_of p c q (store_at p c inputs k)).state.view.lines) is i)

  -- at none of them was an own record due that is still there
  pub trail_undue : (end i : ℕ) (y : Line) (d : Trail end i y) → is_own y.rec.kind ≡ true → (k : ℕ) (stamp : Stamp)
      → inputs k ≡ Tick stamp → d.at ≤ k → k < i → stamp.reading < due p y.rec.tenancy.slot.0 y.rec.visit
  trail_undue end i y d own k stamp is from low =
      let w = d.there (suc k) (omega arith) (omega arith) in
      let l = left_at k stamp w.line is w.there in
      subst (λ (r : Rec). stamp.reading < due p r.tenancy.slot.0 r.visit) (sym w.same)
      (unserved_early p stamp w.line (subst (λ (r : Rec). is_own r.kind ≡ true) w.same own) l.undue)

  -- and none of them asked for it if it has no mark, so it was not due within the read lead
  pub trail_unread : (end i : ℕ) (y : Line) (d : Trail end i y) → is_own y.rec.kind ≡ true → y.asked ≡ false
      → (k : ℕ) (stamp : Stamp)
      → inputs k ≡ Tick stamp → d.at ≤ k → k < i → stamp.reading + p.read_lead < due p y.rec.tenancy.slot.0 y.rec.visit
  trail_unread end i y d own mark k stamp is from low =
      let h : Store = store_at p c inputs k in
      let w = d.there (suc k) (omega arith) (omega arith) in
      let l = left_at k stamp w.line is w.there in
      let m = left_unmarked stamp h w.line l (w.unmarked mark) in
      let same = w.same ∙ left_same stamp h w.line l in
      subst (λ (r : Rec). stamp.reading + p.read_lead < due p r.tenancy.slot.0 r.visit) (sym same)
      (unread_early p stamp l.line (subst (λ (r : Rec). is_own r.kind ≡ true) same own) m.1 m.0)

  -- ---- what a mark tells

  asked_later : {i : ℕ} (y z : Line) → y.rec ≡ z.rec → AskedBefore p c inputs i z → AskedBefore p c inputs (suc i) y
  asked_later y z same a =
      let before = a.before in
      record {
        at = a.at;
        before = omega arith;
        stamp = a.stamp;
        is = a.is;
        line = a.line;
        there = a.there;
        same = same ∙ a.same;
        must = a.must;
      }

  marked_by : (i : ℕ) (q : Input Msg) (y : Line) → inputs i ≡ q
      → ((x : Line) → In x (store_at p c inputs i).view.lines → x.asked ≡ true → AskedBefore p c inputs i x)
      → In y (deed_of p c q (store_at p c inputs i)).state.view.lines → y.asked ≡ true
      → AskedBefore p c inputs (suc i) y
  marked_by i (Take stamp link m) y is below k mark = ⊎_elim
      (λ w. asked_later y w.line w.same (below w.line w.there (sym w.mark ∙ mark)))
      (λ w. absurd (no_both mark w.mark))
      ((taking_none p c stamp link m (store_at p c inputs i)).back y k)
  marked_by i (Tick stamp) y is below k mark =
      let h : Store = store_at p c inputs i in
      let l = ticking_left p c stamp h y k in
      let same = left_same stamp h y l in
      ⊎_elim
      (λ m. record {
        at = i;
        before = omega arith;
        stamp = stamp;
        is = is;
        line = l.line;
        there = l.there;
        same = same;
        must = m.0;
      })
      (λ m.
      let old : l.line.asked ≡ true = sym m.1 ∙ (sym (ap (λ (z : Line). z.asked) l.is) ∙ mark) in
      ⊎_elim
      (λ w. asked_later y w.line (same ∙ w.same) (below w.line w.there (sym w.mark ∙ old)))
      (λ w. absurd (no_both old w.mark))
      ((before_none p c stamp h).back l.line l.there))
      (asked_line p stamp l.line).1

  -- who has a mark was asked for
  pub marked : (i : ℕ) (y : Line) → In y (store_at p c inputs i).view.lines → y.asked ≡ true
      → AskedBefore p c inputs i y
  marked zero y k mark = absurd k
  marked (suc i) y k mark = marked_by i (inputs i) y refl (marked i) k mark

  -- and who has none was early at each tick
  pub marks_tell : (i : ℕ) (y : Line) → In y (store_at p c inputs i).view.lines → is_own y.rec.kind ≡ true
      → ((y.asked ≡ true) × AskedBefore p c inputs i y) ⊎ ((y.asked ≡ false) × WasEarly p c inputs i y)
  marks_tell i y k own = ⊎_elim
      (λ (e : y.asked ≡ true). inl (e, marked i y k e))
      (λ (e : y.asked ≡ false).
      let d = trail i y k in
      inr (
        e,
        record {
          at = d.at;
          before = d.before;
          taken = d.taken;
          early = λ n stamp from low is. trail_unread i i y d own e n stamp is from low;
        },
      ))
      (cases_Bool y.asked)
