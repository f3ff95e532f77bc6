-- The order of all entries and the facts: what each entry tells, and where each fact has its entry.
use Rattle.std.proofs.Common.{◌≡◌, ℕ, ◌<◌, ◌≤◌, List, ◌∷◌, ◌++◌, filter, length, true, Some, refl, sym, ap, subst, ◌∙◌, arith, ⊎_elim, inl, inr, append_assoc}
use Rattle.std.specs.Prelude.{◌==◌, slice_get}
use Rattle.std.proofs.lemmas.Bool.{eqb-true, eq-eqb}
use Rattle.tiger_base.specs.declared.tenancy.Tenancy.{Tenancy}
use Rattle.slot_plan.specs.declared.params.Params.{Params}
use Rattle.node_kit.specs.declared.course.Order.{Order}
use Rattle.node_kit.specs.declared.journal.What.{What}
use Rattle.node_kit.specs.declared.journal.What.TheVariants as what
use Rattle.node_kit.specs.declared.journal.Entry.{Entry}
use Rattle.run_facts.specs.Order.{Noted, beat_of, journal_of, order_of, IsNotAfter}
use Rattle.run_facts.specs.Timed.{is_died}
use Rattle.run_facts.specs.Accounts.{Rising}
use Rattle.run_model.specs.Moments.{is_put_of}
use Rattle.proof_schedule.specs.Facts.{Facts, GoneBefore}
use Rattle.lists.specs.Elements.{In}
use Rattle.proof_moments.specs.Ties.{StandsIn, IsLogged, IsGoneOf}
use Rattle.proof_moments.specs.Recorded.{IsRecorded}
use Rattle.proof_moments.proofs.Lists.{one_passes}
use Rattle.lists.proofs.Elements.{in_left, in_right, in_cases, in_map, from_map, in_filter, from_filter}
use Rattle.proof_moments.proofs.Sorted.{sorted_rises, not_above}
use Rattle.proof_moments.proofs.Orders.{noted_at, of_order, into_order, order_sorted, journal_joined, order_has_front}

pub put_is : (v : ℕ) (w : What) → is_put_of v w ≡ true → (t : Tenancy) × (w ≡ what.Put t) × (t.instance.0 ≡ v)
put_is v (what.Put t) e = (t, refl, eqb-true _ _ e)
put_is v other e = absurd (cc)

pub died_is : (w : What) → is_died w ≡ true → w ≡ what.Died
died_is what.Died e = refl
died_is other e = absurd (cc)

-- a node's entry in a front of the order stands there with its node, and the other way round
pub noted_there : (n : ℕ) (front : List Noted) (e : Entry) → In e (journal_of n front) → (y : Noted) × In y front × (y.node ≡ n) × (y.entry ≡ e)
noted_there n front e i =
    let m = from_map (λ (x : Noted). x.entry) e (filter (λ (x : Noted). x.node == n) front) i in
    let f = from_filter (λ (y : Noted). y.node == n) m.0 front m.1 in
    (m.0, f.0, eqb-true _ _ f.1, sym m.2)

pub in_journal : (n : ℕ) (front : List Noted) (y : Noted) → In y front → y.node ≡ n → In y.entry (journal_of n front)
in_journal n front y i q = in_map (λ (x : Noted). x.entry) y (filter (λ (x : Noted). x.node == n) front) (in_filter (λ (x : Noted). x.node == n) y front i (eq-eqb _ _ q))

pub own_first : (x : Noted) (back : List Noted) → journal_of x.node (x ∷ back) ≡ x.entry ∷ journal_of x.node back
own_first x back = let t : (x.node == x.node) ≡ true = eq-eqb x.node x.node refl in rw t refl

module _ (p : Params) (r : Facts) (orders : List Order) (journals : List (List Entry)) (w : IsRecorded p r orders journals) (beats : ℕ) where
  abbrev log : List Noted
  log = order_of beats journals

  pub stands : (x : Noted) → In x (order_of beats journals) → StandsIn journals x.node x.entry
  stands x i = (of_order 0 beats journals x i).stands

  pub below : (x : Noted) → In x (order_of beats journals) → beat_of x < beats
  below x i = let l = (of_order 0 beats journals x i).high in omega arith

  pub noted : (n : ℕ) (e : Entry) → StandsIn journals n e → e.stamp.beat < beats → In (noted_at n e) (order_of beats journals)
  noted n e s l = into_order 0 beats journals n e s (omega arith) (omega arith)

  pub rising : Rising beat_of (order_of beats journals)
  rising = sorted_rises IsNotAfter beat_of (λ x y q. ⊎_elim (λ l. let g : beat_of x ≤ beat_of y = omega arith in g) (λ e. let e0 = e.0 in let g : beat_of x ≤ beat_of y = omega arith in g) q) (order_of beats journals) (order_sorted 0 beats journals)

  -- a fact of one of the order's beats has its entry there
  pub record IsNoted (n b : ℕ) (Is : Entry → Type 0) : Type 0 where
    pub entry : Noted
    pub there : In entry (order_of beats journals)
    pub node : entry.node ≡ n
    pub beat : beat_of entry ≡ b
    pub is : Is entry.entry

  pub logged : (n b : ℕ) (Is : Entry → Type 0) → IsLogged journals n b Is → b < beats → IsNoted n b Is
  logged n b Is k l =
      let e : Entry = k.entry in
      let q = k.beat in
      record { entry = noted_at n e; there = noted n e k.stands (omega arith); node = refl; beat = q; is = k.is }

  -- at a cut of the order
  module _ (front back : List Noted) (is_log : front ++ back ≡ order_of beats journals) where
    pub in_log : (x : Noted) → In x front → In x (order_of beats journals)
    in_log x i = subst (λ (l : List Noted). In x l) is_log (in_left x front back i)

    pub rises : Rising beat_of (front ++ back)
    rises = subst (λ (l : List Noted). Rising beat_of l) (sym is_log) rising

    -- what is of a lower beat than an entry of the front stands in the front
    pub lower : (z y : Noted) → In z front → In y (order_of beats journals) → beat_of y < beat_of z → In y front
    lower z y i k l = ⊎_elim (λ q. q)
        (λ q. let h = not_above beat_of front back z y rises i q in absurd (omega arith))
        (in_cases y front back (subst (λ (x : List Noted). In y x) (sym is_log) k))

    -- a journal is what the front has of it, and a rest
    pub journal_cut : (n : ℕ) (j : List Entry) → slice_get journals n ≡ Some j → (rest : List Entry) × (journal_of n front ++ (journal_of n back ++ rest) ≡ j) × ((e : Entry) → In e rest → beats ≤ e.stamp.beat)
    journal_cut n j at =
        let f = order_has_front beats journals n j at (w.keeps.rising n j at) in (
          f.rest,
          sym (append_assoc (journal_of n front) (journal_of n back) f.rest)
              ∙ ap (λ (l : List Entry). l ++ f.rest) (sym (journal_joined n front back) ∙ ap (journal_of n) is_log)
              ∙ f.is,
          f.late,
        )

    -- a stop of a lower beat than an entry of the front stands there
    pub gone_there : (v : ℕ) (z : Noted) → In z front → GoneBefore r v (beat_of z) → (y : Noted) × In y front × IsGoneOf v y.entry
    gone_there v z i g =
        let l = below z (in_log z i) in
        let b = g.before in
        let k = w.logged.gone v g.beat g.gone in
        let y = logged k.0 g.beat (IsGoneOf v) k.1 (omega arith) in
        let yb = y.beat in
        (y.entry, lower z y.entry i y.there (omega arith), y.is)

    -- and so does a death, in the journal of who died
    pub death_in : (c : ℕ) (z : Noted) → In z front → (a : ℕ) → r.Died c a → a < beat_of z
        → (e : Entry) × In e (journal_of c front) × ((e.what ≡ what.Died) × (e.stamp.beat ≡ a))
    death_in c z i a d b =
        let l = below z (in_log z i) in
        let y = logged c a (λ e. e.what ≡ what.Died) (w.logged.died c a d) (omega arith) in
        let yb = y.beat in
        let there = lower z y.entry i y.there (omega arith) in
        (y.entry.entry, in_journal c front y.entry there y.node, (y.is, yb))

  -- an instance is put once: no Put of it stands behind another
  pub put_once : (front back : List Noted) (x y : Noted) (t u : Tenancy) → front ++ x ∷ back ≡ order_of beats journals → In y back → x.entry.what ≡ what.Put t → y.entry.what ≡ what.Put u → u.instance.0 ≡ t.instance.0 → ⊥
  put_once front back x y t u is_log i x_put y_put same =
      let x_in : In x (order_of beats journals) = subst (λ (l : List Noted). In x l) is_log (in_right x front (x ∷ back) (inl refl)) in
      let y_in : In y (order_of beats journals) = subst (λ (l : List Noted). In y l) is_log (in_right y front (x ∷ back) (inr i)) in
      let s = stands x x_in in
      let q = w.one.once x.node y.node (beat_of x) (beat_of y) t u (w.tells.put x.node x.entry t s x_put).put (w.tells.put y.node y.entry u (stands y y_in) y_put).put same in
      let cut = journal_cut front (x ∷ back) is_log x.node s.journal s.at in
      let tail : List Entry = journal_of x.node back ++ cut.0 in
      let whole : journal_of x.node front ++ x.entry ∷ tail ≡ s.journal = ap (λ (l : List Entry). journal_of x.node front ++ (l ++ cut.0)) (sym (own_first x back)) ∙ cut.1 in
      let behind : In y.entry tail = in_left y.entry (journal_of x.node back) cut.0 (in_journal x.node back y i q.0) in
      let later = w.keeps.one_put x.node (journal_of x.node front) tail x.entry y.entry t u (s.at ∙ ap (λ (l : List Entry). Some l) (sym whole)) x_put behind y_put same in
      let same_beat = q.2 in
      absurd (omega arith)

  -- so of the whole order one entry at most puts it
  pub one_puts : (v : ℕ) → length (filter (λ (x : Noted). is_put_of v x.entry.what) (order_of beats journals)) ≤ 1
  one_puts v = one_passes (λ (x : Noted). is_put_of v x.entry.what) (order_of beats journals)
      (λ front back x y is i t s.
      let a = put_is v x.entry.what t in
      let b = put_is v y.entry.what s in
      put_once front back x y a.0 b.0 is i a.1 b.1 (b.2 ∙ sym a.2))
