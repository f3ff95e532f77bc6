-- What an entry puts into each table is what it tells.
use Rattle.std.proofs.Common.{◌≡◌, ℕ, ◌*◌, ◌<◌, ◌≤◌, Bool, true, false, ◌&&◌, ◌||◌, ◌==◌, nat_lt, cond, List, [], ◌∷◌, ◌++◌, Option, Some, None, refl, ap, sym, ◌∙◌, ⊎_elim, append-nil, arith, if◌then◌else◌}
use Rattle.std.proofs.lemmas.Bool.{eqb-true, lt-ltb, ltb-true, both_ways, cases_lt}
use Rattle.tiger_base.specs.declared.number.Instance.{Instance}
use Rattle.tiger_base.specs.declared.tenancy.Tenancy.{Tenancy}
use Rattle.tiger_base.specs.declared.tenancy.Want.{Want}
use Rattle.slot_plan.specs.declared.params.Params.{Params}
use Rattle.slot_plan.specs.Times.{cub_of, time_of}
use Rattle.node_kit.specs.declared.journal.What.{What}
use Rattle.node_kit.specs.declared.journal.What.TheVariants as what
use Rattle.run_facts.specs.Commanded.{is_gone_of}
use Rattle.run_facts.specs.Order.{Noted, beat_of}
use Rattle.run_facts.specs.Timed.{is_died, is_returned}
use Rattle.run_model.specs.Tests.{is_failed_read}
use Rattle.audit_blocks.specs.Entries.{put_for, death_of_node, return_of_node, is_at_cub, is_whole_of}
use Rattle.audit_blocks.specs.Told.{is_stop_below, earlier_stop}
use Rattle.audit_blocks.proofs.Adding.{or_false, and_true, and_false}

-- ---- Puts

pub put_kept : (v : ℕ) (t : Tenancy) (w : What) (old new : List Tenancy) → w ≡ what.Put t
    → new ≡ old ++ (if t.instance.0 == v then t ∷ [] else []) → new ≡ old ++ put_for v w
put_kept v t w old new is e = e ∙ ap (λ (q : What). old ++ put_for v q) (sym is)

no_put : (v : ℕ) (w : What) → ((t : Tenancy) → w ≡ what.Put t → ⊥) → put_for v w ≡ []
no_put v (what.Put t) h = absurd (h t refl)
no_put v other h = refl

pub put_left : (v : ℕ) (w : What) (old : List Tenancy) → ((t : Tenancy) → w ≡ what.Put t → ⊥) → old ≡ old ++ put_for v w
put_left v w old not_put = sym (ap (λ (q : List Tenancy). old ++ q) (no_put v w not_put) ∙ append-nil old)

-- ---- deaths

pub death_kept : (n : ℕ) (x : Noted) (old new : List ℕ) → x.entry.what ≡ what.Died
    → new ≡ old ++ (if x.node == n then beat_of x ∷ [] else []) → new ≡ old ++ death_of_node n x
death_kept n x old new is e =
    e ∙ sym (ap (λ (w : What). old ++ cond ((x.node == n) && is_died w) (beat_of x ∷ []) []) is
    ∙ ap (λ (b : Bool). old ++ cond b (beat_of x ∷ []) []) (and_true (x.node == n)))

not_died : (w : What) → (w ≡ what.Died → ⊥) → is_died w ≡ false
not_died what.Died h = absurd (h refl)
not_died other h = refl

pub death_left : (n : ℕ) (x : Noted) (old : List ℕ) → (x.entry.what ≡ what.Died → ⊥) → old ≡ old ++ death_of_node n x
death_left n x old alive =
    sym (ap (λ (b : Bool). old ++ cond ((x.node == n) && b) (beat_of x ∷ []) []) (not_died x.entry.what alive)
    ∙ (ap (λ (b : Bool). old ++ cond b (beat_of x ∷ []) []) (and_false (x.node == n)) ∙ append-nil old))

-- ---- returns

pub return_kept : (n : ℕ) (x : Noted) (old new : List ℕ) → x.entry.what ≡ what.Returned
    → new ≡ old ++ (if x.node == n then x.entry.stamp.reading ∷ [] else []) → new ≡ old ++ return_of_node n x
return_kept n x old new is e =
    e ∙ sym (ap (λ (w : What). old ++ cond ((x.node == n) && is_returned w) (x.entry.stamp.reading ∷ []) []) is
    ∙ ap (λ (b : Bool). old ++ cond b (x.entry.stamp.reading ∷ []) []) (and_true (x.node == n)))

not_returned : (w : What) → (w ≡ what.Returned → ⊥) → is_returned w ≡ false
not_returned what.Returned h = absurd (h refl)
not_returned other h = refl

pub return_left : (n : ℕ) (x : Noted) (old : List ℕ) → (x.entry.what ≡ what.Returned → ⊥) → old ≡ old ++ return_of_node n x
return_left n x old not_back =
    sym (ap (λ (b : Bool). old ++ cond ((x.node == n) && b) (x.entry.stamp.reading ∷ []) []) (not_returned x.entry.what not_back)
    ∙ (ap (λ (b : Bool). old ++ cond b (x.entry.stamp.reading ∷ []) []) (and_false (x.node == n)) ∙ append-nil old))

-- ---- stops

times_rise : (p : Params) (a b : ℕ) → a ≤ b → time_of p a ≤ time_of p b
unfolding time_of
times_rise p a b le = grow p.beat a b le
  where
    grow : (k m n : ℕ) → m ≤ n → m * k ≤ n * k
    grow k m n l = grind (arith, l)

either_below : (s t time : ℕ) → s ≤ t → nat_lt s time ≡ (nat_lt t time || nat_lt s time)
either_below s t time le = go (nat_lt t time) (nat_lt s time) refl refl where
  go : (x y : Bool) → nat_lt t time ≡ x → nat_lt s time ≡ y → y ≡ (x || y)
  go true true e f = refl
  go false y e f = refl
  go true false e f =
      let l : t < time = ltb-true t time e in
      absurd (both_ways (nat_lt s time) f (lt-ltb s time (omega (arith, l, le))))

first_below : (s t time : ℕ) → s ≤ t → nat_lt s time ≡ (nat_lt s time || nat_lt t time)
first_below s t time le = go (nat_lt s time) (nat_lt t time) refl refl where
  go : (x y : Bool) → nat_lt s time ≡ x → nat_lt t time ≡ y → x ≡ (x || y)
  go true y e f = refl
  go false false e f = refl
  go false true e f =
      let l : t < time = ltb-true t time f in
      absurd (both_ways (nat_lt s time) e (lt-ltb s time (omega (arith, l, le))))

earlier_below : (p : Params) (time : ℕ) (kept : Option ℕ) (beat : ℕ)
    → is_stop_below p time (Some (earlier_stop kept beat)) ≡ (is_stop_below p time kept || nat_lt (time_of p beat) time)
earlier_below p time None beat = refl
earlier_below p time (Some other) beat = go (nat_lt beat other) refl where
  go : (b : Bool) → nat_lt beat other ≡ b
      → nat_lt (time_of p (cond b beat other)) time ≡ (nat_lt (time_of p other) time || nat_lt (time_of p beat) time)
  go true e =
      let l : beat < other = ltb-true beat other e in
      either_below (time_of p beat) (time_of p other) time (times_rise p beat other (omega (arith, l)))
  go false e = ⊎_elim
      (λ (l : beat < other). absurd (both_ways (nat_lt beat other) e (lt-ltb beat other l)))
      (λ (g : other ≤ beat). first_below (time_of p other) (time_of p beat) time (times_rise p other beat g))
      (cases_lt beat other)

pub stop_kept : (p : Params) (q time beat : ℕ) (v : Instance) (w : What) (marks : ℕ → Option ℕ) (new : Option ℕ) → w ≡ what.Gone v
    → new ≡ (if v.0 == q then Some (earlier_stop (marks v.0) beat) else marks q)
    → is_stop_below p time new ≡ (is_stop_below p time (marks q) || (is_gone_of q w && nat_lt (time_of p beat) time))
stop_kept p q time beat v w marks new is e =
    ap (is_stop_below p time) e ∙ (by (v.0 == q) refl
    ∙ ap (λ (u : What). is_stop_below p time (marks q) || (is_gone_of q u && nat_lt (time_of p beat) time)) (sym is))
  where
    by : (b : Bool) → (v.0 == q) ≡ b
        → is_stop_below p time (cond b (Some (earlier_stop (marks v.0) beat)) (marks q))
        ≡ (is_stop_below p time (marks q) || ((v.0 == q) && nat_lt (time_of p beat) time))
    by true f =
        earlier_below p time (marks v.0) beat
        ∙ (ap (λ (k : ℕ). is_stop_below p time (marks k) || nat_lt (time_of p beat) time) (eqb-true v.0 q f)
        ∙ ap (λ (b : Bool). is_stop_below p time (marks q) || (b && nat_lt (time_of p beat) time)) (sym f))
    by false f =
        sym (ap (λ (b : Bool). is_stop_below p time (marks q) || (b && nat_lt (time_of p beat) time)) f ∙ or_false (is_stop_below p time (marks q)))

not_gone : (q : ℕ) (w : What) → ((v : Instance) → w ≡ what.Gone v → ⊥) → is_gone_of q w ≡ false
not_gone q (what.Gone v) h = absurd (h v refl)
not_gone q other h = refl

pub stop_left : (q : ℕ) (w : What) (was below : Bool) → ((v : Instance) → w ≡ what.Gone v → ⊥) → was ≡ (was || (is_gone_of q w && below))
stop_left q w was below never =
    sym (ap (λ (b : Bool). was || (b && below)) (not_gone q w never) ∙ or_false was)

-- ---- reads

pub read_kept : (v n k : ℕ) (want : Want) (w : What) (was is : Bool) → w ≡ what.ReadFailed want
    → is ≡ (was || ((want.instance.0 == v) && (want.visit == n) && (want.piece == k)))
    → is ≡ (was || is_failed_read v n k w)
read_kept v n k want w was is at e = e ∙ ap (λ (q : What). was || is_failed_read v n k q) (sym at)

not_failed : (v n k : ℕ) (w : What) → ((want : Want) → w ≡ what.ReadFailed want → ⊥) → is_failed_read v n k w ≡ false
not_failed v n k (what.ReadFailed want) h = absurd (h want refl)
not_failed v n k other h = refl

pub read_left : (v n k : ℕ) (w : What) (was : Bool) → ((want : Want) → w ≡ what.ReadFailed want → ⊥) → was ≡ (was || is_failed_read v n k w)
read_left v n k w was never = sym (ap (λ (b : Bool). was || b) (not_failed v n k w never) ∙ or_false was)

pub cub_kept : (p : Params) (node v n : ℕ) (want : Want) (w : What) (was is : Bool) → w ≡ what.ReadFailed want
    → is ≡ (was || is_whole_of p node v n want) → is ≡ (was || ((node == cub_of p n) && is_failed_read v n 0 w))
cub_kept p node v n want w was is at e = e ∙ ap (λ (q : What). was || ((node == cub_of p n) && is_failed_read v n 0 q)) (sym at)

pub cub_left : (p : Params) (node v n : ℕ) (w : What) (was : Bool) → ((want : Want) → w ≡ what.ReadFailed want → ⊥)
    → was ≡ (was || ((node == cub_of p n) && is_failed_read v n 0 w))
cub_left p node v n w was never =
    sym (ap (λ (b : Bool). was || ((node == cub_of p n) && b)) (not_failed v n 0 w never)
    ∙ (ap (λ (b : Bool). was || b) (and_false (node == cub_of p n)) ∙ or_false was))

at_cub_same : (p : Params) (node v n : ℕ) (want : Want)
    → (((want.instance.0 == v) && (want.visit == n) && true) && is_at_cub p node want) ≡ is_whole_of p node v n want
at_cub_same p node v n want = go (want.visit == n) refl where
  shuffled : (a c z : Bool) → (((a && true) && true) && (c && z)) ≡ (c && ((a && true) && z))
  shuffled true true z = refl
  shuffled true false z = refl
  shuffled false true z = refl
  shuffled false false z = refl

  dropped : (a c z r : Bool) → (((a && false) && true) && r) ≡ (c && ((a && false) && z))
  dropped true true z r = refl
  dropped true false z r = refl
  dropped false true z r = refl
  dropped false false z r = refl

  go : (b : Bool) → (want.visit == n) ≡ b
      → (((want.instance.0 == v) && b && true) && is_at_cub p node want)
      ≡ ((node == cub_of p n) && ((want.instance.0 == v) && b && (want.piece == 0)))
  go true e =
      ap (λ (k : ℕ). (((want.instance.0 == v) && true) && true) && ((node == cub_of p k) && (want.piece == 0))) (eqb-true want.visit n e)
      ∙ shuffled (want.instance.0 == v) (node == cub_of p n) (want.piece == 0)
  go false e = dropped (want.instance.0 == v) (node == cub_of p n) (want.piece == 0) (is_at_cub p node want)

and_given : (a b : Bool) → b ≡ true → (a && b) ≡ a
and_given true b e = e
and_given false b e = refl

and_refused : (a b : Bool) → b ≡ false → (a && b) ≡ false
and_refused true b e = e
and_refused false b e = refl

pub at_cub_taken : (p : Params) (node v n : ℕ) (want : Want) (r was is : Bool) → r ≡ is_at_cub p node want → r ≡ true
    → is ≡ (was || ((want.instance.0 == v) && (want.visit == n) && true)) → is ≡ (was || is_whole_of p node v n want)
at_cub_taken p node v n want r was is e t added =
    added ∙ ap (λ (b : Bool). was || b)
    (sym (and_given ((want.instance.0 == v) && (want.visit == n) && true) (is_at_cub p node want) (sym e ∙ t)) ∙ at_cub_same p node v n want)

pub at_cub_left : (p : Params) (node v n : ℕ) (want : Want) (r was : Bool) → r ≡ is_at_cub p node want → r ≡ false
    → was ≡ (was || is_whole_of p node v n want)
at_cub_left p node v n want r was e t =
    sym (ap (λ (b : Bool). was || b)
    (sym (at_cub_same p node v n want)
    ∙ and_refused ((want.instance.0 == v) && (want.visit == n) && true) (is_at_cub p node want) (sym e ∙ t))
    ∙ or_false was)
