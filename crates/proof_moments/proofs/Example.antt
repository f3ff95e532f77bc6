-- The facts of a run in which one viewer is put, and the journal of the cub that put it, meet all ties.
use Rattle.std.proofs.Common.{◌≡◌, ℕ, zero, suc, ◌≤◌, true, false, Some, refl, sym, ap, subst, ◌∙◌, arith, ⊎_elim, inl, inr, append-nil}
use Rattle.std.specs.Prelude.{◌⊎◌, List, [], ◌∷◌, ◌++◌, slice_get, Option, unwrap_or}
use Rattle.std.specs.List.{AllByRecursion, Contains}
use Rattle.std.proofs.lemmas.List.Elements.{All-from_recursion, All-contains}
use Rattle.std.proofs.lemmas.Option.{none-some}
use Rattle.tiger_base.specs.declared.number.CubNo.{CubNo}
use Rattle.tiger_base.specs.declared.tenancy.Ask.{Ask}
use Rattle.tiger_base.specs.declared.tenancy.Rec.{Rec}
use Rattle.tiger_base.specs.declared.tenancy.Tenancy.{Tenancy}
use Rattle.slot_plan.specs.Samples.{small}
use Rattle.slot_plan.specs.Times.{time_of, first_due, due, cub_of}
use Rattle.tiger_base.specs.declared.message.Note.TheVariants as note
use Rattle.node_kit.specs.declared.course.OrderKind.TheVariants as kind
use Rattle.node_kit.specs.declared.journal.Entry.{Entry}
use Rattle.node_kit.specs.declared.journal.What.TheVariants as what
use Rattle.run_facts.specs.Accounts.{Rising}
use Rattle.run_model.specs.Fronts.{AnyByRecursion}
use Rattle.run_model.specs.Orders.{IsOrdered}
use Rattle.run_model.specs.Parts.{Brings, IsForCub}
use Rattle.run_model.specs.Views.{records_of}
use Rattle.proof_schedule.specs.Example.{order, viewer, first_beat, one_put}
use Rattle.proof_schedule.specs.Facts.{Facts, Entered}
use Rattle.proof_schedule.specs.Laws.{Laws}
use Rattle.proof_schedule.specs.Logs.{Fact, facts_in, Ticked, Put, Took, Shows, Begun, Asked, AskedApart, Gone, Died, Returned, Believed}
use Rattle.proof_schedule.proofs.Example as facts
use Rattle.proof_schedule.proofs.Follows.{runs}
use Rattle.lists.specs.Elements.{In}
use Rattle.proof_moments.specs.Ties.{StandsIn, IsPutAt, IsBeliefAt, IsCutAt, Tells, Logged, Keeps, Besides, Locals}
use Rattle.proof_moments.specs.Recorded.{IsRecorded, ParcelsAreInTime}
use Rattle.proof_moments.specs.Example.{orders, own_record, got, put, took, journal, journals, TiesCanBeMet}
use Rattle.lists.proofs.Elements.{in_left, in_right}
use Rattle.proof_moments.proofs.Records.{was_taken}

abbrev r : Facts
r = facts_in one_put

law : Laws small r
law = facts.laws_met.1

-- ---- which facts there are

-- what the facts of some kinds say
abbrev Says : Fact → Type 0
Says (Ticked c b l) = b ≤ 1
Says (Put c t b) = (c ≡ 0) × (t ≡ viewer) × (b ≡ 1)
Says (Took c t n b) = ⊥
Says (Shows c t n b) = (c ≡ 0) × (t ≡ viewer) × (n ≡ 0) × (b ≡ 1)
Says (Begun ask b) = ask ≡ order
Says (Asked c ask b) = (c ≡ 0) × (ask ≡ order) × (b ≡ 1)
Says (AskedApart c ask b) = ⊥
Says (Gone v b) = ⊥
Says (Died c b) = ⊥
Says (Returned c b) = ⊥
Says (Believed c b) = ⊥
Says other = Unit {0}

first_say : (n : ℕ) → AllByRecursion Says (first_beat n)
first_say zero = tt
first_say (suc n) = (tt, (omega arith, (tt, first_say n)))

all_say : AllByRecursion Says one_put
all_say = (refl, ((refl, refl, refl), (tt, (omega arith, ((refl, refl, refl), (tt, (tt, ((refl, refl, refl, refl), first_say 8))))))))

says : (f : Fact) → Contains one_put f → Says f
says f h = All-contains Says one_put f (All-from_recursion Says one_put all_say) h

-- ---- which entries there are

pub record IsEntry (n : ℕ) (e : Entry) : Type 0 where
  node : n ≡ 0
  which : (e ≡ got) ⊎ ((e ≡ put) ⊎ ((e ≡ took) ⊎ ⊥))

one_journal : (n : ℕ) (j : List Entry) → slice_get journals n ≡ Some j → (n ≡ 0) × (j ≡ journal)
one_journal zero j at = (refl, ap (λ (o : Option (List Entry)). unwrap_or o journal) (sym at))
one_journal (suc n) j at = absurd (none-some j at)

is_entry : (n : ℕ) (e : Entry) → StandsIn journals n e → IsEntry n e
is_entry n e s = let k = one_journal n s.journal s.at in record { node = k.0; which = subst (λ (j : List Entry). In e j) k.1 s.there }

beat_one : (e : Entry) → In e journal → e.stamp.beat ≡ 1
beat_one e i = ⊎_elim (λ q. ap (λ (x : Entry). x.stamp.beat) q)
    (λ k. ⊎_elim (λ q. ap (λ (x : Entry). x.stamp.beat) q) (λ l. ⊎_elim (λ q. ap (λ (x : Entry). x.stamp.beat) q) (λ n. absurd n) l) k) i

-- an entry of the journal says one of three things
says_one : (P : Entry → Type 0) (e : Entry) → In e journal → P got → P put → P took → P e
says_one P e i one two three = ⊎_elim (λ q. subst P (sym q) one)
    (λ k. ⊎_elim (λ q. subst P (sym q) two) (λ l. ⊎_elim (λ q. subst P (sym q) three) (λ n. absurd n) l) k) i

-- a cut of the journal at an entry
abbrev IsThird : List Entry → Entry → List Entry → Type 0
IsThird xs e ys = ((e ≡ got) × (ys ≡ put ∷ took ∷ []))
    ⊎ (((xs ≡ got ∷ []) × (e ≡ put) × (ys ≡ took ∷ []))
    ⊎ ((xs ≡ got ∷ put ∷ []) × (e ≡ took) × (ys ≡ [])))

cuts_are : (xs ys : List Entry) (e : Entry) → xs ++ e ∷ ys ≡ journal → IsThird xs e ys
cuts_are [] ys e is = let head : e ≡ got = cc in let tail : ys ≡ put ∷ took ∷ [] = cc in inl (head, tail)
cuts_are (a ∷ []) ys e is = let first : a ≡ got = cc in let head : e ≡ put = cc in let tail : ys ≡ took ∷ [] = cc in
    inr (inl (ap (λ (x : Entry). x ∷ []) first, head, tail))
cuts_are (a ∷ b ∷ []) ys e is = let first : a ≡ got = cc in let second : b ≡ put = cc in let head : e ≡ took = cc in let tail : ys ≡ [] = cc in
    inr (inr (ap (λ (x : Entry). x ∷ b ∷ []) first ∙ ap (λ (x : Entry). got ∷ x ∷ []) second, head, tail))
cuts_are (a ∷ b ∷ c ∷ xs) ys e is = absurd (too_long xs ys e (let rest : xs ++ e ∷ ys ≡ [] = cc in rest))
  where
    too_long : (xs ys : List Entry) (e : Entry) → xs ++ e ∷ ys ≡ [] → ⊥
    too_long [] ys e is = absurd (cc)
    too_long (a ∷ xs) ys e is = absurd (cc)

cut_is : (n : ℕ) (xs ys : List Entry) (e : Entry) → slice_get journals n ≡ Some (xs ++ e ∷ ys) → (n ≡ 0) × IsThird xs e ys
cut_is n xs ys e at = let k = one_journal n (xs ++ e ∷ ys) at in (k.0, cuts_are xs ys e k.1)

-- ---- times

-- beat 1 begins, and visit 0 of slot 1 is due; and that visit is cub 0's
times_are : (time_of small 1 ≡ 10000) × (due small 1 0 ≡ 500000) × (cub_of small 0 ≡ 0)
unfolding time_of due first_due cub_of
times_are = (refl, refl, refl)

-- ---- the ties

put_fact : r.Put 0 viewer 1
put_fact = facts.laws_met.2

besides : Besides small r
besides = record {
  ended = λ c b l a t first d. absurd (says (Died c a) d);
  returned = λ c x h. law.run.returned h;
  apart = λ c d a b h k next. law.run.apart h k next;
  put = λ c x a t _ d. absurd (says (Died c a) d);
  reads = λ c b l t. law.run.reads t;
  undue = λ c n b t s. let k = law.states.shows s in let low = (law.run.reads k.ticked).0 in let high = k.undue in omega arith;
  waits = λ c y b l s n ask w by ticked first slot window. ⊎_elim
      (λ a.
      let asked = says (Asked c ask y) a.0 in
      let same = asked.1 in
      let beat = asked.2 in
      let late : 1 ≤ b = omega arith in
      inr (inl (record { cub = 0; tenancy = viewer; same = ap (λ (v : Ask). v.instance.0) (sym same); beat = 1; put = put_fact; by = late })))
      (λ a. absurd (says (AskedApart c ask y) a.0))
      w.how;
}

is_put_at : IsPutAt small r 0 put.stamp viewer
is_put_at =
    let time = times_are.0 in
    let visit = times_are.1 in
    record { small = omega arith; put = put_fact; low = omega arith; high = omega arith; slot = omega arith; above = omega arith; below = omega arith }

ordered : (a : Ask) → a ≡ order → IsOrdered orders a
ordered a e = inl (ap (λ (x : Ask). kind.Begin x) (sym e))

order_is : (a : Ask) → IsOrdered orders a → a ≡ order
order_is a h = ⊎_elim (λ q. let same : order ≡ a = cc in sym same) (λ n. absurd n) h

asked_fact : r.Asked 0 order 1
asked_fact = (1, omega arith, refl)

tells : Tells small r orders journals
tells = record {
  put = λ n e t s is.
      let k = is_entry n e s in
      subst (λ (m : ℕ). IsPutAt small r m e.stamp t) (sym k.node)
      (says_one (λ (x : Entry). x.what ≡ what.Put t → IsPutAt small r 0 x.stamp t) e k.which (λ q. absurd (cc))
      (λ q. let same : viewer ≡ t = cc in subst (λ (u : Tenancy). IsPutAt small r 0 put.stamp u) same is_put_at) (λ q. absurd (cc)) is);
  took = λ n e q s is.
      let k = is_entry n e s in
      subst (λ (m : ℕ). Entered r m q.tenancy q.visit e.stamp.beat) (sym k.node)
      (says_one (λ (x : Entry). x.what ≡ what.Took q → Entered r 0 q.tenancy q.visit x.stamp.beat) e k.which (λ z. absurd (cc)) (λ z. absurd (cc))
      (λ z. let same : own_record ≡ q = cc in subst (λ (u : Rec). Entered r 0 u.tenancy u.visit 1) same (inr (law.states.inserts put_fact).entered)) is);
  gone = λ n e v s is. let k = is_entry n e s in
      says_one (λ (x : Entry). x.what ≡ what.Gone v → r.Gone v.0 x.stamp.beat) e k.which (λ q. absurd (cc)) (λ q. absurd (cc)) (λ q. absurd (cc)) is;
  believed = λ n e d s is. let k = is_entry n e s in
      says_one (λ (x : Entry). x.what ≡ what.Believed d → IsBeliefAt small r n d.0 x.stamp.beat) e k.which (λ q. absurd (cc)) (λ q. absurd (cc)) (λ q. absurd (cc)) is;
  died = λ n e l s is. let k = is_entry n e s in
      says_one (λ (x : Entry). x.what ≡ what.Died → r.Died n x.stamp.beat) e k.which (λ q. absurd (cc)) (λ q. absurd (cc)) (λ q. absurd (cc)) is;
  returned = λ n e l s is. let k = is_entry n e s in
      says_one (λ (x : Entry). x.what ≡ what.Returned → r.Returned n x.stamp.beat × r.Ticked n x.stamp.beat x.stamp.reading) e k.which
      (λ q. absurd (cc)) (λ q. absurd (cc)) (λ q. absurd (cc)) is;
  asked = λ n e link a l s is.
      let k = is_entry n e s in
      subst (λ (m : ℕ). r.Asked m a e.stamp.beat × IsOrdered orders a) (sym k.node)
      (says_one (λ (x : Entry). x.what ≡ what.Got link (note.Start false a) → r.Asked 0 a x.stamp.beat × IsOrdered orders a) e k.which
      (λ q. let same : order ≡ a = cc in (subst (λ (u : Ask). r.Asked 0 u 1) same asked_fact, ordered a (sym same))) (λ q. absurd (cc)) (λ q. absurd (cc)) is);
  apart = λ n e link a l s is. let k = is_entry n e s in
      says_one (λ (x : Entry). x.what ≡ what.Got link (note.Start true a) → r.AskedApart n a x.stamp.beat × IsOrdered orders a) e k.which (λ q. absurd (cc)) (λ q. absurd (cc)) (λ q. absurd (cc)) is;
}

logged : Logged small r orders journals
logged = record {
  put = λ c b t h.
      let k = says (Put c t b) h in
      record {
        entry = put;
        stands = record { journal = journal; at = ap (λ (m : ℕ). slice_get journals m) k.0; there = inr (inl refl) };
        beat = sym k.2;
        is = ap (λ (u : Tenancy). what.Put u) (sym k.1);
      };
  gone = λ v b h. absurd (says (Gone v b) h);
  died = λ c b h. absurd (says (Died c b) h);
  returned = λ c b h. absurd (says (Returned c b) h);
  believed = λ c d b h next low. absurd (says (Believed c b) h);
  begun = λ ask b h. ordered ask (says (Begun ask b) h);
}

-- whatever stands in a journal of the run is of beat 1, and is no belief
in_part : (n : ℕ) (j : List Entry) (e : Entry) → slice_get journals n ≡ Some j → In e j → In e journal
in_part n j e at i = subst (λ (l : List Entry). In e l) (one_journal n j at).1 i

none_believes : (e : Entry) (d : CubNo) → In e journal → e.what ≡ what.Believed d → ⊥
none_believes e d i is = says_one (λ (x : Entry). x.what ≡ what.Believed d → ⊥) e i (λ q. absurd (cc)) (λ q. absurd (cc)) (λ q. absurd (cc)) is

no_second : (ys : List Entry) (f : Entry) (u : Tenancy) → ys ≡ took ∷ [] → In f ys → f.what ≡ what.Put u → ⊥
no_second ys f u e i is = ⊎_elim
    (λ q. let same : took.what ≡ what.Put u = ap (λ (x : Entry). x.what) (sym q) ∙ is in absurd (cc))
    (λ n. absurd n)
    (subst (λ (l : List Entry). In f l) e i)

-- what is taken is the own record, behind the Put
took_last : (n : ℕ) (xs ys : List Entry) (e : Entry) (q : Rec) → slice_get journals n ≡ Some (xs ++ e ∷ ys) → e.what ≡ what.Took q
    → (xs ≡ got ∷ put ∷ []) × (own_record ≡ q)
took_last n xs ys e q at is = ⊎_elim
    (λ k. let w : got.what ≡ what.Took q = ap (λ (x : Entry). x.what) (sym k.0) ∙ is in absurd (cc))
    (λ k. ⊎_elim
    (λ l. let w : put.what ≡ what.Took q = ap (λ (x : Entry). x.what) (sym l.1) ∙ is in absurd (cc))
    (λ l. let w : took.what ≡ what.Took q = ap (λ (x : Entry). x.what) (sym l.1) ∙ is in let same : own_record ≡ q = cc in (l.0, same))
    k)
    (cut_is n xs ys e at).1

came : r.Came 0 1
came = (law.states.inserts put_fact).tick.came

told_whole : (upper lower : List Entry) (b : ℕ) → IsCutAt journals 0 b upper lower → 1 ≤ b → upper ≡ journal
told_whole upper [] b cut low = sym (append-nil upper) ∙ (one_journal 0 (upper ++ []) cut.at).1
told_whole upper (e ∷ es) b cut low =
    let beat = beat_one e (in_part 0 (upper ++ e ∷ es) e cut.at (in_right e upper (e ∷ es) (inl refl))) in
    let late = cut.late e (inl refl) in
    absurd (omega arith)

keeps : Keeps small r orders journals
keeps = record {
  rising = λ n j at. subst (λ (l : List Entry). Rising (λ (e : Entry). e.stamp.beat) l) (sym (one_journal n j at).1)
      ((omega arith, (omega arith, tt)), ((omega arith, tt), (tt, tt)));
  one_put = λ n xs ys e f t u at is i f_is same. absurd (⊎_elim
      (λ q. let w : got.what ≡ what.Put t = ap (λ (x : Entry). x.what) (sym q.0) ∙ is in absurd (cc))
      (λ k. ⊎_elim
      (λ q. no_second ys f u q.2 i f_is)
      (λ q. let w : took.what ≡ what.Put t = ap (λ (x : Entry). x.what) (sym q.1) ∙ is in absurd (cc))
      k)
      (cut_is n xs ys e at).1);
  belief_first = λ n xs ys e f t d at is i f_is. absurd (none_believes f d (in_part n (xs ++ e ∷ ys) f at (in_right f xs (e ∷ ys) (inr i))) f_is);
  put_first = λ n xs ys e q at is.
      let k = took_last n xs ys e q at is in
      inl (put, subst (λ (z : List Entry). In put z) (sym k.0) (inr (inl refl)), ap (λ (z : Rec). what.Put z.tenancy) k.1);
  ended = λ n c b e s before low.
      let beat = beat_one e (is_entry n e s).which in
      ⊎_elim (λ k. inl (record { reading = k.reading; ticked = k.ticked })) (λ d. absurd (says (Died c d.beat) d.died))
      (law.run.up {c = 0} {b = 1} {d = c} {a = b} came (omega arith) low);
  since = λ n xs ys e f low at is i.
      absurd (says_one (λ (x : Entry). x.what ≡ what.Died → ⊥) e (in_part n (xs ++ e ∷ ys) e at (in_right e xs (e ∷ ys) (inl refl)))
      (λ q. absurd (cc)) (λ q. absurd (cc)) (λ q. absurd (cc)) is);
  shows = λ c b l upper lower q cut ticked i.
      let node = (one_journal c (upper ++ lower) cut.at).0 in
      let k = was_taken upper q i in
      let there = in_part c (upper ++ lower) k.0 cut.at (in_left k.0 upper lower k.1) in
      let beat = beat_one k.0 there in
      let early = cut.early k.0 k.1 in
      let last = says (Ticked c b l) ticked in
      let one : 1 ≡ b = omega arith in
      says_one (λ (x : Entry). x.what ≡ what.Took q → r.Shows c q.tenancy q.visit b) k.0 there (λ z. absurd (cc)) (λ z. absurd (cc))
      (λ z.
      let same : own_record ≡ q = cc in
      subst (λ (u : Rec). r.Shows c u.tenancy u.visit b) same (subst (λ (m : ℕ). r.Shows m viewer 0 b) (sym node) (subst (λ (m : ℕ). r.Shows 0 viewer 0 m) one (7, omega arith, refl))))
      k.2;
  shown = λ c b l n t upper lower cut ticked s.
      let k = says (Shows c t n b) s in
      let beat = k.3 in
      let whole = told_whole upper lower b (subst (λ (m : ℕ). IsCutAt journals m b upper lower) k.0 cut) (omega arith) in
      (own_record, subst (λ (z : List Entry). In own_record (records_of z)) (sym whole) (inl refl), sym k.1, sym k.2);
  one_order = λ a b h k same. order_is a h ∙ sym (order_is b k);
}

recorded : IsRecorded small r orders journals
recorded = record { plan = facts.laws_met.0; one = runs small r facts.laws_met.0 law; more = besides; tells = tells; logged = logged; keeps = keeps }

locals : Locals small journals
locals = record {
  for_cub = λ n e q low s is.
      let k = is_entry n e s in
      says_one (λ (x : Entry). x.what ≡ what.Took q → IsForCub small n q.kind q.visit) e k.which (λ z. absurd (cc)) (λ z. absurd (cc))
      (λ z. let same : own_record ≡ q = cc in subst (λ (u : Rec). IsForCub small n u.kind u.visit) same (times_are.2 ∙ sym k.node)) is;
  brings = λ n xs ys e q low at is.
      let k = took_last n xs ys e q at is in
      subst (λ (z : List Entry). AnyByRecursion (λ f. Brings small n q.tenancy q.visit f.what) z) (sym k.0)
      (subst (λ (u : Rec). AnyByRecursion (λ f. Brings small n u.tenancy u.visit f.what) (got ∷ put ∷ [])) k.1 (inr (inl (refl, inl refl))));
  read = λ n e low s. let time = times_are.0 in
      says_one (λ (x : Entry). time_of small x.stamp.beat ≤ x.stamp.reading) e (is_entry n e s).which (omega arith) (omega arith) (omega arith);
  sent = λ n xs ys e link st low at is. absurd (
      says_one (λ (x : Entry). x.what ≡ what.Sent link (note.ViewerState st) → ⊥) e (in_part n (xs ++ e ∷ ys) e at (in_right e xs (e ∷ ys) (inl refl))) (λ q. absurd (cc)) (λ q. absurd (cc)) (λ q. absurd (cc)) is);
}

in_time : ParcelsAreInTime small r journals
in_time = record {
  whole = λ n e link want sent part z s is gone. absurd (says (Gone want.instance.0 z) gone);
  piece = λ n e link want sent part z s is gone. absurd (says (Gone want.instance.0 z) gone);
}

pub ties_met : TiesCanBeMet
ties_met = (recorded, locals, in_time)
