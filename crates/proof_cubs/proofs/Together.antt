-- What belongs to a Put stands with it: directly behind one at a visit of the cub's own its record and its state; behind one for a
-- dead cub its record, and that of the second visit unless one stood there. So a Put goes out with all of it.
use Rattle.std.proofs.Common.{◌≡◌, ℕ, ◌+◌, ◌<◌, ◌%◌, nat_lt, List, [], ◌∷◌, ◌++◌, true, false, is_some, Option, refl, sym, ap, subst, ◌∙◌, ⊎_elim, inl, inr}
use Rattle.std.specs.Prelude.{◌⊎◌}
use Rattle.std.specs.List.{AllByRecursion}
use Rattle.std.proofs.lemmas.Bool.{cases_Bool, lt-ltb}
use Rattle.tiger_base.specs.declared.number.LinkNo.{LinkNo}
use Rattle.tiger_base.specs.declared.number.Stamp.{Stamp}
use Rattle.tiger_base.specs.declared.tenancy.Kind.TheVariants.{Own, Backup}
use Rattle.tiger_base.specs.declared.tenancy.Rec.{Rec}
use Rattle.tiger_base.specs.declared.tenancy.State.{State}
use Rattle.tiger_base.specs.declared.tenancy.Tenancy.{Tenancy}
use Rattle.tiger_base.specs.declared.message.Msg.{Msg}
use Rattle.tiger_base.specs.declared.message.Msg.TheVariants as msg
use Rattle.tiger_base.specs.Records.{own_of, backup_of}
use Rattle.slot_plan.specs.declared.params.Params.{Params}
use Rattle.slot_plan.specs.Conditions.{IsPlan}
use Rattle.slot_plan.specs.Times.{cub_of}
use Rattle.node_kit.specs.declared.outbox.Out.{Out}
use Rattle.node_kit.specs.declared.outbox.Out.TheVariants as out
use Rattle.node_kit.specs.Steps.{Deed}
use Rattle.node_kit.specs.Ways.{predecessor}
use Rattle.node_kit.specs.Deeds.{nothing}
use Rattle.partial_view.specs.declared.line.Line.{Line}
use Rattle.partial_view.specs.Lines.{visit_of, unmarked}
use Rattle.partial_view.specs.Views.{line_at}
use Rattle.cub_rules.specs.declared.store.Store.{Store}
use Rattle.cub_rules.specs.Records.{took}
use Rattle.cub_rules.specs.Ticks.{putting, told_placed, putting_own, putting_for_dead, disks_at, inserting, ticking}
use Rattle.cub_changes.proofs.Numbers.{visit_own, next_own, disks_own, predecessor_below}
use Rattle.lists.specs.Elements.{In}
use Rattle.cub_changes.specs.Causes.{Fills}
use Rattle.cub_changes.proofs.Closed.{IsClosed}
use Rattle.lists.proofs.Each.{all_in}
use Rattle.cub_changes.proofs.Puts.{puts_by}
use Rattle.proof_cubs.specs.Grounds.{GoesWhole, PutsGoWhole}
use Rattle.lists.proofs.Elements.{chosen, in_left, in_right, in_cases}
use Rattle.proof_lives.specs.Lives.{cut_outs}
use Rattle.proof_lives.proofs.Beside.{place_in, in_place, no_place, first_place, IsNext, next_of_first, GoesAt, goes_at, outs_of_insertion, outs_of_forwarding, IsInserted, in_tick}
use Rattle.proof_lives.proofs.Moves.{Moves, WasThere, IsNew, taken_out, moves_closed, is_taken, took_new, from_with_line}
use Rattle.proof_lives.proofs.Inserting.{Never, put_out, state_out, opening}
use Rattle.proof_lives.proofs.Putting.{OfPut, TakesOwn, TakesForDead, own_outs, dead_outs, own_fresh, dead_fresh}
use Rattle.proof_lives.proofs.Steps.{forwarding_tells}
use Rattle.proof_lives.proofs.Telling.{found_in}
use Rattle.proof_lives.proofs.Ticking.{before_inserting, before_forwarding, same_before}
use Rattle.cub_changes.specs.Changes.Change.{PutStart, Forward}
use Rattle.cub_changes.proofs.Chains.{second, own_puts, dead_puts}
use Rattle.cub_changes.proofs.Messages.{took_of}

-- A start that fills a visit on a disk of the cub's own is put at a visit of the cub's own.
pub first_own : (p : Params) (c : ℕ) (stamp : Stamp) → IsPlan p → c < p.cubs → (from : Store) (t : Tenancy) (h : Store)
    (o : Fills p c stamp from t h) → In o.disk (disks_at p c) → c ≡ cub_of p t.first
first_own p c stamp plan here from t h o own =
    let on = (opening p stamp.reading o.disk h o.key plan o.free).on_disk in
    let mine = all_in (λ d. d % p.cubs ≡ c) o.disk (disks_at p c) (disks_own p c here) own in
    sym (visit_own p c o.disk o.key.1 on mine) ∙ ap (λ (u : Tenancy). cub_of p u.first) (sym o.is)

-- One that fills a visit on a disk of its predecessor is put at the visit before one of the cub's own.
first_before : (p : Params) (c : ℕ) (stamp : Stamp) → IsPlan p → c < p.cubs → (from : Store) (t : Tenancy) (h : Store)
    (o : Fills p c stamp from t h) → In o.disk (disks_at p (predecessor p c)) → c ≡ cub_of p (t.first + 1)
first_before p c stamp plan here from t h o there =
    let before : ℕ = predecessor p c in
    let on = (opening p stamp.reading o.disk h o.key plan o.free).on_disk in
    let theirs = all_in (λ d. d % p.cubs ≡ before) o.disk (disks_at p before) (disks_own p before (predecessor_below p c plan)) there in
    sym (next_own p c o.key.1 plan here (visit_own p before o.disk o.key.1 on theirs))
    ∙ ap (λ (u : Tenancy). cub_of p (u.first + 1)) (sym o.is)

-- It finds the place of its first visit free.
first_free : (p : Params) (c : ℕ) (stamp : Stamp) → IsPlan p → (from : Store) (t : Tenancy) (h : Store)
    (o : Fills p c stamp from t h) → is_some (line_at (t.slot, t.first) h.view.lines) ≡ false
first_free p c stamp plan from t h o =
    ap (λ (u : Tenancy). is_some (line_at (u.slot, u.first) h.view.lines)) o.is
    ∙ (opening p stamp.reading o.disk h o.key plan o.free).free

-- ---- what stands with a Put

-- The state and the record of a Put at a visit of the cub's own come directly behind it.
abbrev OwnBehind : Params → ℕ → Tenancy → List (Out Msg) → Type 0
OwnBehind p c t after = (rest : List (Out Msg)) × (taken_out (own_of t t.first) ∷ state_out p c t ∷ rest ≡ after)

-- A record stands at the second visit: it was in the view, or is taken before the Put or directly behind it.
record SecondBeside (h : Store) (t : Tenancy) (before after : List (Out Msg)) : Type 0 where
  rec : Rec
  slot : rec.tenancy.slot.0 ≡ t.slot.0
  visit : rec.visit ≡ t.first + 1
  how : ((x : Line) × In x h.view.lines × (x.rec ≡ rec)) ⊎ (In (taken_out rec) before ⊎ IsNext (taken_out rec) after)

-- Behind a Put for a dead cub its record is taken, and a record stands at the second visit, if there is one.
abbrev DeadBehind : Store → Tenancy → List (Out Msg) → List (Out Msg) → Type 0
DeadBehind h t before after = IsNext (taken_out (backup_of t t.first)) after × (t.first < t.last → SecondBeside h t before after)

abbrev IsTogether : Params → ℕ → Store → Tenancy → List (Out Msg) → List (Out Msg) → Type 0
IsTogether p c h t before after =
    ((c ≡ cub_of p t.first) × OwnBehind p c t after) ⊎ ((c ≡ cub_of p (t.first + 1)) × DeadBehind h t before after)

-- Each Put of a deed stands so, and each state behind the Put of its tenancy; and what the deed does to lines is known.
record Together (p : Params) (c : ℕ) (h : Store) (d : Deed Msg Store) : Type 0 where
  moves : Moves p c Never h.view.lines d
  puts : (t : Tenancy) (xs ys : List (Out Msg)) → d.outs ≡ xs ++ put_out t ∷ ys → IsTogether p c h t xs ys
  states : (link : LinkNo) (s : State) (xs ys : List (Out Msg)) → d.outs ≡ xs ++ out.Send link (msg.ViewerState s) ∷ ys
      → In (put_out s.tenancy) xs

-- ---- one deed, and then another
module _ (p : Params) (c : ℕ) (h : Store) (d e : Deed Msg Store) (one : Together p c h d)
    (two : Together p c d.state e) where
  -- What stands with a Put of the first deed stands there if more comes behind.
  with_first : (t : Tenancy) (xs ys : List (Out Msg)) → IsTogether p c h t xs ys → IsTogether p c h t xs (ys ++ e.outs)
  with_first t xs ys w = ⊎_elim
      (λ o. inl (o.0, (o.1.0 ++ e.outs, ap (λ (l : List (Out Msg)). l ++ e.outs) o.1.1)))
      (λ o. inr (
        o.0,
        (
          next_of_first _ ys e.outs o.1.0,
          λ more.
              let s = o.1.1 more in
              record {
                rec = s.rec;
                slot = s.slot;
                visit = s.visit;
                how = ⊎_elim
                    (λ x. inl x)
                    (λ x. inr (⊎_elim (λ i. inl i) (λ i. inr (next_of_first (taken_out s.rec) ys e.outs i)) x))
                    s.how;
              },
        ),
      ))
      w

  -- What stood in the view before the second deed stood there before the first, or was taken by it.
  with_second : (t : Tenancy) (xs ys : List (Out Msg)) → IsTogether p c d.state t xs ys → IsTogether p c h t (d.outs ++ xs) ys
  with_second t xs ys w = ⊎_elim
      (λ o. inl o)
      (λ o. inr (
        o.0,
        (
          o.1.0,
          λ more.
              let s = o.1.1 more in
              record {
                rec = s.rec;
                slot = s.slot;
                visit = s.visit;
                how = ⊎_elim
                    (λ x. ⊎_elim
                    (λ (b : WasThere p c h.view.lines d.outs x.0). inl (b.line, b.there, sym b.same ∙ x.2))
                    (λ (b : IsNew p c d.outs x.0).
                    inr (inl (in_left (taken_out s.rec) d.outs xs (subst (λ (r : Rec). In (taken_out r) d.outs) x.2 b.taken))))
                    (one.moves.back x.0 x.1))
                    (λ x. inr (⊎_elim (λ i. inl (in_right (taken_out s.rec) d.outs xs i)) (λ i. inr i) x))
                    s.how;
              },
        ),
      ))
      w

  together_both : Together p c h (record { outs = d.outs ++ e.outs; state = e.state })
  together_both = record {
    moves = (moves_closed p c Never).both h d e one.moves two.moves;
    puts = λ t xs ys is. ⊎_elim
        (λ k. subst (λ (l : List (Out Msg)). IsTogether p c h t xs l) (sym k.2) (with_first t xs k.0 (one.puts t xs k.0 k.1)))
        (λ k. subst (λ (l : List (Out Msg)). IsTogether p c h t l ys) (sym k.1) (with_second t k.0 ys (two.puts t k.0 ys k.2)))
        (place_in d.outs e.outs xs ys (put_out t) is);
    states = λ link s xs ys is. ⊎_elim
        (λ k. one.states link s xs k.0 k.1)
        (λ k. subst (λ (l : List (Out Msg)). In (put_out s.tenancy) l) (sym k.1)
        (in_right (put_out s.tenancy) d.outs k.0 (two.states link s k.0 ys k.2)))
        (place_in d.outs e.outs xs ys (out.Send link (msg.ViewerState s)) is);
  }

together_closed : (p : Params) (c : ℕ) → IsClosed (Together p c)
together_closed p c = record {
  none = λ h. record {
    moves = (moves_closed p c Never).none h;
    puts = λ t xs ys is. absurd (no_place (put_out t) xs ys is);
    states = λ link s xs ys is. absurd (no_place (out.Send link (msg.ViewerState s)) xs ys is);
  };
  both = together_both p c;
}

-- ---- the two kinds of Put

-- what a record that is taken puts out
took_only : (r : Rec) (h : Store) (o : Out Msg) → In o (took r h).outs → o ≡ taken_out r
took_only r h o =
    took_of (λ (d : Deed Msg Store). In o d.outs → o ≡ taken_out r) r h
    (λ _ i. absurd i)
    (λ _ i. ⊎_elim (λ e. e) (λ w. absurd w) i)

own_list : (p : Params) (c : ℕ) (t : Tenancy) (h : Store) → is_taken (own_of t t.first) h ≡ false
    → (putting_own p c t h).outs ≡ put_out t ∷ taken_out (own_of t t.first) ∷ state_out p c t ∷ told_placed p c t ∷ []
own_list p c t h free =
    sym (own_puts p c t h)
    ∙ ap (λ (l : List (Out Msg)). put_out t ∷ l ++ state_out p c t ∷ told_placed p c t ∷ []) (took_new (own_of t t.first) (putting t h).state free).0

second_only : (t : Tenancy) (h : Store) (o : Out Msg) → In o (second t h).outs → o ≡ taken_out (own_of t (t.first + 1))
second_only t h o =
    chosen (λ (f : Store → Deed Msg Store). In o (f h).outs → o ≡ taken_out (own_of t (t.first + 1)))
    (nat_lt t.first t.last) (took (own_of t (t.first + 1))) nothing
    (λ _ i. took_only (own_of t (t.first + 1)) h o i)
    (λ _ i. absurd i)

-- what a cub keeps behind the first record that it takes for a dead one
abbrev behind_first : Tenancy → Store → Store
behind_first t h = (took (backup_of t t.first) (putting t h).state).state

dead_list : (p : Params) (c : ℕ) (t : Tenancy) (h : Store) → is_taken (backup_of t t.first) h ≡ false
    → (putting_for_dead p c t h).outs
    ≡ put_out t ∷ taken_out (backup_of t t.first) ∷ (second t (behind_first t h)).outs ++ told_placed p c t ∷ []
dead_list p c t h free =
    sym (dead_puts p c t h)
    ∙ ap (λ (l : List (Out Msg)). put_out t ∷ l ++ ((second t (behind_first t h)).outs ++ told_placed p c t ∷ []))
    (took_new (backup_of t t.first) (putting t h).state free).0

-- The second record of a Put is taken, or a line stands in its place.
second_found : (t : Tenancy) (g : Store) → t.first < t.last
    → ((second t g).outs ≡ taken_out (own_of t (t.first + 1)) ∷ [])
    ⊎ ((x : Line) × In x g.view.lines × (x.rec.tenancy.slot.0 ≡ t.slot.0) × (x.rec.visit ≡ t.first + 1))
second_found t g more =
    let r : Rec = own_of t (t.first + 1) in
    chosen (λ (f : Store → Deed Msg Store). ((f g).outs ≡ taken_out r ∷ [])
    ⊎ ((x : Line) × In x g.view.lines × (x.rec.tenancy.slot.0 ≡ t.slot.0) × (x.rec.visit ≡ t.first + 1)))
    (nat_lt t.first t.last) (took r) nothing
    (λ _. ⊎_elim
    (λ (e : is_taken r g ≡ true). let f = found_in (visit_of r) g.view.lines e in inr (f.0, f.1, f.2.0, f.2.1))
    (λ (e : is_taken r g ≡ false). inl (took_new r g e).0)
    (cases_Bool (is_taken r g)))
    (λ f. let z : true ≡ false = sym (lt-ltb t.first t.last more) ∙ f in absurd (cc))

-- A line behind the first record was there before, or is of that record.
first_lines : (t : Tenancy) (h : Store) (x : Line) → is_taken (backup_of t t.first) h ≡ false
    → In x (behind_first t h).view.lines → In x h.view.lines ⊎ (x.rec ≡ backup_of t t.first)
first_lines t h x free i =
    let r : Rec = backup_of t t.first in
    let g : Store = (putting t h).state in
    ⊎_elim
    (λ e. inr (ap (λ (y : Line). y.rec) e))
    (λ k. inl k)
    (from_with_line g.view.params (unmarked r) x g.view.lines
    (subst (λ (ls : List Line). In x ls) (took_new r g free).1 i))

-- If a deed's outputs begin with the Put of t, and are all of it, states stand behind it.
states_behind : (p : Params) (c : ℕ) (t : Tenancy) (Takes : Rec → Type 0) (os rest : List (Out Msg)) → os ≡ put_out t ∷ rest
    → AllByRecursion (OfPut p c t Takes) os
    → (link : LinkNo) (s : State) (xs ys : List (Out Msg)) → os ≡ xs ++ out.Send link (msg.ViewerState s) ∷ ys
    → In (put_out s.tenancy) xs
states_behind p c t Takes os rest first all link s [] ys is =
    let z : put_out t ∷ rest ≡ out.Send link (msg.ViewerState s) ∷ ys = sym first ∙ is in
    absurd (cc)
states_behind p c t Takes os rest first all link s (x ∷ xs) ys is =
    let o : Out Msg = out.Send link (msg.ViewerState s) in
    let z : put_out t ∷ rest ≡ x ∷ xs ++ o ∷ ys = sym first ∙ is in
    let head : put_out t ≡ x = cc in
    let of = all_in (OfPut p c t Takes) o os all (in_place o os (x ∷ xs) ys is) in
    inl (ap (λ (u : State). put_out u.tenancy) of.0 ∙ head)

module _ (p : Params) (c : ℕ) (stamp : Stamp) (t : Tenancy) (h : Store)
    (free : is_some (line_at (t.slot, t.first) h.view.lines) ≡ false) where
  own_none : (u : Tenancy) → In (put_out u) (taken_out (own_of t t.first) ∷ state_out p c t ∷ told_placed p c t ∷ []) → ⊥
  own_none u i = ⊎_elim
      (λ e. absurd (cc))
      (λ j. ⊎_elim (λ e. absurd (cc)) (λ k. ⊎_elim (λ e. absurd (cc)) (λ w. w) k) j)
      i

  own_together : c ≡ cub_of p t.first → Together p c h (putting_own p c t h)
  own_together own =
      let rest : List (Out Msg) = taken_out (own_of t t.first) ∷ state_out p c t ∷ told_placed p c t ∷ [] in
      let all = own_list p c t h free in
      record {
        moves = (own_fresh p c stamp t h).moves;
        puts = λ u xs ys is.
            let w = first_place (put_out t) (put_out u) rest xs ys (own_none u) (sym all ∙ is) in
            let put : put_out t ≡ put_out u = w.1 in
            let same : t ≡ u = cc in
            subst (λ (v : Tenancy). IsTogether p c h v xs ys) same (inl (own, (told_placed p c t ∷ [], w.2)));
        states = states_behind p c t (TakesOwn t) (putting_own p c t h).outs rest all (own_outs p c stamp t h);
      }

  -- Behind the Put for a dead cub.
  abbrev behind_dead : List (Out Msg)
  behind_dead = taken_out (backup_of t t.first) ∷ (second t (behind_first t h)).outs ++ told_placed p c t ∷ []

  dead_none : (u : Tenancy) → In (put_out u) behind_dead → ⊥
  dead_none u i = ⊎_elim
      (λ e. absurd (cc))
      (λ j. ⊎_elim
      (λ k. let e = second_only t (behind_first t h) (put_out u) k in absurd (cc))
      (λ k. ⊎_elim (λ e. absurd (cc)) (λ w. w) k)
      (in_cases (put_out u) (second t (behind_first t h)).outs (told_placed p c t ∷ []) j))
      i

  second_beside : t.first < t.last → (xs : List (Out Msg)) → SecondBeside h t xs behind_dead
  second_beside more xs =
      let r : Rec = own_of t (t.first + 1) in
      let b : Rec = backup_of t t.first in
      let g : Store = behind_first t h in
      ⊎_elim
      (λ e. record {
        rec = r;
        slot = refl;
        visit = refl;
        how = inr (inr (inr (subst (λ (l : List (Out Msg)). IsNext (taken_out r) (l ++ told_placed p c t ∷ [])) (sym e) (inl refl))));
      })
      (λ x. record {
        rec = x.0.rec;
        slot = x.2;
        visit = x.3;
        how = ⊎_elim
            (λ i. inl (x.0, i, refl))
            (λ i. inr (inr (inl (ap (λ (q : Rec). taken_out q) i))))
            (first_lines t h x.0 free x.1);
      })
      (second_found t g more)

  dead_together : c ≡ cub_of p (t.first + 1) → Together p c h (putting_for_dead p c t h)
  dead_together next =
      let all = dead_list p c t h free in
      record {
        moves = (dead_fresh p c stamp t h).moves;
        puts = λ u xs ys is.
            let w = first_place (put_out t) (put_out u) behind_dead xs ys (dead_none u) (sym all ∙ is) in
            let put : put_out t ≡ put_out u = w.1 in
            let same : t ≡ u = cc in
            subst (λ (v : Tenancy). IsTogether p c h v xs ys) same
            (subst (λ (l : List (Out Msg)). IsTogether p c h t xs l) w.2
            (inr (next, (inl refl, λ more. second_beside more xs))));
        states = states_behind p c t (TakesForDead t) (putting_for_dead p c t h).outs behind_dead all (dead_outs p c stamp t h);
      }

-- Insertion is made of Puts of these two kinds.
inserting_together : (p : Params) (c : ℕ) (stamp : Stamp) → IsPlan p → c < p.cubs → (h : Store)
    → Together p c h (inserting p c stamp h)
inserting_together p c stamp plan here h =
    puts_by (Together p c) (together_closed p c) p c stamp h
    (λ t g o own. own_together p c stamp t g (first_free p c stamp plan h t g o) (first_own p c stamp plan here h t g o own))
    (λ t g o believes there. dead_together p c stamp t g (first_free p c stamp plan h t g o) (first_before p c stamp plan here h t g o there))

-- ---- what goes out of a tick
module _ (p : Params) (c : ℕ) (stamp : Stamp) (plan : IsPlan p) (here : c < p.cubs) (h : Store) (cut : Option ℕ) where
  -- what is left of what the tick puts out
  abbrev left : List (Out Msg)
  left = cut_outs cut (ticking p c stamp h).outs

  abbrev ready : Store
  ready = before_inserting p c stamp h

  -- All that stands with a Put goes out with it.
  goes_with : (t : Tenancy) (g : GoesAt (ticking p c stamp h).outs left (put_out t))
      → (w : IsInserted p c stamp h g.front g.back (put_out t)) → IsTogether p c ready t w.front w.back
      → GoesWhole p c h left t
  goes_with t g w k =
      let next : (q : Out Msg) → IsNext q w.back → In q left = λ q i.
      g.next q (subst (λ (l : List (Out Msg)). IsNext q l) (sym w.behind) (next_of_first q w.back w.more i)) in
      ⊎_elim
      (λ o.
      let is : taken_out (own_of t t.first) ∷ state_out p c t ∷ o.1.0 ++ w.more ≡ g.back =
      ap (λ (l : List (Out Msg)). l ++ w.more) o.1.1 ∙ sym w.behind in
      record {
        kind = Own;
        taken = next (taken_out (own_of t t.first))
            (subst (λ (l : List (Out Msg)). IsNext (taken_out (own_of t t.first)) l) o.1.1 (inl refl));
        who = inl (o.0, g.state t (own_of t t.first) _ _ (o.1.0 ++ w.more) refl refl is);
      })
      (λ o. record {
        kind = Backup;
        taken = next (taken_out (backup_of t t.first)) o.1.0;
        who = inr (
          o.0,
          λ more.
              let s = o.1.1 more in
              record {
                rec = s.rec;
                slot = s.slot;
                visit = s.visit;
                how = ⊎_elim
                    (λ x. inl (x.0, subst (λ (ls : List Line). In x.0 ls) (same_before p c stamp h) x.1, x.2))
                    (λ x. inr (⊎_elim (λ i. g.before (taken_out s.rec) (w.before (taken_out s.rec) i)) (λ i. next (taken_out s.rec) i) x))
                    s.how;
              },
        );
      })
      k

  put_goes : (t : Tenancy) → In (put_out t) left → GoesWhole p c h left t
  put_goes t i =
      let g = goes_at cut (ticking p c stamp h).outs (put_out t) i in
      ⊎_elim
      (λ w. goes_with t g w ((inserting_together p c stamp plan here ready).puts t w.front w.back w.is))
      (λ w. let e : Forward ≡ PutStart t = forwarding_tells p c stamp (before_forwarding p c stamp h) (put_out t) w.0 in absurd (cc))
      (in_tick p c stamp h g.front g.back (put_out t) (λ q. q) g.is)

  -- Behind an output all that insertion puts out goes out, or the output is insertion's own.
  pub record GoesBehind (o : Out Msg) : Type 0 where
    pub forwarded : In o (outs_of_forwarding p c stamp h)
    pub all : (q : Out Msg) → In q (outs_of_insertion p c stamp h) → In q left

  -- A state that goes out goes out behind the Put of its tenancy, or by forwarding, behind all that insertion puts out.
  pub state_goes_behind : (link : LinkNo) (s : State) → In (out.Send link (msg.ViewerState s)) left
      → (In (out.Send link (msg.ViewerState s)) (outs_of_insertion p c stamp h) × In (put_out s.tenancy) left)
      ⊎ GoesBehind (out.Send link (msg.ViewerState s))
  state_goes_behind link s i =
      let o : Out Msg = out.Send link (msg.ViewerState s) in
      let g = goes_at cut (ticking p c stamp h).outs o i in
      ⊎_elim
      (λ w. inl (
        in_place o (outs_of_insertion p c stamp h) w.front w.back w.is,
        g.before (put_out s.tenancy) (w.before (put_out s.tenancy)
            ((inserting_together p c stamp plan here ready).states link s w.front w.back w.is)),
      ))
      (λ w. inr (record { forwarded = w.0; all = λ q j. g.before q (w.1 q j) }))
      (in_tick p c stamp h g.front g.back o (λ q. q) g.is)

-- So a Put goes out with all that belongs to it.
pub puts_go_whole : PutsGoWhole
puts_go_whole p c stamp h cut t plan here i = put_goes p c stamp plan here h cut t i
