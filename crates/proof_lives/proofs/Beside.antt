-- What goes out with an output of a tick that may be cut off: all that stands in front of it; and with a Put what is taken with
-- it, and its state.
use Rattle.std.proofs.Common.{◌≡◌, ℕ, ◌<◌, ◌≤◌, List, [], ◌∷◌, ◌++◌, true, false, Option, Some, None, refl, sym, ap, subst, ◌∙◌, arith, ⊎_elim, inl, inr, append_assoc, eq-or-lt_of_le}
use Rattle.std.specs.Prelude.{◌⊎◌, ◌==◌, ◌&&◌}
use Rattle.std.specs.List.{AllByRecursion}
use Rattle.std.proofs.lemmas.Bool.{cases_Bool}
use Rattle.tiger_base.specs.declared.number.LinkNo.{LinkNo}
use Rattle.tiger_base.specs.declared.number.Stamp.{Stamp}
use Rattle.tiger_base.specs.declared.tenancy.Rec.{Rec}
use Rattle.tiger_base.specs.declared.tenancy.Tenancy.{Tenancy}
use Rattle.tiger_base.specs.declared.message.Msg.{Msg}
use Rattle.tiger_base.specs.Kinds.{is_own}
use Rattle.slot_plan.specs.declared.params.Params.{Params}
use Rattle.node_kit.specs.declared.journal.What.TheVariants as what
use Rattle.node_kit.specs.declared.outbox.Out.{Out}
use Rattle.node_kit.specs.declared.outbox.Out.TheVariants as out
use Rattle.node_kit.specs.Outputs.{begins_taking, begins_lost, fewer_behind, cut_at}
use Rattle.node_kit.specs.Steps.{Deed, Input, stamp_of}
use Rattle.node_kit.specs.Steps.Input.{Tick}
use Rattle.node_kit.proofs.Cutting.{lost-none, lost-not}
use Rattle.cub_rules.specs.declared.store.Store.{Store}
use Rattle.cub_rules.specs.Ticks.{queued, releasing, believing, inserting, splitting, forwarding, ticking}
use Rattle.cub_changes.specs.Laws.{believed_out}
use Rattle.cub_changes.proofs.Ticks.{end_steps, service_steps, before_splitting}
use Rattle.lists.specs.Elements.{In}
use Rattle.lists.proofs.Cuts.{cut_by}
use Rattle.lists.proofs.Each.{all_append, all_in, all_map}
use Rattle.lists.proofs.Elements.{in_left, in_right, in_cases}
use Rattle.run_facts.specs.Events.{is_tick_input}
use Rattle.proof_lives.specs.Lives.{Lives, AreLives, beat_at, cut_in, cut_outs, deed_of, outs_in, store_at}
use Rattle.proof_lives.specs.Facts.{TickAt, TickedAt}
use Rattle.proof_lives.proofs.Cuts.{IsKept, front_goes_out, kept_goes_out, whole_before}
use Rattle.proof_lives.proofs.Order.{not_behind}
use Rattle.proof_lives.proofs.Moves.{IsQuiet, AreQuiet}
use Rattle.proof_lives.proofs.Steps.{releasing_quiet, believing_quiet, splitting_quiet, end_quiet}
use Rattle.proof_lives.proofs.Ticking.{before_inserting, before_forwarding}
use Rattle.cub_changes.proofs.Chains.{release_is, deadman_of}
use Rattle.cub_changes.proofs.Chains as chains

-- ---- where an output stands in lists that are put together

-- An element of two lists put together stands in the first or in the second.
pub place_in : {X : Type 0} (ds es xs ys : List X) (o : X) → ds ++ es ≡ xs ++ o ∷ ys
    → ((zs : List X) × (ds ≡ xs ++ o ∷ zs) × (ys ≡ zs ++ es)) ⊎ ((zs : List X) × (xs ≡ ds ++ zs) × (es ≡ zs ++ o ∷ ys))
place_in [] es xs ys o e = inr (xs, refl, e)
place_in (d ∷ ds) es [] ys o e =
    let first : d ≡ o = cc in
    let rest : ds ++ es ≡ ys = cc in
    inl (ds, ap (λ z. z ∷ ds) first, sym rest)
place_in {X} (d ∷ ds) es (x ∷ xs) ys o e =
    let first : d ≡ x = cc in
    let rest : ds ++ es ≡ xs ++ o ∷ ys = cc in
    ⊎_elim
    (λ k. inl (k.0, ap (λ (l : List X). d ∷ l) k.1 ∙ ap (λ z. z ∷ xs ++ o ∷ k.0) first, k.2))
    (λ k. inr (k.0, ap (λ (l : List X). x ∷ l) k.1 ∙ ap (λ z. z ∷ ds ++ k.0) (sym first), k.2))
    (place_in ds es xs ys o rest)

-- There it is an element.
pub in_place : {X : Type 0} (o : X) (ds xs ys : List X) → ds ≡ xs ++ o ∷ ys → In o ds
in_place {X} o ds xs ys e = subst (λ (l : List X). In o l) (sym e) (in_right o xs (o ∷ ys) (inl refl))

-- Nothing stands in an empty list.
pub no_place : {X : Type 0} (o : X) (xs ys : List X) → [] ≡ xs ++ o ∷ ys → ⊥
no_place o xs ys e = in_place o [] xs ys e

-- What stands only at the head of a list stands there.
pub first_place : {X : Type 0} (z o : X) (zs xs ys : List X) → (In o zs → ⊥) → z ∷ zs ≡ xs ++ o ∷ ys
    → (xs ≡ []) × (z ≡ o) × (zs ≡ ys)
first_place z o zs [] ys none e =
    let first : z ≡ o = cc in
    let rest : zs ≡ ys = cc in
    (refl, first, rest)
first_place z o zs (x ∷ xs) ys none e = let rest : zs ≡ xs ++ o ∷ ys = cc in absurd (none (in_place o zs xs ys rest))

-- ---- what is taken with an output

-- An output is among the records that are taken first.
abbrev pub IsNext : Out Msg → List (Out Msg) → Type 0
IsNext o [] = ⊥
IsNext o (out.Act (what.Took r) ∷ os) = (o ≡ out.Act (what.Took r)) ⊎ IsNext o os
IsNext o (out.Act other ∷ os) = ⊥
IsNext o (out.Send link m ∷ os) = ⊥

pub next_of_first : (o : Out Msg) (xs ys : List (Out Msg)) → IsNext o xs → IsNext o (xs ++ ys)
next_of_first o [] ys i = absurd i
next_of_first o (out.Act (what.Took r) ∷ os) ys i = ⊎_elim (λ e. inl e) (λ k. inr (next_of_first o os ys k)) i
next_of_first o (out.Act other ∷ os) ys i = absurd i
next_of_first o (out.Send link m ∷ os) ys i = absurd i

next_in : (o : Out Msg) (os : List (Out Msg)) → IsNext o os → In o os
next_in o [] i = absurd i
next_in o (out.Act (what.Took r) ∷ os) i = ⊎_elim (λ e. inl e) (λ k. inr (next_in o os k)) i
next_in o (out.Act other ∷ os) i = absurd i
next_in o (out.Send link m ∷ os) i = absurd i

-- ---- what goes out with an output

-- Where an output stands that goes out. All in front of it goes out, and the records that are taken next. If it is a Put behind
-- which an own record is taken, so does the message that stands there.
pub record GoesAt (os left : List (Out Msg)) (o : Out Msg) : Type 0 where
  pub front : List (Out Msg)
  pub back : List (Out Msg)
  pub is : front ++ o ∷ back ≡ os
  pub before : (q : Out Msg) → In q front → In q left
  pub next : (q : Out Msg) → IsNext q back → In q left
  pub state : (t : Tenancy) (r : Rec) (link : LinkNo) (m : Msg) (rest : List (Out Msg)) → out.Act (what.Put t) ≡ o → is_own r.kind ≡ true
      → out.Act (what.Took r) ∷ out.Send link m ∷ rest ≡ back → In (out.Send link m) left

-- of outputs that are not cut off
goes_whole : (os : List (Out Msg)) (o : Out Msg) → In o os → GoesAt os os o
goes_whole os o i =
    let w = cut_by o os i in
    let behind : (q : Out Msg) → In q w.back → In q os = λ q k.
    subst (λ (l : List (Out Msg)). In q l) w.is (in_right q w.front (o ∷ w.back) (inr k)) in
    record {
      front = w.front;
      back = w.back;
      is = w.is;
      before = λ q k. subst (λ (l : List (Out Msg)). In q l) w.is (in_left q w.front (o ∷ w.back) k);
      next = λ q k. behind q (next_in q w.back k);
      state = λ t r link m rest put own is.
          behind (out.Send link m) (subst (λ (l : List (Out Msg)). In (out.Send link m) l) is (inr (inl refl)));
    }

cut_on : (k : ℕ) (o : Out Msg) (os : List (Out Msg)) → (k == 0 && begins_lost (o ∷ os)) ≡ false
    → cut_at k (o ∷ os) ≡ o ∷ cut_at (fewer_behind k o) os
cut_on k o os e = rw e refl

cut_off : (k : ℕ) (o : Out Msg) (os : List (Out Msg)) → (k == 0 && begins_lost (o ∷ os)) ≡ true → cut_at k (o ∷ os) ≡ []
cut_off k o os e = rw e refl

-- Where an output stands that goes out though outputs are cut off, and how many messages may still go out there.
record LeftAt (k : ℕ) (os : List (Out Msg)) (o : Out Msg) : Type 0 where
  front : List (Out Msg)
  back : List (Out Msg)
  more : ℕ
  is : front ++ o ∷ back ≡ os
  cut : front ++ cut_at more (o ∷ back) ≡ cut_at k os
  on : (more == 0 && begins_lost (o ∷ back)) ≡ false

left_at : (k : ℕ) (os : List (Out Msg)) (o : Out Msg) → In o (cut_at k os) → LeftAt k os o
left_at k [] o i = absurd i
left_at k (z ∷ zs) o i = ⊎_elim
    (λ (e : (k == 0 && begins_lost (z ∷ zs)) ≡ true). absurd (subst (λ (l : List (Out Msg)). In o l) (cut_off k z zs e) i))
    (λ (e : (k == 0 && begins_lost (z ∷ zs)) ≡ false). ⊎_elim
    (λ (q : o ≡ z). record {
      front = [];
      back = zs;
      more = k;
      is = ap (λ (y : Out Msg). y ∷ zs) q;
      cut = ap (λ (y : Out Msg). cut_at k (y ∷ zs)) q;
      on = subst (λ (y : Out Msg). (k == 0 && begins_lost (y ∷ zs)) ≡ false) (sym q) e;
    })
    (λ j.
    let r = left_at (fewer_behind k z) zs o j in
    record {
      front = z ∷ r.front;
      back = r.back;
      more = r.more;
      is = ap (λ (l : List (Out Msg)). z ∷ l) r.is;
      cut = ap (λ (l : List (Out Msg)). z ∷ l) r.cut ∙ sym (cut_on k z zs e);
      on = r.on;
    })
    (subst (λ (l : List (Out Msg)). In o l) (cut_on k z zs e) i))
    (cases_Bool (k == 0 && begins_lost (z ∷ zs)))

-- records that are taken next are never cut off
next_goes : (k : ℕ) (os : List (Out Msg)) (q : Out Msg) → IsNext q os → In q (cut_at k os)
next_goes k [] q i = absurd i
next_goes k (out.Act (what.Took r) ∷ os) q i =
    let o : Out Msg = out.Act (what.Took r) in
    let on : (k == 0 && begins_lost (o ∷ os)) ≡ false = lost-not k (begins_lost (o ∷ os)) refl in
    subst (λ (l : List (Out Msg)). In q l) (sym (cut_on k o os on))
    (⊎_elim (λ e. inl e) (λ j. inr (next_goes (fewer_behind k o) os q j)) i)
next_goes k (out.Act other ∷ os) q i = absurd i
next_goes k (out.Send link m ∷ os) q i = absurd i

-- A message behind a record that is taken goes out if one may.
state_goes : (k : ℕ) (r : Rec) (link : LinkNo) (m : Msg) (rest : List (Out Msg)) → (k ≡ 0 → ⊥)
    → In (out.Send link m) (cut_at k (out.Act (what.Took r) ∷ out.Send link m ∷ rest))
state_goes k r link m rest some =
    let o : Out Msg = out.Act (what.Took r) in
    let s : Out Msg = out.Send link m in
    let first = lost-none k (begins_lost (o ∷ s ∷ rest)) some in
    let second = lost-none k (begins_lost (s ∷ rest)) some in
    subst (λ (l : List (Out Msg)). In s l) (sym (cut_on k o (s ∷ rest) first))
    (inr (subst (λ (l : List (Out Msg)). In s l) (sym (cut_on k s rest second)) (inl refl)))

-- One may go out where a Put goes out behind which an own record is taken.
some_more : (k : ℕ) (t : Tenancy) (o : Out Msg) (r : Rec) (link : LinkNo) (m : Msg) (rest back : List (Out Msg)) → out.Act (what.Put t) ≡ o
    → is_own r.kind ≡ true → out.Act (what.Took r) ∷ out.Send link m ∷ rest ≡ back → (k == 0 && begins_lost (o ∷ back)) ≡ false
    → k ≡ 0 → ⊥
some_more k t o r link m rest back put own is on none =
    let p : Out Msg = out.Act (what.Put t) in
    let taking : begins_taking back ≡ true = ap (λ (l : List (Out Msg)). begins_taking l) (sym is) ∙ ap (λ b. b && true) own in
    let lost : begins_lost (o ∷ back) ≡ true = subst (λ (y : Out Msg). begins_lost (y ∷ back) ≡ true) put taking in
    let off : (0 == 0 && begins_lost (o ∷ back)) ≡ false = subst (λ n. (n == 0 && begins_lost (o ∷ back)) ≡ false) none on in
    let both : true ≡ false = sym lost ∙ off in
    absurd (cc)

-- of outputs that are cut off
goes_cut : (k : ℕ) (os : List (Out Msg)) (o : Out Msg) → In o (cut_at k os) → GoesAt os (cut_at k os) o
goes_cut k os o i =
    let w = left_at k os o i in
    let behind : (q : Out Msg) → In q (cut_at (fewer_behind w.more o) w.back) → In q (cut_at k os) = λ q j.
    subst (λ (l : List (Out Msg)). In q l) w.cut (in_right q w.front (cut_at w.more (o ∷ w.back))
    (subst (λ (l : List (Out Msg)). In q l) (sym (cut_on w.more o w.back w.on)) (inr j))) in
    record {
      front = w.front;
      back = w.back;
      is = w.is;
      before = λ q j. subst (λ (l : List (Out Msg)). In q l) w.cut (in_left q w.front (cut_at w.more (o ∷ w.back)) j);
      next = λ q j. behind q (next_goes (fewer_behind w.more o) w.back q j);
      state = λ t r link m rest put own is.
          behind (out.Send link m)
          (subst (λ (l : List (Out Msg)). In (out.Send link m) (cut_at (fewer_behind w.more o) l)) is
          (subst (λ (y : Out Msg). In (out.Send link m) (cut_at (fewer_behind w.more y) (out.Act (what.Took r) ∷ out.Send link m ∷ rest))) put
          (state_goes w.more r link m rest (some_more w.more t o r link m rest w.back put own is w.on))));
    }

pub goes_at : (cut : Option ℕ) (os : List (Out Msg)) (o : Out Msg) → In o (cut_outs cut os) → GoesAt os (cut_outs cut os) o
goes_at None os o i = goes_whole os o i
goes_at (Some k) os o i = goes_cut k os o i

-- ---- a tick

not_among : (o : Out Msg) (os : List (Out Msg)) → (IsQuiet o → ⊥) → AreQuiet os → In o os → ⊥
not_among o os loud quiet i = loud (all_in IsQuiet o os quiet i)

module _ (p : Params) (c : ℕ) (stamp : Stamp) (h : Store) where
  -- what the steps of a tick put out
  abbrev pub outs_of_release : List (Out Msg)
  outs_of_release = (releasing p stamp h).outs

  abbrev pub outs_of_belief : List (Out Msg)
  outs_of_belief = (believing p c stamp (releasing p stamp h).state).outs

  abbrev pub outs_of_insertion : List (Out Msg)
  outs_of_insertion = (inserting p c stamp (before_inserting p c stamp h)).outs

  abbrev pub outs_of_service : List (Out Msg)
  outs_of_service = (service_steps p c stamp (before_splitting p c stamp h)).outs

  abbrev pub outs_of_forwarding : List (Out Msg)
  outs_of_forwarding = (forwarding p c stamp (before_forwarding p c stamp h)).outs

  pub tick_is : outs_of_release ++ (outs_of_belief ++ (outs_of_insertion ++ outs_of_service)) ≡ (ticking p c stamp h).outs
  tick_is = chains.tick_outs p c stamp h

  -- An output of the tick stands in what insertion puts out.
  pub record IsInserted (xs ys : List (Out Msg)) (o : Out Msg) : Type 0 where
    pub front : List (Out Msg)
    pub back : List (Out Msg)
    pub more : List (Out Msg)
    pub is : outs_of_insertion ≡ front ++ o ∷ back
    pub before : (q : Out Msg) → In q front → In q xs
    pub behind : ys ≡ back ++ more

  -- Or forwarding puts it out, and it stands behind all that insertion puts out.
  abbrev pub IsForwarded : List (Out Msg) → Out Msg → Type 0
  IsForwarded xs o = In o outs_of_forwarding × ((q : Out Msg) → In q outs_of_insertion → In q xs)

  from_service : (o : Out Msg) → (IsQuiet o → ⊥) → In o outs_of_service → In o outs_of_forwarding
  from_service o loud i =
      let h3 : Store = before_splitting p c stamp h in
      let h5 : Store = (forwarding p c stamp (before_forwarding p c stamp h)).state in
      let last : List (Out Msg) = (end_steps p c stamp h5).outs in
      ⊎_elim
      (λ k. absurd (not_among o (splitting p c stamp h3).outs loud (splitting_quiet p c stamp h3) k))
      (λ k. ⊎_elim (λ q. q) (λ q. absurd (not_among o last loud (end_quiet p c stamp h5) q)) (in_cases o outs_of_forwarding last k))
      (in_cases o (splitting p c stamp h3).outs (outs_of_forwarding ++ last) i)

  -- What tells of records, Puts or states is put out by insertion or by forwarding.
  pub in_tick : (xs ys : List (Out Msg)) (o : Out Msg) → (IsQuiet o → ⊥) → xs ++ o ∷ ys ≡ (ticking p c stamp h).outs
      → IsInserted xs ys o ⊎ IsForwarded xs o
  in_tick xs ys o loud e =
      let h1 : Store = (releasing p stamp h).state in
      ⊎_elim
      (λ k. absurd (not_among o outs_of_release loud (releasing_quiet p stamp h) (in_place o outs_of_release xs k.0 k.1)))
      (λ k. ⊎_elim
      (λ j. absurd (not_among o outs_of_belief loud (believing_quiet p c stamp h1) (in_place o outs_of_belief k.0 j.0 j.1)))
      (λ j.
      let early : xs ≡ outs_of_release ++ (outs_of_belief ++ j.0) = k.1 ∙ ap (λ (l : List (Out Msg)). outs_of_release ++ l) j.1 in
      let before : (q : Out Msg) → In q j.0 → In q xs = λ q i.
      subst (λ (l : List (Out Msg)). In q l) (sym early) (in_right q outs_of_release (outs_of_belief ++ j.0) (in_right q outs_of_belief j.0 i)) in
      ⊎_elim
      (λ m. inl (record { front = j.0; back = m.0; more = outs_of_service; is = m.1; before = before; behind = m.2 }))
      (λ m. inr (
        from_service o loud (in_place o outs_of_service m.0 ys m.2),
        (λ q i. before q (subst (λ (l : List (Out Msg)). In q l) (sym m.1) (in_left q outs_of_insertion m.0 i))),
      ))
      (place_in outs_of_insertion outs_of_service j.0 ys o j.2))
      (place_in outs_of_belief (outs_of_insertion ++ outs_of_service) k.0 ys o k.2))
      (place_in outs_of_release (outs_of_belief ++ (outs_of_insertion ++ outs_of_service)) xs ys o (tick_is ∙ sym e))

  -- ---- belief goes out in every tick in which it begins

  first_acts : AllByRecursion IsKept outs_of_belief
  first_acts =
      deadman_of p c stamp (λ (d : Deed Msg Store). AllByRecursion IsKept d.outs) h
      (λ _. ((refl, refl), all_map IsKept queued h.starts.redundant (λ a i. (refl, refl)))) (λ _. tt)

  none_first : AllByRecursion IsKept outs_of_release
  none_first = subst (λ (d : Deed Msg Store). AllByRecursion IsKept d.outs) (sym (release_is p c stamp h)) tt

  belief_there : h.believes ≡ false → (before_inserting p c stamp h).believes ≡ true → In (believed_out p c) outs_of_belief
  belief_there none =
      deadman_of p c stamp (λ (d : Deed Msg Store). d.state.believes ≡ true → In (believed_out p c) d.outs) h
      (λ _ _. inl refl) (λ _ e. let z : true ≡ false = sym e ∙ none in absurd (cc))

  pub belief_goes : (cut : Option ℕ) → h.believes ≡ false → (before_inserting p c stamp h).believes ≡ true
      → In (believed_out p c) (cut_outs cut (ticking p c stamp h).outs)
  belief_goes cut none believes =
      let o : Out Msg = believed_out p c in
      let first : List (Out Msg) = outs_of_release ++ outs_of_belief in
      let all : first ++ (outs_of_insertion ++ outs_of_service) ≡ (ticking p c stamp h).outs = append_assoc outs_of_release outs_of_belief (outs_of_insertion ++ outs_of_service) ∙ tick_is in
      subst (λ (l : List (Out Msg)). In o (cut_outs cut l)) all
      (kept_goes_out cut o first (outs_of_insertion ++ outs_of_service) (all_append IsKept outs_of_release outs_of_belief none_first first_acts)
      (in_right o outs_of_release outs_of_belief (belief_there none believes)))

  -- ---- what is put out behind insertion goes out with all that insertion puts out

  pub inserted_go : (cut : Option ℕ) (o : Out Msg) → In o (cut_outs cut (ticking p c stamp h).outs)
      → (In o outs_of_release → ⊥) → (In o outs_of_belief → ⊥) → (In o outs_of_insertion → ⊥)
      → (q : Out Msg) → In q outs_of_insertion → In q (cut_outs cut (ticking p c stamp h).outs)
  inserted_go cut o i one two three q j =
      let first : List (Out Msg) = outs_of_release ++ outs_of_belief in
      let front : List (Out Msg) = first ++ outs_of_insertion in
      let all : front ++ outs_of_service ≡ (ticking p c stamp h).outs =
      append_assoc first outs_of_insertion outs_of_service ∙ (append_assoc outs_of_release outs_of_belief (outs_of_insertion ++ outs_of_service) ∙ tick_is) in
      subst (λ (l : List (Out Msg)). In q (cut_outs cut l)) all
      (front_goes_out cut o q front outs_of_service (subst (λ (l : List (Out Msg)). In o (cut_outs cut l)) (sym all) i)
      (λ k. ⊎_elim
      (λ f. ⊎_elim (λ a. one a) (λ b. two b) (in_cases o outs_of_release outs_of_belief f))
      (λ n. three n)
      (in_cases o first outs_of_insertion k))
      (in_right q first outs_of_insertion j))

-- what goes out of a tick of a life
pub tick_outs : (p : Params) (lives : Lives) (c i : ℕ) (stamp : Stamp) → lives.input c i ≡ Tick stamp
    → outs_in p lives c i ≡ cut_outs (cut_in lives c i) (ticking p c stamp (store_at p c (lives.input c) i)).outs
tick_outs p lives c i stamp is =
    ap (λ (k : Input Msg). cut_outs (cut_in lives c i) (deed_of p c k (store_at p c (lives.input c) i)).outs) is

-- Up to a whole input of a life all are whole.
pub whole_to : (lives : Lives) (c k i : ℕ) → k ≤ i → i < lives.count c → cut_in lives c i ≡ None → cut_in lives c k ≡ None
whole_to lives c k i le low whole = ⊎_elim
    (λ (e : k ≡ i). subst (λ (n : ℕ). cut_in lives c n ≡ None) (sym e) whole)
    (λ (l : k < i). whole_before lives c k i l low)
    (eq-or-lt_of_le le)

-- And so is each tick of the beat of a whole one.
pub whole_tick : (p : Params) (lives : Lives) → AreLives p lives → {c b l m : ℕ} → (t : TickAt p lives c b l)
    → TickedAt p lives c b m → cut_in lives c t.at ≡ None
whole_tick p lives are {c} {b} {l} {m} t w =
    let inputs : ℕ → Input Msg = lives.input c in
    let tb : beat_at inputs t.at ≡ b = ap (λ (k : Input Msg). (stamp_of k).beat) t.is in
    let wb : beat_at inputs w.at ≡ b = ap (λ (k : Input Msg). (stamp_of k).beat) w.is in
    let le = not_behind p (lives.count c) inputs (are c w.small) t.at w.at w.done t.done (ap is_tick_input w.is) (omega arith) in
    whole_to lives c t.at w.at le w.done w.whole
