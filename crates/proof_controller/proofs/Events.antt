-- A journal that follows the orders goes on doing so when the controller takes a message, and when it ticks.
use Rattle.std.proofs.Common.{◌≡◌, ℕ, ◌+◌, ◌≤◌, List, [], ◌∷◌, ◌++◌, length, Bool, true, false, cond, not, ◌&&◌, ◌||◌, ◌==◌, nat_lt, nat_le, Option, Some, None, arith, refl, sym, ap, ◌∙◌}
use Rattle.std.specs.Prelude.{filter, map}
use Rattle.std.specs.Option.{option_or}
use Rattle.std.specs.List.{list_any}
use Rattle.std.proofs.lemmas.Bool.Decides.{nat_tests}
use Rattle.std.proofs.lemmas.List.{append-nil}
use Rattle.std.proofs.lemmas.Grind.{flat_map-append}
use Rattle.std.proofs.lemmas.List.Folds.{list_any-append, find-append}
use Rattle.tiger_base.specs.declared.number.Instance.{Instance}
use Rattle.tiger_base.specs.declared.number.LinkNo.{LinkNo}
use Rattle.tiger_base.specs.declared.number.Stamp.{Stamp}
use Rattle.tiger_base.specs.declared.tenancy.Tenancy.{Tenancy}
use Rattle.tiger_base.specs.declared.message.Msg.{Msg}
use Rattle.tiger_base.specs.Notes.{noted}
use Rattle.slot_plan.specs.declared.params.Params.{Params}
use Rattle.slot_plan.specs.Conditions.{IsPlan}
use Rattle.node_kit.specs.declared.course.Order.{Order}
use Rattle.node_kit.specs.declared.journal.What.TheVariants as what
use Rattle.node_kit.specs.declared.journal.Entry.{Entry}
use Rattle.node_kit.specs.declared.outbox.Out.{Out}
use Rattle.node_kit.specs.Steps.{what_of, entry_of}
use Rattle.run_facts.specs.Commanded.{Dispatch, start_of, start_in, starts_sent, starts_ordered, is_gone_of, gone_in, gone_before, is_over, place_of, place_in, places_got, place_known, is_stopped}
use Rattle.controller_core.specs.declared.known.Known.{Known}
use Rattle.controller_core.specs.Orders.{AreOrders, orders_in}
use Rattle.controller_core.specs.State.{AreInForm, tenancy_of, is_gone}
use Rattle.controller_core.specs.Rules.{commanding, taking}
use Rattle.proof_controller.proofs.Carrying.{Says, one_if, takes_effect}
use Rattle.proof_controller.proofs.Commanding.{each_says, stops_in, still_in_form}
use Rattle.proof_controller.proofs.Grown.{gone_in-append, gone_before-append, places_got-append, starts_sent-append, AreBy, later_by, both_by, gone_before_all, all_places, places_got_all, News, stopped_before, stop_is_ordered}
use Rattle.proof_controller.proofs.Noted.{any_out, flat_out, any_stamped, any_noted, count_noted, flat_stamped, stamped, count-append}
use Rattle.proof_controller.proofs.Starting.{beat_sends, have_starts}
use Rattle.proof_controller.proofs.Taking.{taking_gone, taking_in_form, found, taking_tells}
use Rattle.std.proofs.lemmas.Bool.{eqb-true}

-- so many beats are over, and the journal follows the orders in them; what the controller knows is what it tells
pub record Followed (p : Params) (os : List Order) (reading : ℕ → ℕ) (t : ℕ) (known : Known) (journal : List Entry) : Type 0 where
  pub in_form : AreInForm p known
  pub by : AreBy t journal
  pub gone_is : (v : Instance) → list_any (λ e. is_gone_of v.0 e.what) journal ≡ is_gone known.gone v
  pub gone_early : (v : Instance) → gone_before journal v.0 t ≡ is_gone known.gone v
  pub places_are : (v : Instance) → found v (all_places p journal) ≡ tenancy_of known.placed v
  pub starts_are : (b : ℕ) → starts_sent p b journal ≡ cond (nat_lt b t) (starts_ordered p b os) []
  pub stops_are : (v b : ℕ) → gone_in journal v b ≡ (nat_lt b t && is_stopped p os journal v b (reading b))
  pub once : (v : Instance) → length (filter (λ e. is_gone_of v.0 e.what) journal) ≡ one_if (is_gone known.gone v)

or_false : (b : Bool) → (b || false) ≡ b
or_false true = refl
or_false false = refl

and_false : (b : Bool) → (b && false) ≡ false
and_false true = refl
and_false false = refl

neither : (b : Bool) → cond {A = List Dispatch} b [] [] ≡ []
neither true = refl
neither false = refl

guarded : (c x y : Bool) → (c ≡ true → x ≡ y) → (c && x) ≡ (c && y)
guarded true x y h = h refl
guarded false x y h = refl

or_none : (o : Option Tenancy) → option_or o None ≡ o
or_none None = refl
or_none (Some t) = refl

-- the entry of a message that was taken
abbrev pub got : Stamp → LinkNo → Msg → Entry
got stamp link m = record { stamp = stamp; what = what.Got link (noted m) }

got_news : (p : Params) (stamp : Stamp) (link : LinkNo) (m : Msg)
    → News p stamp.beat (λ v. false) (place_of p (what.Got link (noted m))) (got stamp link m ∷ [])
unfolding gone_in gone_before places_got
got_news p stamp link m = record {
  by = (omega arith, tt);
  gone_said = λ v. refl;
  gone_here = λ v b. or_false _;
  gone_by = λ v b. or_false _;
  places_said = append-nil _;
  places_by = λ b. append-nil _;
  count = λ v. refl;
}

got_starts : (p : Params) (b : ℕ) (stamp : Stamp) (link : LinkNo) (m : Msg) → starts_sent p b (got stamp link m ∷ []) ≡ []
unfolding starts_sent
got_starts p b stamp link m = append-nil _ ∙ neither (stamp.beat == b)

-- the place of an instance that a journal tells first, where it has grown
both_places : (p : Params) (v : Instance) (xs ys : List Entry)
    → found v (all_places p (xs ++ ys)) ≡ option_or (found v (all_places p xs)) (found v (all_places p ys))
both_places p v xs ys =
    ap (λ ts. found v ts) (flat_map-append (λ (e : Entry). place_of p e.what) xs ys)
    ∙ find-append (λ (t : Tenancy). t.instance.0 == v.0) (all_places p xs) (all_places p ys)

pub took : (p : Params) (os : List Order) (reading : ℕ → ℕ) (known : Known) (journal : List Entry) (stamp : Stamp) (link : LinkNo) (m : Msg)
    → Followed p os reading stamp.beat known journal
    → Followed p os reading stamp.beat (taking p m known) (journal ++ got stamp link m ∷ [])
took p os reading known journal stamp link m f =
    let t = stamp.beat in
    let es : List Entry = got stamp link m ∷ [] in
    let news = got_news p stamp link m in
    let gone = taking_gone p m known in
    record {
      in_form = taking_in_form p m known f.in_form;
      by = both_by t journal es f.by news.by;
      gone_is = λ v.
          list_any-append (λ (e : Entry). is_gone_of v.0 e.what) journal es
          ∙ (or_false _ ∙ (f.gone_is v ∙ sym (ap (λ g. is_gone g v) gone)));
      gone_early = λ v.
          gone_before-append journal es v.0 t
          ∙ (ap (λ x. gone_before journal v.0 t || x) (news.gone_by v.0 t ∙ and_false _)
          ∙ (or_false _ ∙ (f.gone_early v ∙ sym (ap (λ g. is_gone g v) gone))));
      places_are = λ v.
          both_places p v journal es
          ∙ (ap (λ o. option_or o (found v (all_places p es))) (f.places_are v)
          ∙ (ap (λ ts. option_or (tenancy_of known.placed v) (found v ts)) news.places_said ∙ taking_tells p link m known v));
      starts_are = λ b.
          starts_sent-append p b journal es
          ∙ (ap (λ xs. starts_sent p b journal ++ xs) (got_starts p b stamp link m) ∙ (append-nil _ ∙ f.starts_are b));
      stops_are = λ v b.
          gone_in-append journal es v b
          ∙ (ap (λ x. gone_in journal v b || x) (news.gone_here v b ∙ and_false _)
          ∙ (or_false _ ∙ (f.stops_are v b ∙ guarded (nat_lt b t) _ _ (λ before. sym (stopped_before p os _ _ t journal es v b (reading b) news before)))));
      once = λ v.
          count-append (λ (e : Entry). is_gone_of v.0 e.what) journal es
          ∙ (let e : length (filter (λ (e : Entry). is_gone_of v.0 e.what) journal) + 0 ≡ length (filter (λ (e : Entry). is_gone_of v.0 e.what) journal) = omega arith in e
          ∙ (f.once v ∙ sym (ap (λ g. one_if (is_gone g v)) gone)));
    }

not_itself : (t : ℕ) → nat_lt t t ≡ false
not_itself t = grind (arith, nat_tests)

below_next : (b t : ℕ) → nat_lt b (t + 1) ≡ (nat_lt b t || (t == b))
below_next b t = grind (arith, nat_tests)

below_differs : (b t : ℕ) → (nat_lt b t && (t == b)) ≡ false
below_differs b t = grind (arith, nat_tests)

join_starts : {X : Type 0} (x y : Bool) (a b : List X) → (x && y) ≡ false → (y ≡ true → b ≡ a) → (cond x a [] ++ cond y b []) ≡ cond (x || y) a []
join_starts true true a b e h = absurd (cc)
join_starts true false a b e h = append-nil a
join_starts false true a b e h = h refl
join_starts false false a b e h = refl

join_stops : (x y s g next : Bool) → (x && y) ≡ false → (x ≡ true → next ≡ s) → (y ≡ true → next ≡ g) → ((x && s) || (y && g)) ≡ ((x || y) && next)
join_stops true true s g next e h k = absurd (cc)
join_stops true false s g next e h k = or_false s ∙ sym (h refl)
join_stops false true s g next e h k = sym (k refl)
join_stops false false s g next e h k = refl

one_more_gone : (g a n : Bool) → one_if g + one_if (a && (not g && n)) ≡ one_if (g || (a && (not g && n)))
one_more_gone true true n = refl
one_more_gone true false n = refl
one_more_gone false true true = refl
one_more_gone false true false = refl
one_more_gone false false n = refl

flat_none : {X : Type 0} (outs : List (Out Msg)) → flat_out {X = X} (λ w. []) outs ≡ []
flat_none [] = refl
flat_none (o ∷ outs) = flat_none outs

flat_if : (p : Params) (c : Bool) (outs : List (Out Msg)) → flat_out (λ w. cond c (start_of p w) []) outs ≡ cond c (flat_out (start_of p) outs) []
flat_if p true outs = refl
flat_if p false outs = flat_none outs

-- the entries of what is put out in a beat
abbrev pub entries : Stamp → List (Out Msg) → List Entry
entries stamp outs = map (entry_of noted stamp) outs

no_places : (p : Params) (b : Bool) (outs : List (Out Msg)) → flat_out (place_of p) outs ≡ [] → flat_out (λ w. cond b (place_of p w) []) outs ≡ cond b [] []
no_places p true outs silent = silent
no_places p false outs silent = flat_none outs

out_news : (p : Params) (stamp : Stamp) (outs : List (Out Msg)) → flat_out (place_of p) outs ≡ []
    → ((v : Instance) → length (filter (λ (o : Out Msg). is_gone_of v.0 (what_of noted o)) outs) ≡ one_if (any_out (is_gone_of v.0) outs))
    → News p stamp.beat (λ v. any_out (is_gone_of v) outs) [] (entries stamp outs)
unfolding gone_in gone_before places_got
out_news p stamp outs silent counted = record {
  by = stamped (λ e. e.stamp.beat ≤ stamp.beat) stamp (λ w. omega arith) outs;
  gone_said = λ v. any_noted stamp (is_gone_of v) outs;
  gone_here = λ v b. any_stamped stamp (λ s. s.beat == b) (is_gone_of v) outs;
  gone_by = λ v b. any_stamped stamp (λ s. nat_lt s.beat b) (is_gone_of v) outs;
  places_said = flat_stamped stamp (λ e. place_of p e.what) (place_of p) (λ w. refl) outs ∙ silent;
  places_by = λ b.
      flat_stamped stamp (place_in p b) (λ w. cond (nat_le stamp.beat b) (place_of p w) []) (λ w. refl) outs ∙ no_places p (nat_le stamp.beat b) outs silent;
  count = λ v. count_noted stamp (is_gone_of v) outs ∙ counted (record { 0 = v });
}

out_starts : (p : Params) (b : ℕ) (stamp : Stamp) (outs : List (Out Msg))
    → starts_sent p b (entries stamp outs) ≡ cond (stamp.beat == b) (flat_out (start_of p) outs) []
unfolding starts_sent
out_starts p b stamp outs =
    flat_stamped stamp (start_in p b) (λ w. cond (stamp.beat == b) (start_of p w) []) (λ w. refl) outs ∙ flat_if p (stamp.beat == b) outs

command_says : (p : Params) (os : List Order) (stamp : Stamp) (known : Known) (v : Instance) → IsPlan p → AreOrders p os → AreInForm p known
    → Says v (stops_in v (orders_in stamp.beat os) && takes_effect p stamp.reading known v) known (commanding p os stamp known)
unfolding commanding
command_says p os stamp known v plan are form =
    each_says p os stamp.reading v (orders_in stamp.beat os) known plan form (have_starts p os stamp.beat are)

command_sends : (p : Params) (os : List Order) (stamp : Stamp) (known : Known) → IsPlan p
    → flat_out (start_of p) (commanding p os stamp known).outs ≡ starts_ordered p stamp.beat os
unfolding commanding
command_sends p os stamp known plan = beat_sends p os stamp.reading stamp.beat known plan

neither_place : (b : Bool) → cond {A = List Tenancy} b [] [] ≡ []
neither_place true = refl
neither_place false = refl

-- a stop takes effect in the beat that ends where the journal says so afterwards
stopped_now : (p : Params) (os : List Order) (reading : ℕ → ℕ) (stamp : Stamp) (known : Known) (journal es : List Entry) (gone : ℕ → Bool) (v : ℕ)
    → Followed p os reading stamp.beat known journal → News p stamp.beat gone [] es → reading stamp.beat ≡ stamp.reading
    → is_stopped p os (journal ++ es) v stamp.beat (reading stamp.beat)
    ≡ (stops_in (record { 0 = v }) (orders_in stamp.beat os) && takes_effect p stamp.reading known (record { 0 = v }))
stopped_now p os reading stamp known journal es gone v f news e =
    let t = stamp.beat in
    let w : Instance = record { 0 = v } in
    let one : gone_before (journal ++ es) v t ≡ is_gone known.gone w =
    gone_before-append journal es v t
    ∙ (ap (λ x. gone_before journal v t || x) (news.gone_by v t ∙ ap (λ x. x && gone v) (not_itself t)) ∙ (or_false _ ∙ f.gone_early w)) in
    let two : place_known p (journal ++ es) v t ≡ tenancy_of known.placed w =
    ap (λ ts. found w ts)
    (places_got-append p t journal es ∙ (ap (λ ts. places_got p t journal ++ ts) (news.places_by t ∙ neither_place (nat_le t t))
    ∙ (append-nil _ ∙ places_got_all p t journal f.by)))
    ∙ f.places_are w in
    rw (e, one, two, stop_is_ordered v t os) refl

pub ticked : (p : Params) (os : List Order) (reading : ℕ → ℕ) (known : Known) (journal : List Entry) (stamp : Stamp)
    → IsPlan p → AreOrders p os → reading stamp.beat ≡ stamp.reading → Followed p os reading stamp.beat known journal
    → Followed p os reading (stamp.beat + 1) (commanding p os stamp known).state (journal ++ entries stamp (commanding p os stamp known).outs)
ticked p os reading known journal stamp plan are e f =
    let t = stamp.beat in
    let d = commanding p os stamp known in
    let es = entries stamp d.outs in
    let says : (v : Instance) → Says v (stops_in v (orders_in t os) && takes_effect p stamp.reading known v) known d =
    λ v. command_says p os stamp known v plan are f.in_form in
    let placed = (says (record { 0 = 0 })).placed in
    let news = out_news p stamp d.outs ((says (record { 0 = 0 })).silent p) (λ v. (says v).count ∙ ap one_if (sym (says v).said)) in
    let by = both_by t journal es f.by news.by in
    let gone_is : (v : Instance) → list_any (λ (e : Entry). is_gone_of v.0 e.what) (journal ++ es) ≡ is_gone d.state.gone v =
    λ v.
    list_any-append (λ (e : Entry). is_gone_of v.0 e.what) journal es
    ∙ (ap (λ x. x || list_any (λ (e : Entry). is_gone_of v.0 e.what) es) (f.gone_is v)
    ∙ (ap (λ x. is_gone known.gone v || x) (news.gone_said v.0 ∙ (says v).said) ∙ sym (says v).after)) in
    record {
      in_form = still_in_form p known d.state placed f.in_form;
      by = later_by t (t + 1) (journal ++ es) (omega arith) by;
      gone_is = gone_is;
      gone_early = λ v. gone_before_all t v.0 (journal ++ es) by ∙ gone_is v;
      places_are = λ v.
          both_places p v journal es
          ∙ (ap (λ o. option_or o (found v (all_places p es))) (f.places_are v)
          ∙ (ap (λ ts. option_or (tenancy_of known.placed v) (found v ts)) news.places_said
          ∙ (or_none _ ∙ ap (λ all. tenancy_of all v) (sym placed))));
      starts_are = λ b.
          starts_sent-append p b journal es
          ∙ (ap (λ xs. xs ++ starts_sent p b es) (f.starts_are b)
          ∙ (ap (λ xs. cond (nat_lt b t) (starts_ordered p b os) [] ++ xs)
          (out_starts p b stamp d.outs ∙ ap (λ xs. cond (t == b) xs []) (command_sends p os stamp known plan))
          ∙ (join_starts (nat_lt b t) (t == b) (starts_ordered p b os) (starts_ordered p t os) (below_differs b t)
          (λ same. ap (λ n. starts_ordered p n os) (eqb-true t b same))
          ∙ ap (λ c. cond c (starts_ordered p b os) []) (sym (below_next b t)))));
      stops_are = λ v b.
          gone_in-append journal es v b
          ∙ (ap (λ x. x || gone_in es v b) (f.stops_are v b)
          ∙ (ap (λ x. (nat_lt b t && is_stopped p os journal v b (reading b)) || x) (news.gone_here v b)
          ∙ (join_stops (nat_lt b t) (t == b) (is_stopped p os journal v b (reading b)) (any_out (is_gone_of v) d.outs)
          (is_stopped p os (journal ++ es) v b (reading b)) (below_differs b t)
          (λ before. stopped_before p os _ _ t journal es v b (reading b) news before)
          (λ same.
          ap (λ n. is_stopped p os (journal ++ es) v n (reading n)) (sym (eqb-true t b same))
          ∙ (stopped_now p os reading stamp known journal es _ v f news e ∙ sym (says (record { 0 = v })).said))
          ∙ ap (λ c. c && is_stopped p os (journal ++ es) v b (reading b)) (sym (below_next b t)))));
      once = λ v.
          count-append (λ (e : Entry). is_gone_of v.0 e.what) journal es
          ∙ (ap (λ n. n + length (filter (λ (e : Entry). is_gone_of v.0 e.what) es)) (f.once v)
          ∙ (ap (λ n. one_if (is_gone known.gone v) + n) (news.count v.0 ∙ ap one_if (says v).said)
          ∙ (one_more_gone (is_gone known.gone v) (stops_in v (orders_in t os)) (not (is_over p stamp.reading (tenancy_of known.placed v)))
          ∙ ap one_if (sym (says v).after))));
    }
