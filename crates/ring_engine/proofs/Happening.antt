-- The events of a node: what they make of it and of the links.
use Rattle.std.proofs.Common.{◌≡◌, ℕ, zero, suc, ◌+◌, ◌<◌, ◌≤◌, List, [], ◌∷◌, ◌++◌, map, drop, add-one, length, Bool, true, false, Option, Some, None, refl, ap, sym, ◌∙◌, subst, append_assoc, arith, ⊎_elim}
use Rattle.std.specs.Prelude.{Result, Ok, Err, OnOk, slice_get}
use Rattle.std.proofs.lemmas.Bool.{cases_Bool}
use Rattle.std.proofs.lemmas.Option.{none-some}
use Rattle.std.specs.List.{AllByRecursion}
use Rattle.tiger_base.specs.declared.number.Stamp.{Stamp}
use Rattle.tiger_base.specs.declared.number.LinkNo.{LinkNo}
use Rattle.tiger_base.specs.declared.message.Note.{Note}
use Rattle.slot_plan.specs.declared.params.Params.{Params}
use Rattle.node_kit.specs.declared.journal.What.TheVariants.{Got, Died}
use Rattle.node_kit.specs.declared.journal.Entry.{Entry}
use Rattle.node_kit.specs.declared.outbox.Out.{Out}
use Rattle.node_kit.specs.declared.outbox.Out.TheVariants.{Act}
use Rattle.node_kit.specs.Life.{Lifetime, acts, returns, ends_in, cut_to, trimmed, trimmed_to}
use Rattle.node_kit.specs.Outputs.{cut_at, with_death, ends_in_death}
use Rattle.node_kit.proofs.Cutting.{cut-all}
use Rattle.node_kit.specs.Links.{links_of, link_count, IsInLink}
use Rattle.node_kit.specs.Steps.{Input, Deed, Acts, Rests, IsAllowed, entry_of, entries_of, stamp_of}
use Rattle.node_kit.specs.Steps.Input.{Take, Tick}
use Rattle.node_kit.proofs.Ring.{ends_counted}
use Rattle.run_facts.specs.declared.mail.Letter.{Letter}
use Rattle.ring_engine.specs.Traffic.{posted, posted_one, letters_on, emptied, without_first, collected, after_collecting, AreOpen, IsPostable, IsLink}
use Rattle.run_facts.specs.Rings.{Traffic}
use Rattle.run_facts.specs.Beats.{is_taken, return_events, letter_events, end_events, beat_events}
use Rattle.run_facts.specs.Events.{NodeEvent, Past, after, after_all, after_input, after_cut, event_to, event_of}
use Rattle.run_facts.specs.Events.{is_tick_input, kept_outs, left_outs, outs_of, stamp_at, AreFair}
use Rattle.run_facts.specs.Events.NodeEvent.{Ends, Dies}
use Rattle.run_facts.proofs.Rows.{all-append}
use Rattle.run_facts.proofs.Along.{fair-append, event-unended}
use Rattle.run_facts.proofs.Beats.{last-acting, rests-past, rests-outs}
use Rattle.ring_engine.specs.Turns.{Scene, scene, turn, happens, happen, brought, brought_on, IsReady, IsReadyFor, KeepsReady}
use Rattle.ring_engine.proofs.Arriving.{length-posted, length-without_first, AreOpen-posted, AreOpen-emptied, AreOpen-without_first}
use Rattle.ring_engine.proofs.Commuting.{Waits, one-waits, all-wait, AreOfBeat, found-after, left-after, letters_on-first, emptied-first, emptied-none, without-none, nothing-first}
use Rattle.ring_engine.proofs.Delivering.{postable-allowed}

pub both-ok : {T E : Type 0} (P Q : Type 0) (r : Result T E) → OnOk r P → OnOk r Q → OnOk r (P × Q)
both-ok P Q (Ok x) p q = (p, q)
both-ok P Q (Err e) p q = tt

-- Died behind outputs sends nothing
posted-act : {M : Type 0} (beat : ℕ) (os : List (Out M)) (ts : List (Traffic M))
    → posted beat (os ++ Act Died ∷ []) ts ≡ posted beat os ts
posted-act beat [] ts = refl
posted-act beat (o ∷ os) ts = posted-act beat os (posted_one beat o ts)

posted-death : {M : Type 0} (beat : ℕ) (os : List (Out M)) (ts : List (Traffic M))
    → posted beat (with_death os) ts ≡ posted beat os ts
posted-death beat os ts = ⊎_elim
    (λ (e : ends_in_death os ≡ true). rw e refl)
    (λ (e : ends_in_death os ≡ false). rw e (posted-act beat os ts))
    (cases_Bool (ends_in_death os))

postable-death : {M : Type 0} (k : ℕ) (os : List (Out M)) → AllByRecursion (IsPostable k) os
    → AllByRecursion (IsPostable k) (with_death os)
postable-death {M} k os h = ⊎_elim
    (λ (e : ends_in_death os ≡ true). rw e h)
    (λ (e : ends_in_death os ≡ false). rw e (all-append (IsPostable {M = M} k) os (Act Died ∷ []) h (tt, tt)))
    (cases_Bool (ends_in_death os))

-- what is left of an event, cut off or not, may be sent
postable-to : {M : Type 0} (k : ℕ) (life : Lifetime) (stamp : Stamp) (os : List (Out M)) → AllByRecursion (IsPostable k) os
    → (cut : Option ℕ) → AllByRecursion (IsPostable k) (trimmed_to life stamp os cut).outs
postable-to k life stamp os h None = h
postable-to k life stamp os h (Some n) = postable-death k (cut_at n os) (cut-all (IsPostable k) n os h)

abbrev scene-of : {M S : Type 0} → Past S → List (Traffic M) → Scene M S
scene-of past ts = record { past = past; channels = ts }

-- and it is what happens
left-happens : {M S : Type 0} (note : M → Note) (step : S → Input M → Deed M S) (i : Input M) (past : Past S)
    (ts : List (Traffic M)) (cut : Option ℕ)
    → ◌≡◌ {A = Scene M S} (record {
      past = record {
        state = (step past.state i).state;
        life = (trimmed_to past.life (stamp_of i) (step past.state i).outs cut).life;
        journal = past.journal ++ entries_of note i (trimmed_to past.life (stamp_of i) (step past.state i).outs cut).outs;
      };
      channels = posted (stamp_of i).beat (trimmed_to past.life (stamp_of i) (step past.state i).outs cut).outs ts;
    })
    (happens note step (event_to i cut) (record { past = past; channels = ts }))
unfolding after_input after_cut kept_outs left_outs
left-happens note step i past ts None = refl
left-happens {M} {S} note step i past ts (Some k) =
    ap (λ (us : List (Traffic M)). scene-of (after note step (Ends i k) past) us)
    (posted-death (stamp_of i).beat (cut_at k (step past.state i).outs) ts)

-- trimming leaves what may be sent
trimmed-postable : {M : Type 0} (k : ℕ) (life : Lifetime) (stamp : Stamp) (ticked : Bool) (os : List (Out M)) → AllByRecursion (IsPostable k) os
    → AllByRecursion (IsPostable k) (trimmed life stamp ticked os).outs
unfolding trimmed
trimmed-postable k life stamp ticked os h = postable-to k life stamp os h (cut_to life stamp ticked os)

-- the outputs of an event can be sent
pub postable-event : {M S : Type 0} (note : M → Note) (step : S → Input M → Deed M S) (stands : S → Params → ℕ → Type 0) (i : Input M) (s s' : S)
    (before after kept : List (Out M)) (life : Lifetime) (stamp : Stamp) (ticked : Bool) (p : Params) (n k : ℕ) → Acts note step stands i s s' before after
    → before ≡ [] → kept ≡ (trimmed life stamp ticked after).outs → stands s p n → link_count (links_of p) ≡ k → AllByRecursion (IsPostable k) kept
postable-event note step stands i s s' before after kept life stamp ticked p n k acted none trim here count =
    let all : AllByRecursion (IsPostable k) (step s i).outs = postable-allowed note p n k (step s i).outs count (acted.allowed p n here) in
    let whole : after ≡ (step s i).outs = acted.appended ∙ ap (λ os. os ++ (step s i).outs) none in
    subst (AllByRecursion (IsPostable k)) (sym trim) (trimmed-postable k life stamp ticked after (subst (AllByRecursion (IsPostable k)) (sym whole) all))

-- a node took a message, and its outputs were delivered
pub taken : {M S : Type 0} (note : M → Note) (step : S → Input M → Deed M S) (stands : S → Params → ℕ → Type 0) (stamp : Stamp) (link : LinkNo) (msg : M) (s s' : S)
    (before after kept : List (Out M)) (life life' : Lifetime) (noted : Note) (j j1 j2 : List Entry) (ts ts' : List (Traffic M))
    → noted ≡ note msg → Acts note step stands (Take stamp link msg) s s' before after → before ≡ [] → life' ≡ (trimmed life stamp false after).life
    → kept ≡ (trimmed life stamp false after).outs → j1 ≡ j ++ (record { stamp = stamp; what = Got link noted }) ∷ []
    → j2 ≡ j1 ++ map (entry_of note stamp) kept → ts' ≡ posted stamp.beat kept ts
    → ◌≡◌ {A = Scene M S} (record { past = record { state = s'; life = life'; journal = j2 }; channels = ts' })
    (happens note step (event_of step (Take stamp link msg) (record { state = s; life = life; journal = j }))
    (record { past = record { state = s; life = life; journal = j }; channels = ts }))
unfolding event_of trimmed
taken note step stands stamp link msg s s' before after kept life life' noted j j1 j2 ts ts' says acted none lived trim got wrote sent =
    let whole : after ≡ (step s (Take stamp link msg)).outs = acted.appended ∙ ap (λ os. os ++ (step s (Take stamp link msg)).outs) none in
    let entries : j2 ≡ j ++ (record { stamp = stamp; what = Got link (note msg) }) ∷ map (entry_of note stamp) kept =
    wrote ∙ ap (λ x. x ++ map (entry_of note stamp) kept) (got ∙ ap (λ w. j ++ (record { stamp = stamp; what = Got link w }) ∷ []) says) ∙ append_assoc j ((record { stamp = stamp; what = Got link (note msg) }) ∷ []) (map (entry_of note stamp) kept) in
    rw (acted.moved, lived, entries, sent) (rw trim (rw whole
    (left-happens note step (Take stamp link msg) (record { state = s; life = life; journal = j }) ts
    (cut_to life stamp false (step s (Take stamp link msg)).outs))))

-- a node ticked, and its outputs were delivered
pub ticked : {M S : Type 0} (note : M → Note) (step : S → Input M → Deed M S) (stands : S → Params → ℕ → Type 0) (stamp : Stamp) (s s' : S)
    (before after kept : List (Out M)) (life life' : Lifetime) (j j2 : List Entry) (ts ts' : List (Traffic M))
    → Acts note step stands (Tick stamp) s s' before after → before ≡ [] → life' ≡ (trimmed life stamp true after).life
    → kept ≡ (trimmed life stamp true after).outs → j2 ≡ j ++ map (entry_of note stamp) kept → ts' ≡ posted stamp.beat kept ts
    → ◌≡◌ {A = Scene M S} (record { past = record { state = s'; life = life'; journal = j2 }; channels = ts' })
    (happens note step (event_of step (Tick stamp) (record { state = s; life = life; journal = j }))
    (record { past = record { state = s; life = life; journal = j }; channels = ts }))
unfolding event_of trimmed
ticked note step stands stamp s s' before after kept life life' j j2 ts ts' acted none lived trim wrote sent =
    let whole : after ≡ (step s (Tick stamp)).outs = acted.appended ∙ ap (λ os. os ++ (step s (Tick stamp)).outs) none in
    rw (acted.moved, lived, wrote, sent) (rw trim (rw whole
    (left-happens note step (Tick stamp) (record { state = s; life = life; journal = j }) ts
    (cut_to life stamp true (step s (Tick stamp)).outs))))

-- the tick of a node that rests leaves no trace, if no death comes in it
pub rested : {M S : Type 0} (note : M → Note) (step : S → Input M → Deed M S) (stamp : Stamp) (old : Scene M S)
    → ends_in old.past.life stamp.beat ≡ false → Rests step stamp old.past.state
    → old ≡ happens note step (event_of step (Tick stamp) old.past) old
rested note step stamp old unended quiet =
    rw (
      event-unended step (Tick stamp) old.past unended,
      rests-past note step stamp old.past quiet,
      rests-outs step stamp old.past quiet,
    ) refl

pub rested-keeps : {M S : Type 0} (note : M → Note) (step : S → Input M → Deed M S) (stands : S → Params → ℕ → Type 0) (stamp : Stamp) (old : Scene M S)
    → ends_in old.past.life stamp.beat ≡ false → Rests step stamp old.past.state
    → KeepsReady note step stands stamp.beat (event_of step (Tick stamp) old.past ∷ []) old old
rested-keeps note step stands stamp old unended quiet p n r = (
  r,
  (
    rw (event-unended step (Tick stamp) old.past unended)
        (subst (AllByRecursion (IsAllowed note p n)) (sym (rests-outs step stamp old.past quiet)) tt),
    tt,
  ),
)

-- what is left of an event, cut off or not, may be put out
fair-to : {M S : Type 0} (step : S → Input M → Deed M S) (P : Out M → Type 0) (i : Input M) (past : Past S)
    → AllByRecursion P (step past.state i).outs → (cut : Option ℕ)
    → AllByRecursion P (outs_of step (event_to i cut) past)
unfolding kept_outs left_outs
fair-to step P i past h None = h
fair-to step P i past h (Some k) = cut-all P k (step past.state i).outs h

fair-event : {M S : Type 0} (step : S → Input M → Deed M S) (P : Out M → Type 0) (i : Input M) (past : Past S)
    → AllByRecursion P (step past.state i).outs → AllByRecursion P (outs_of step (event_of step i past) past)
unfolding event_of
fair-event step P i past h =
    fair-to step P i past h (cut_to past.life (stamp_of i) (is_tick_input i) (step past.state i).outs)

-- an event keeps what is ready
pub ready-event : {M S : Type 0} (note : M → Note) (step : S → Input M → Deed M S) (stands : S → Params → ℕ → Type 0) (i : Input M) (s s' : S)
    (before after kept : List (Out M)) (life life' : Lifetime) (j j' : List Entry) (beat : ℕ) (ts ts' : List (Traffic M))
    → Acts note step stands i s s' before after → ts' ≡ posted beat kept ts
    → KeepsReady note step stands beat (event_of step i (record { state = s; life = life; journal = j }) ∷ [])
    (record { past = record { state = s; life = life; journal = j }; channels = ts })
    (record { past = record { state = s'; life = life'; journal = j' }; channels = ts' })
ready-event note step stands i s s' before after kept life life' j j' beat ts ts' acted sent p n r = (
  record {
    stands_here = acted.stays p n r.stands_here;
    count = r.count ∙ sym (ap length sent ∙ length-posted beat kept ts);
    are_open = subst (AreOpen beat) (sym sent) (AreOpen-posted beat kept ts r.are_open);
  },
  (fair-event step (IsAllowed note p n) i (record { state = s; life = life; journal = j }) (acted.allowed p n r.stands_here), tt),
)

-- the event that a letter brings, or none
pub heard : {M S : Type 0} (note : M → Note) (step : S → Input M → Deed M S) (stamp : Stamp) (l : Letter M) (old new : Scene M S) → is_taken old.past.life l.sent stamp.beat ≡ true
    → new ≡ happens note step (event_of step (Take stamp l.link l.msg) old.past) old
    → new ≡ happen note step (letter_events note step stamp (l ∷ []) old.past) old
heard note step stamp l old new yes_taken took = rw yes_taken took

pub unheard : {M S : Type 0} (note : M → Note) (step : S → Input M → Deed M S) (stamp : Stamp) (l : Letter M) (old : Scene M S) → is_taken old.past.life l.sent stamp.beat ≡ false
    → old ≡ happen note step (letter_events note step stamp (l ∷ []) old.past) old
unheard note step stamp l old lost = rw lost refl

-- in-links are links
pub links-lead : (p : Params) (n k : ℕ) (ls : List LinkNo) → link_count (links_of p) ≡ k → AllByRecursion (λ l. IsInLink p n l.0) ls → AllByRecursion (IsLink k) ls
links-lead p n k [] count h = tt
links-lead p n k (l ∷ ls) count h =
    let below = ends_counted (links_of p) l.0 (h.0.0, n) h.0.1 in
    (omega (arith, below, count), links-lead p n k ls count h.1)

-- what is ready for these links is ready for each of them
lead-at : (P : LinkNo → Type 0) (ls : List LinkNo) (k : ℕ) (l : LinkNo) → slice_get ls k ≡ Some l → AllByRecursion P ls → P l
lead-at P [] k l e h = absurd (none-some l e)
lead-at P (x ∷ xs) zero l e h = let same : x ≡ l = cc in subst P same h.0
lead-at P (x ∷ xs) (suc k) l e h = lead-at P xs k l e h.1

pub ready-link : {M S : Type 0} (stands : S → Params → ℕ → Type 0) (beat : ℕ) (ls : List LinkNo) (k : ℕ) (l : LinkNo) (s : Scene M S) → Some l ≡ slice_get ls k
    → IsReadyFor stands beat ls s → IsReadyFor stands beat (l ∷ []) s
ready-link stands beat ls k l s at r = record {
  params = r.params;
  number = r.number;
  ready = r.ready;
  lead = (lead-at (λ x. IsInLink r.params r.number x.0) ls k l (sym at) r.lead, tt);
}

-- it stays ready where the first message on a link is taken out
ready-without : {M S : Type 0} (stands : S → Params → ℕ → Type 0) (beat : ℕ) (link : LinkNo) (past : Past S) (ts ts' : List (Traffic M)) → ts' ≡ without_first beat link ts
    → (p : Params) (n : ℕ) → IsReady stands p n beat (record { past = past; channels = ts }) → IsReady stands p n beat (record { past = past; channels = ts' })
ready-without stands beat link past ts ts' left p n r = record {
  stands_here = r.stands_here;
  count = r.count ∙ sym (ap length left ∙ length-without_first beat link ts);
  are_open = subst (AreOpen beat) (sym left) (AreOpen-without_first beat link ts r.are_open);
}

pub ready-letter : {M S : Type 0} (stands : S → Params → ℕ → Type 0) (beat : ℕ) (link : LinkNo) (l : Letter M) (past : Past S) (ts ts' : List (Traffic M))
    → Some l ≡ slice_get (letters_on beat link ts) 0 → ts' ≡ without_first beat link ts → IsReadyFor stands beat (link ∷ []) (record { past = past; channels = ts })
    → IsReadyFor stands beat (l.link ∷ []) (record { past = past; channels = ts' })
ready-letter stands beat link l past ts ts' first left r = record {
  params = r.params;
  number = r.number;
  ready = ready-without stands beat link past ts ts' left r.params r.number r.ready;
  lead = subst (λ k. AllByRecursion (λ x. IsInLink r.params r.number x.0) (k ∷ [])) (letters_on-first beat link ts l (sym first)).1 r.lead;
}

pub ready-on : {M S : Type 0} (note : M → Note) (step : S → Input M → Deed M S) (stands : S → Params → ℕ → Type 0) (beat : ℕ) (es : List (NodeEvent M)) (link : LinkNo) (past : Past S) (ts ts' : List (Traffic M)) (new : Scene M S)
    → ts' ≡ without_first beat link ts → KeepsReady note step stands beat es (record { past = past; channels = ts' }) new
    → IsReadyFor stands beat (link ∷ []) (record { past = past; channels = ts }) → IsReadyFor stands beat (link ∷ []) new
ready-on note step stands beat es link past ts ts' new left keeps r = record {
  params = r.params;
  number = r.number;
  ready = (keeps r.params r.number (ready-without stands beat link past ts ts' left r.params r.number r.ready)).0;
  lead = r.lead;
}

pub ready-kept : {M S : Type 0} (note : M → Note) (step : S → Input M → Deed M S) (stands : S → Params → ℕ → Type 0) (beat : ℕ) (es : List (NodeEvent M)) (links : List LinkNo) (old new : Scene M S)
    → KeepsReady note step stands beat es old new → IsReadyFor stands beat links old → IsReadyFor stands beat links new
ready-kept note step stands beat es links old new keeps r =
    record { params = r.params; number = r.number; ready = (keeps r.params r.number r.ready).0; lead = r.lead }

pub ready-end : {M S : Type 0} (stands : S → Params → ℕ → Type 0) (beat : ℕ) (links : List LinkNo) (s : Scene M S) → IsReadyFor stands beat links s → IsReadyFor stands beat [] s
ready-end stands beat links s r = record { params = r.params; number = r.number; ready = r.ready; lead = tt }

pub same-keeps : {M S : Type 0} (note : M → Note) (step : S → Input M → Deed M S) (stands : S → Params → ℕ → Type 0) (beat : ℕ) (es : List (NodeEvent M)) (old new new' : Scene M S)
    → new' ≡ new → KeepsReady note step stands beat es old new → KeepsReady note step stands beat es old new'
same-keeps note step stands beat es old new new' same keeps = subst (λ q. KeepsReady note step stands beat es old q) (sym same) keeps

-- the end of a beat, where its events are known
pub ended : {M S : Type 0} (note : M → Note) (step : S → Input M → Deed M S) (es known : List (NodeEvent M)) (old new : Scene M S) → es ≡ known → new ≡ happen note step known old
    → new ≡ happen note step es old
ended note step es known old new is happened = happened ∙ ap (λ q. happen note step q old) (sym is)

pub ended-keeps : {M S : Type 0} (note : M → Note) (step : S → Input M → Deed M S) (stands : S → Params → ℕ → Type 0) (beat : ℕ) (es known : List (NodeEvent M)) (old new : Scene M S)
    → es ≡ known → KeepsReady note step stands beat known old new → KeepsReady note step stands beat es old new
ended-keeps note step stands beat es known old new is keeps = subst (λ q. KeepsReady note step stands beat q old new) (sym is) keeps

-- nothing happens to a node, or it dies: it is as ready as it was
pub idle-keeps : {M S : Type 0} (note : M → Note) (step : S → Input M → Deed M S) (stands : S → Params → ℕ → Type 0) (beat : ℕ) (old : Scene M S)
    → KeepsReady note step stands beat [] old old
idle-keeps note step stands beat old p n r = (r, tt)

pub died-keeps : {M S : Type 0} (note : M → Note) (step : S → Input M → Deed M S) (stands : S → Params → ℕ → Type 0) (stamp : Stamp) (past : Past S) (j : List Entry) (ts : List (Traffic M))
    → KeepsReady note step stands stamp.beat (Dies stamp ∷ []) (record { past = past; channels = ts }) (scene past.state past.life j ts)
died-keeps note step stands stamp past j ts p n r =
    (record { stands_here = r.stands_here; count = r.count; are_open = r.are_open }, (tt, tt))

pub died-is : {M S : Type 0} (note : M → Note) (step : S → Input M → Deed M S) (stamp : Stamp) (past : Past S) (j : List Entry) (ts : List (Traffic M))
    → j ≡ past.journal ++ (record { stamp = stamp; what = Died }) ∷ []
    → ◌≡◌ {A = Scene M S} (scene past.state past.life j ts) (happen note step (Dies stamp ∷ []) (record { past = past; channels = ts }))
died-is note step stamp past j ts wrote = rw wrote refl

pub none-keeps : {M S : Type 0} (note : M → Note) (step : S → Input M → Deed M S) (stands : S → Params → ℕ → Type 0) (stamp : Stamp) (ls : List (Letter M)) (old : Scene M S)
    → ls ≡ [] → KeepsReady note step stands stamp.beat (letter_events note step stamp ls old.past) old old
none-keeps note step stands stamp ls old none =
    subst (λ q. KeepsReady note step stands stamp.beat (letter_events note step stamp q old.past) old old) (sym none) (idle-keeps note step stands stamp.beat old)

-- events that follow others
happen-append : {M S : Type 0} (note : M → Note) (step : S → Input M → Deed M S) (es fs : List (NodeEvent M)) (s : Scene M S)
    → happen note step (es ++ fs) s ≡ happen note step fs (happen note step es s)
happen-append note step [] fs s = refl
happen-append note step (e ∷ es) fs s = happen-append note step es fs (happens note step e s)

pub happen-past : {M S : Type 0} (note : M → Note) (step : S → Input M → Deed M S) (es : List (NodeEvent M)) (s : Scene M S)
    → (happen note step es s).past ≡ after_all note step es s.past
happen-past note step [] s = refl
happen-past note step (e ∷ es) s = happen-past note step es (happens note step e s)

-- the events of letters that follow others
letter_events-append : {M S : Type 0} (note : M → Note) (step : S → Input M → Deed M S) (stamp : Stamp) (ls ks : List (Letter M)) (past : Past S)
    → letter_events note step stamp (ls ++ ks) past
    ≡ letter_events note step stamp ls past ++ letter_events note step stamp ks (after_all note step (letter_events note step stamp ls past) past)
letter_events-append note step stamp [] ks past = refl
letter_events-append {M} note step stamp (l ∷ ls) ks past =
    let e : NodeEvent M = event_of step (Take stamp l.link l.msg) past in
    ⊎_elim
    (λ (h : is_taken past.life l.sent stamp.beat ≡ true). rw h (ap (λ (es : List (NodeEvent M)). e ∷ es) (letter_events-append note step stamp ls ks (after note step e past))))
    (λ (h : is_taken past.life l.sent stamp.beat ≡ false). rw h (letter_events-append note step stamp ls ks past))
    (cases_Bool (is_taken past.life l.sent stamp.beat))

stamp-to : {M : Type 0} (i : Input M) (cut : Option ℕ) → stamp_at (event_to i cut) ≡ stamp_of i
stamp-to i None = refl
stamp-to i (Some k) = refl

stamp-event : {M S : Type 0} (step : S → Input M → Deed M S) (i : Input M) (past : Past S)
    → stamp_at (event_of step i past) ≡ stamp_of i
unfolding event_of
stamp-event step i past =
    stamp-to i (cut_to past.life (stamp_of i) (is_tick_input i) (step past.state i).outs)

letters-of-beat : {M S : Type 0} (note : M → Note) (step : S → Input M → Deed M S) (stamp : Stamp) (ls : List (Letter M)) (past : Past S)
    → AreOfBeat stamp.beat (letter_events note step stamp ls past)
letters-of-beat note step stamp [] past = tt
letters-of-beat {M} note step stamp (l ∷ ls) past =
    let e : NodeEvent M = event_of step (Take stamp l.link l.msg) past in
    ⊎_elim
    (λ (h : is_taken past.life l.sent stamp.beat ≡ true). rw h (
      ap (λ (s : Stamp). s.beat) (stamp-event step (Take stamp l.link l.msg) past),
      letters-of-beat note step stamp ls (after note step e past),
    ))
    (λ (h : is_taken past.life l.sent stamp.beat ≡ false). rw h (letters-of-beat note step stamp ls past))
    (cases_Bool (is_taken past.life l.sent stamp.beat))

-- letters are brought to a node: what is found afterwards is what was found before, and it may be brought then
brings-on : {M S : Type 0} (note : M → Note) (step : S → Input M → Deed M S) (stamp : Stamp) (found : List (Traffic M) → List (Letter M)) (left : List (Traffic M) → List (Traffic M))
    → Waits M stamp.beat found left → (before : List (Letter M)) (past : Past S) (ts : List (Traffic M)) (new : Scene M S) → AreOpen stamp.beat ts
    → new ≡ happen note step (letter_events note step stamp before past) (record { past = past; channels = ts })
    → happen note step (letter_events note step stamp (found new.channels) new.past) (record { past = new.past; channels = left new.channels })
    ≡ happen note step (letter_events note step stamp (before ++ found ts) past) (record { past = past; channels = left ts })
brings-on {M} {S} note step stamp found left waits before past ts new are_open took =
    let es = letter_events note step stamp before past in
    let s : Scene M S = record { past = past; channels = ts } in
    let s' : Scene M S = record { past = past; channels = left ts } in
    let mid : Scene M S = happen note step es s in
    let mid' : Scene M S = happen note step es s' in
    let then_past : Past S = after_all note step es past in
    let now = letters-of-beat note step stamp before past in
    let same : mid.past ≡ then_past = happen-past note step es s in
    let same' : mid'.past ≡ then_past = happen-past note step es s' in
    ap (λ (q : Scene M S). happen note step (letter_events note step stamp (found q.channels) q.past) (record { past = q.past; channels = left q.channels })) took
    ∙ ap (λ (ls : List (Letter M)). happen note step (letter_events note step stamp ls mid.past) (record { past = mid.past; channels = left mid.channels }))
    (found-after note step stamp.beat found left waits es past ts now are_open)
    ∙ ap (λ (q : Past S). happen note step (letter_events note step stamp (found ts) q) (record { past = q; channels = left mid.channels })) (same ∙ sym same')
    ∙ ap (λ (us : List (Traffic M)). happen note step (letter_events note step stamp (found ts) mid'.past) (record { past = mid'.past; channels = us }))
    (sym (left-after note step stamp.beat found left waits es past ts now are_open))
    ∙ ap (λ (q : Past S). happen note step (letter_events note step stamp (found ts) q) mid') same'
    ∙ sym (happen-append note step es (letter_events note step stamp (found ts) then_past) s')
    ∙ ap (λ (fs : List (NodeEvent M)). happen note step fs s') (sym (letter_events-append note step stamp before (found ts) past))

brings-keeps : {M S : Type 0} (note : M → Note) (step : S → Input M → Deed M S) (stands : S → Params → ℕ → Type 0) (stamp : Stamp) (found : List (Traffic M) → List (Letter M)) (left : List (Traffic M) → List (Traffic M))
    → Waits M stamp.beat found left → (before : List (Letter M)) (old : Scene M S) (ts : List (Traffic M)) (new last : Scene M S) → AreOpen stamp.beat ts
    → new ≡ happen note step (letter_events note step stamp before old.past) (record { past = old.past; channels = ts })
    → KeepsReady note step stands stamp.beat (letter_events note step stamp before old.past) old new
    → KeepsReady note step stands stamp.beat (letter_events note step stamp (found new.channels) new.past) new last
    → KeepsReady note step stands stamp.beat (letter_events note step stamp (before ++ found ts) old.past) old last
brings-keeps {M} {S} note step stands stamp found left waits before old ts new last are_open took keeps more p n r =
    let es = letter_events note step stamp before old.past in
    let s : Scene M S = record { past = old.past; channels = ts } in
    let then_past : Past S = after_all note step es old.past in
    let same : new.past ≡ then_past = ap (λ (q : Scene M S). q.past) took ∙ happen-past note step es s in
    let same_found : found new.channels ≡ found ts = ap (λ (q : Scene M S). found q.channels) took
    ∙ found-after note step stamp.beat found left waits es old.past ts (letters-of-beat note step stamp before old.past) are_open in
    let first = keeps p n r in
    let rest = more p n first.0 in
    let tail : AreFair note step p n (letter_events note step stamp (found ts) then_past) then_past =
    subst (λ (q : Past S). AreFair note step p n (letter_events note step stamp (found ts) q) q) same
    (subst (λ (ls : List (Letter M)). AreFair note step p n (letter_events note step stamp ls new.past) new.past) same_found rest.1) in (
      rest.0,
      subst (λ (fs : List (NodeEvent M)). AreFair note step p n fs old.past) (sym (letter_events-append note step stamp before (found ts) old.past))
          (fair-append note step p n es (letter_events note step stamp (found ts) then_past) old.past first.1 tail),
    )

-- the oldest letter of a link is taken
pub link-on : {M S : Type 0} (note : M → Note) (step : S → Input M → Deed M S) (stamp : Stamp) (link : LinkNo) (l : Letter M) (past : Past S) (ts ts' : List (Traffic M)) (new : Scene M S)
    → AreOpen stamp.beat ts → Some l ≡ slice_get (letters_on stamp.beat link ts) 0 → ts' ≡ without_first stamp.beat link ts
    → new ≡ happen note step (letter_events note step stamp (l ∷ []) past) (record { past = past; channels = ts' })
    → brought_on note step stamp link new ≡ brought_on note step stamp link (record { past = past; channels = ts })
unfolding brought_on
link-on {M} {S} note step stamp link l past ts ts' new are_open first out_of took =
    let rest : List (Traffic M) = without_first stamp.beat link ts in
    let took_first : new ≡ happen note step (letter_events note step stamp (l ∷ []) past) (record { past = past; channels = rest }) =
    took ∙ ap (λ (us : List (Traffic M)). happen note step (letter_events note step stamp (l ∷ []) past) (record { past = past; channels = us })) out_of in
    brings-on note step stamp (letters_on stamp.beat link) (emptied stamp.beat link) (one-waits stamp.beat link) (l ∷ []) past rest new
    (AreOpen-without_first stamp.beat link ts are_open) took_first
    ∙ ap (λ (ls : List (Letter M)). happen note step (letter_events note step stamp ls past) (record { past = past; channels = emptied stamp.beat link rest }))
    (sym (letters_on-first stamp.beat link ts l (sym first)).0)
    ∙ ap (λ (us : List (Traffic M)). happen note step (letter_events note step stamp (letters_on stamp.beat link ts) past) (record { past = past; channels = us }))
    (emptied-first stamp.beat link ts)

pub link-keeps : {M S : Type 0} (note : M → Note) (step : S → Input M → Deed M S) (stands : S → Params → ℕ → Type 0) (stamp : Stamp) (link : LinkNo) (l : Letter M) (past : Past S)
    (ts ts' : List (Traffic M)) (new last : Scene M S) → AreOpen stamp.beat ts → Some l ≡ slice_get (letters_on stamp.beat link ts) 0 → ts' ≡ without_first stamp.beat link ts
    → new ≡ happen note step (letter_events note step stamp (l ∷ []) past) (record { past = past; channels = ts' })
    → KeepsReady note step stands stamp.beat (letter_events note step stamp (l ∷ []) past) (record { past = past; channels = ts' }) new
    → KeepsReady note step stands stamp.beat (letter_events note step stamp (letters_on stamp.beat link new.channels) new.past) new last
    → KeepsReady note step stands stamp.beat (letter_events note step stamp (letters_on stamp.beat link ts) past) (record { past = past; channels = ts }) last
link-keeps {M} {S} note step stands stamp link l past ts ts' new last are_open first out_of took keeps more =
    let rest : List (Traffic M) = without_first stamp.beat link ts in
    let took_first : new ≡ happen note step (letter_events note step stamp (l ∷ []) past) (record { past = past; channels = rest }) =
    took ∙ ap (λ (us : List (Traffic M)). happen note step (letter_events note step stamp (l ∷ []) past) (record { past = past; channels = us })) out_of in
    let old : Scene M S = record { past = past; channels = ts } in
    subst (λ (ls : List (Letter M)). KeepsReady note step stands stamp.beat (letter_events note step stamp ls past) old last) (sym (letters_on-first stamp.beat link ts l (sym first)).0)
    (brings-keeps note step stands stamp (letters_on stamp.beat link) (emptied stamp.beat link) (one-waits stamp.beat link) (l ∷ []) old rest new last
    (AreOpen-without_first stamp.beat link ts are_open) took_first (λ p n r. keeps p n (ready-without stands stamp.beat link past ts ts' out_of p n r)) more)

-- one letter less has arrived
pub link-fewer : {M S : Type 0} (note : M → Note) (step : S → Input M → Deed M S) (stamp : Stamp) (link : LinkNo) (l : Letter M) (past : Past S) (ts ts' : List (Traffic M)) (new : Scene M S)
    → AreOpen stamp.beat ts → Some l ≡ slice_get (letters_on stamp.beat link ts) 0 → ts' ≡ without_first stamp.beat link ts
    → new ≡ happen note step (letter_events note step stamp (l ∷ []) past) (record { past = past; channels = ts' })
    → length (letters_on stamp.beat link new.channels) < length (letters_on stamp.beat link ts)
link-fewer {M} {S} note step stamp link l past ts ts' new are_open first out_of took =
    let rest : List (Traffic M) = without_first stamp.beat link ts in
    let same : letters_on stamp.beat link new.channels ≡ letters_on stamp.beat link rest =
    ap (λ (q : Scene M S). letters_on stamp.beat link q.channels) took
    ∙ ap (λ (us : List (Traffic M)). letters_on stamp.beat link (happen note step (letter_events note step stamp (l ∷ []) past) (record { past = past; channels = us })).channels) out_of
    ∙ found-after note step stamp.beat (letters_on stamp.beat link) (emptied stamp.beat link) (one-waits stamp.beat link) (letter_events note step stamp (l ∷ []) past) past rest
    (letters-of-beat note step stamp (l ∷ []) past) (AreOpen-without_first stamp.beat link ts are_open) in
    let more = ap length (letters_on-first stamp.beat link ts l (sym first)).0 in
    let few = ap length same in
    omega (arith, more, few)

-- where none has arrived on a link, nothing is brought on it
pub link-done : {M S : Type 0} (note : M → Note) (step : S → Input M → Deed M S) (stamp : Stamp) (link : LinkNo) (past : Past S) (ts ts' : List (Traffic M))
    → None ≡ slice_get (letters_on stamp.beat link ts) 0 → ts' ≡ without_first stamp.beat link ts
    → ◌≡◌ {A = Scene M S} (record { past = past; channels = ts' }) (brought_on note step stamp link (record { past = past; channels = ts }))
unfolding brought_on
link-done {M} {S} note step stamp link past ts ts' none out_of =
    ap (λ (us : List (Traffic M)). record { past = past; channels = us })
    (out_of ∙ without-none stamp.beat link ts (sym none) ∙ sym (emptied-none stamp.beat link ts (sym none)))
    ∙ ap (λ (ls : List (Letter M)). happen note step (letter_events note step stamp ls past) (record { past = past; channels = emptied stamp.beat link ts }))
    (sym (nothing-first (letters_on stamp.beat link ts) (sym none)))

pub link-done-keeps : {M S : Type 0} (note : M → Note) (step : S → Input M → Deed M S) (stands : S → Params → ℕ → Type 0) (stamp : Stamp) (link : LinkNo) (past : Past S) (ts ts' : List (Traffic M))
    → None ≡ slice_get (letters_on stamp.beat link ts) 0 → ts' ≡ without_first stamp.beat link ts
    → KeepsReady note step stands stamp.beat (letter_events note step stamp (letters_on stamp.beat link ts) past) (record { past = past; channels = ts }) (record { past = past; channels = ts' })
link-done-keeps {M} {S} note step stands stamp link past ts ts' none out_of =
    let old : Scene M S = record { past = past; channels = ts } in
    subst (λ (us : List (Traffic M)). KeepsReady note step stands stamp.beat (letter_events note step stamp (letters_on stamp.beat link ts) past) old (record { past = past; channels = us }))
    (sym (out_of ∙ without-none stamp.beat link ts (sym none)))
    (none-keeps note step stands stamp (letters_on stamp.beat link ts) old (nothing-first (letters_on stamp.beat link ts) (sym none)))

-- one link further
pub mail-on : {M S : Type 0} (note : M → Note) (step : S → Input M → Deed M S) (stamp : Stamp) (x : LinkNo) (rest todo : List LinkNo) (old new : Scene M S) → AreOpen stamp.beat old.channels
    → todo ≡ x ∷ rest → new ≡ brought_on note step stamp x old → brought note step stamp rest new ≡ brought note step stamp todo old
unfolding brought brought_on
mail-on {M} {S} note step stamp x rest todo old new are_open next took =
    brings-on note step stamp (collected stamp.beat rest) (after_collecting stamp.beat rest) (all-wait stamp.beat rest) (letters_on stamp.beat x old.channels) old.past
    (emptied stamp.beat x old.channels) new (AreOpen-emptied stamp.beat x old.channels are_open) took
    ∙ sym (ap (λ (ls : List LinkNo). happen note step (letter_events note step stamp (collected stamp.beat ls old.channels) old.past)
    (record { past = old.past; channels = after_collecting stamp.beat ls old.channels })) next)

pub mail-keeps : {M S : Type 0} (note : M → Note) (step : S → Input M → Deed M S) (stands : S → Params → ℕ → Type 0) (stamp : Stamp) (x : LinkNo) (rest todo : List LinkNo) (old new last : Scene M S)
    → AreOpen stamp.beat old.channels → todo ≡ x ∷ rest → new ≡ brought_on note step stamp x old
    → KeepsReady note step stands stamp.beat (letter_events note step stamp (letters_on stamp.beat x old.channels) old.past) old new
    → KeepsReady note step stands stamp.beat (letter_events note step stamp (collected stamp.beat rest new.channels) new.past) new last
    → KeepsReady note step stands stamp.beat (letter_events note step stamp (collected stamp.beat todo old.channels) old.past) old last
unfolding brought_on
mail-keeps {M} {S} note step stands stamp x rest todo old new last are_open next took keeps more =
    subst (λ (ls : List LinkNo). KeepsReady note step stands stamp.beat (letter_events note step stamp (collected stamp.beat ls old.channels) old.past) old last) (sym next)
    (brings-keeps note step stands stamp (collected stamp.beat rest) (after_collecting stamp.beat rest) (all-wait stamp.beat rest) (letters_on stamp.beat x old.channels) old
    (emptied stamp.beat x old.channels) new last (AreOpen-emptied stamp.beat x old.channels are_open) took keeps more)

-- where nothing has arrived, nothing is brought
pub mail-done : {M S : Type 0} (note : M → Note) (step : S → Input M → Deed M S) (stamp : Stamp) (ls : List LinkNo) (s : Scene M S) → collected stamp.beat ls s.channels ≡ []
    → after_collecting stamp.beat ls s.channels ≡ s.channels → s ≡ brought note step stamp ls s
unfolding brought
mail-done {M} {S} note step stamp ls s none left =
    ap (λ (us : List (Traffic M)). record { past = s.past; channels = us }) (sym left)
    ∙ ap (λ (found : List (Letter M)). happen note step (letter_events note step stamp found s.past) (record { past = s.past; channels = after_collecting stamp.beat ls s.channels })) (sym none)

-- the links from a place on
pub next-drop : {A : Type 0} (xs : List A) (n : ℕ) (x : A) → Some x ≡ slice_get xs n → drop n xs ≡ x ∷ drop (n + 1) xs
next-drop xs n x here = next xs n x here ∙ ap (λ k. x ∷ drop k xs) (sym (add-one n))
  where
    next : {A : Type 0} (xs : List A) (n : ℕ) (x : A) → Some x ≡ slice_get xs n → drop n xs ≡ x ∷ drop (suc n) xs
    next [] n x here = absurd (none-some x (sym here))
    next (y ∷ ys) zero x here = let same : y ≡ x = cc in ap (λ z. z ∷ ys) same
    next (y ∷ ys) (suc n) x here = next ys n x here

pub drop-past : {A : Type 0} (xs : List A) (n : ℕ) → length xs ≤ n → drop n xs ≡ []
drop-past [] zero past = refl
drop-past [] (suc n) past = refl
drop-past (x ∷ xs) zero past = absurd (omega (arith, past))
drop-past (x ∷ xs) (suc n) past = drop-past xs n (omega (arith, past))

pub mail-end : {M S : Type 0} (note : M → Note) (step : S → Input M → Deed M S) (stamp : Stamp) (ls : List LinkNo) (s : Scene M S) → ls ≡ [] → s ≡ brought note step stamp ls s
mail-end note step stamp ls s none = subst (λ ks. s ≡ brought note step stamp ks s) (sym none) (mail-done note step stamp [] s refl refl)

pub mail-end-keeps : {M S : Type 0} (note : M → Note) (step : S → Input M → Deed M S) (stands : S → Params → ℕ → Type 0) (stamp : Stamp) (ls : List LinkNo) (s : Scene M S) → ls ≡ []
    → KeepsReady note step stands stamp.beat (letter_events note step stamp (collected stamp.beat ls s.channels) s.past) s s
mail-end-keeps note step stands stamp ls s none =
    none-keeps note step stands stamp (collected stamp.beat ls s.channels) s (ap (λ ks. collected stamp.beat ks s.channels) none)

-- a return changes nothing
happen-back : {M S : Type 0} (note : M → Note) (step : S → Input M → Deed M S) (stamp : Stamp) (es : List (NodeEvent M))
    (s : Scene M S)
    → happen note step (return_events stamp s.past ++ es) s ≡ happen note step es s
happen-back note step stamp es s = ⊎_elim
    (λ (e : returns s.past.life stamp.beat ≡ true). rw e refl)
    (λ (e : returns s.past.life stamp.beat ≡ false). rw e refl)
    (cases_Bool (returns s.past.life stamp.beat))

fair-back : {M S : Type 0} (note : M → Note) (step : S → Input M → Deed M S) (p : Params) (n : ℕ) (stamp : Stamp)
    (es : List (NodeEvent M)) (past : Past S)
    → AreFair note step p n es past → AreFair note step p n (return_events stamp past ++ es) past
fair-back note step p n stamp es past h = ⊎_elim
    (λ (e : returns past.life stamp.beat ≡ true). rw e (tt, h))
    (λ (e : returns past.life stamp.beat ≡ false). rw e h)
    (cases_Bool (returns past.life stamp.beat))

-- a whole turn
pub turned : {M S : Type 0} (note : M → Note) (step : S → Input M → Deed M S) (stamp : Stamp) (links : List LinkNo) (old mid new : Scene M S) → mid ≡ brought note step stamp links old
    → new ≡ happen note step (end_events step stamp mid.past) mid → new ≡ turn note step stamp links old
unfolding turn beat_events brought
turned {M} {S} note step stamp links old mid new took ends =
    let s : Scene M S = record { past = old.past; channels = after_collecting stamp.beat links old.channels } in
    let all = letter_events note step stamp (collected stamp.beat links old.channels) old.past in
    let same : mid.past ≡ after_all note step all old.past = ap (λ (q : Scene M S). q.past) took ∙ happen-past note step all s in
    ends
    ∙ ap (λ (q : Scene M S). happen note step (end_events step stamp mid.past) q) took
    ∙ ap (λ (q : Past S). happen note step (end_events step stamp q) (happen note step all s)) same
    ∙ sym (happen-append note step all (end_events step stamp (after_all note step all old.past)) s)
    ∙ sym (happen-back note step stamp (all ++ end_events step stamp (after_all note step all old.past)) s)

pub turned-keeps : {M S : Type 0} (note : M → Note) (step : S → Input M → Deed M S) (stands : S → Params → ℕ → Type 0) (stamp : Stamp) (links : List LinkNo) (old mid new : Scene M S)
    → mid ≡ brought note step stamp links old
    → KeepsReady note step stands stamp.beat (letter_events note step stamp (collected stamp.beat links old.channels) old.past) old mid
    → KeepsReady note step stands stamp.beat (end_events step stamp mid.past) mid new
    → KeepsReady note step stands stamp.beat (beat_events note step stamp (collected stamp.beat links old.channels) old.past) old new
unfolding beat_events brought
turned-keeps {M} {S} note step stands stamp links old mid new took keeps ends p n r =
    let s : Scene M S = record { past = old.past; channels = after_collecting stamp.beat links old.channels } in
    let all = letter_events note step stamp (collected stamp.beat links old.channels) old.past in
    let same : mid.past ≡ after_all note step all old.past = ap (λ (q : Scene M S). q.past) took ∙ happen-past note step all s in
    let first = keeps p n r in
    let second = ends p n first.0 in
    let end = end_events step stamp (after_all note step all old.past) in
    let tail : AreFair note step p n end (after_all note step all old.past) =
    subst (λ (q : Past S). AreFair note step p n (end_events step stamp q) q) same second.1 in
    (second.0, fair-back note step p n stamp (all ++ end) old.past (fair-append note step p n all end old.past first.1 tail))

-- the turn of a node at which nothing arrives, and whose tick would leave no trace
pub idle-turned : {M S : Type 0} (note : M → Note) (step : S → Input M → Deed M S) (stamp : Stamp) (links : List LinkNo) (s : Scene M S)
    → collected stamp.beat links s.channels ≡ [] → after_collecting stamp.beat links s.channels ≡ s.channels → acts s.past.life stamp.beat ≡ true
    → ends_in s.past.life stamp.beat ≡ false → Rests step stamp s.past.state
    → s ≡ turn note step stamp links s
idle-turned note step stamp links s none left live unended quiet =
    turned note step stamp links s s s (mail-done note step stamp links s none left)
    (ended note step (end_events step stamp s.past) (event_of step (Tick stamp) s.past ∷ []) s s
    (last-acting step stamp s.past live) (rested note step stamp s unended quiet))

pub idle-turned-keeps : {M S : Type 0} (note : M → Note) (step : S → Input M → Deed M S) (stands : S → Params → ℕ → Type 0) (stamp : Stamp) (links : List LinkNo) (s : Scene M S)
    → collected stamp.beat links s.channels ≡ [] → after_collecting stamp.beat links s.channels ≡ s.channels → acts s.past.life stamp.beat ≡ true
    → ends_in s.past.life stamp.beat ≡ false → Rests step stamp s.past.state
    → KeepsReady note step stands stamp.beat (beat_events note step stamp (collected stamp.beat links s.channels) s.past) s s
idle-turned-keeps note step stands stamp links s none left live unended quiet =
    turned-keeps note step stands stamp links s s s (mail-done note step stamp links s none left) (none-keeps note step stands stamp (collected stamp.beat links s.channels) s none)
    (ended-keeps note step stands stamp.beat (end_events step stamp s.past) (event_of step (Tick stamp) s.past ∷ []) s s
    (last-acting step stamp s.past live) (rested-keeps note step stands stamp s unended quiet))
