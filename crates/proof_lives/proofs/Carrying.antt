-- What the record of a run gives of the cubs of a history: clocks, carrying, and that nobody is a whole beat behind.
use Rattle.std.proofs.Common.{◌≡◌, ℕ, zero, suc, ◌+◌, ◌-◌, ◌<◌, ◌≤◌, ◌%◌, ◌==◌, List, [], ◌∷◌, ◌++◌, length, true, false, Option, Some, None, refl, sym, ap, subst, ◌∙◌, arith, ⊎_elim, inl, inr}
use Rattle.std.specs.Prelude.{◌⊎◌, slice_get}
use Rattle.std.proofs.lemmas.Bool.{eqb-true, eq-eqb}
use Rattle.std.proofs.lemmas.Nat.{mod_below}
use Rattle.std.proofs.lemmas.Option.{none-some}
use Rattle.std.proofs.Math.Nat.{mod-eq_of_lt, add-mod_right, mod-add-mod}
use Rattle.tiger_base.specs.declared.number.LinkNo.{LinkNo}
use Rattle.tiger_base.specs.declared.number.Stamp.{Stamp}
use Rattle.tiger_base.specs.declared.message.Msg.{Msg}
use Rattle.tiger_base.specs.Notes.{noted}
use Rattle.slot_plan.specs.declared.params.Params.{Params}
use Rattle.slot_plan.specs.Conditions.{IsPlan}
use Rattle.slot_plan.specs.Times.{cub_of}
pub use Rattle.node_kit.proofs.Ring.{steps_made}
use Rattle.node_kit.specs.declared.outbox.Out.{Out}
use Rattle.node_kit.specs.declared.outbox.Out.TheVariants as out
use Rattle.node_kit.specs.Links.{links_of, ends_of}
use Rattle.node_kit.specs.Steps.{Deed, Input, stamp_of}
use Rattle.node_kit.specs.Steps.Input.{Take, Tick}
use Rattle.node_kit.proofs.Ring.{ends_between}
use Rattle.node_kit.specs.Ways.{way_ahead, predecessor}
use Rattle.node_kit.proofs.Ways.{links_sound}
use Rattle.run_facts.specs.Events.{NodeEvent, Dated, stamp_at, is_tick, is_take_on, sends_of, is_tick_input}
use Rattle.run_facts.specs.Events.NodeEvent.{Does, Ends, Dies, Returns}
use Rattle.run_facts.specs.Histories.{History, IsRun, TakesAt, outs, beat, place}
use Rattle.run_facts.proofs.Counts.{sent-numbered}
use Rattle.lists.specs.Elements.{In}
use Rattle.proof_lives.specs.Histories.{input_of, has_input, cut_of_event}
use Rattle.lists.proofs.Elements.{chosen}

-- an event and what befell the node in it
pub stamp_same : (e : NodeEvent Msg) → stamp_at e ≡ stamp_of (input_of e)
stamp_same (Does i) = refl
stamp_same (Ends i sends) = refl
stamp_same (Dies stamp) = refl
stamp_same (Returns stamp) = refl

-- an event with an input is a whole step at it, or its node's death comes there
pub tick_same : (e : NodeEvent Msg) → has_input e ≡ true → is_tick e ≡ is_tick_input (input_of e)
tick_same (Does (Take stamp link m)) t = refl
tick_same (Does (Tick stamp)) t = refl
tick_same (Ends i sends) t = refl
tick_same (Dies stamp) t = absurd (cc)
tick_same (Returns stamp) t = absurd (cc)

pub does_it : (e : NodeEvent Msg) → has_input e ≡ true
    → (e ≡ Does (input_of e)) ⊎ ((k : ℕ) × (e ≡ Ends (input_of e) k))
does_it (Does i) t = inl refl
does_it (Ends i sends) t = inr (sends, refl)
does_it (Dies stamp) t = absurd (cc)
does_it (Returns stamp) t = absurd (cc)

-- no death comes in the one, and in the other so many messages go out
pub does_whole : (e : NodeEvent Msg) → has_input e ≡ true → cut_of_event e ≡ None → e ≡ Does (input_of e)
does_whole (Does i) t whole = refl
does_whole (Ends i sends) t whole = absurd (cc)
does_whole (Dies stamp) t whole = absurd (cc)
does_whole (Returns stamp) t whole = absurd (cc)

pub ends_at : (e : NodeEvent Msg) (k : ℕ) → cut_of_event e ≡ Some k → e ≡ Ends (input_of e) k
ends_at (Does i) k cut = absurd (cc)
ends_at (Ends i sends) k cut = let z : sends ≡ k = cc in ap (λ (n : ℕ). Ends i n) z
ends_at (Dies stamp) k cut = absurd (cc)
ends_at (Returns stamp) k cut = absurd (cc)

-- a message that is an event's input is taken in it
pub takes_it : (e : NodeEvent Msg) (stamp : Stamp) (link : LinkNo) (m : Msg) → has_input e ≡ true
    → input_of e ≡ Take stamp link m → TakesAt e stamp link m
takes_it e stamp link m t is = ⊎_elim
    (λ (q : e ≡ Does (input_of e)). inl (q ∙ ap (λ (i : Input Msg). Does i) is))
    (λ (q : (k : ℕ) × (e ≡ Ends (input_of e) k)). inr (q.0, q.1 ∙ ap (λ (i : Input Msg). Ends i q.0) is))
    (does_it e t)

pub taken_input : (e : NodeEvent Msg) (stamp : Stamp) (link : LinkNo) (m : Msg) → TakesAt e stamp link m
    → (has_input e ≡ true) × (input_of e ≡ Take stamp link m)
taken_input e stamp link m took = ⊎_elim
    (λ (q : e ≡ Does (Take stamp link m)). (ap has_input q, ap input_of q))
    (λ (q : (sends : ℕ) × (e ≡ Ends (Take stamp link m) sends)). (ap has_input q.1, ap input_of q.1))
    took

-- what is sent on a link in an event
-- an output that sends a message on a link
abbrev pub IsSending : ℕ → ℕ → List (Out Msg) → Dated Msg → Type 0
IsSending l b os d = (way : LinkNo) × (way.0 ≡ l) × In (out.Send way d.item) os × (d.beat ≡ b)

pub sending_later : (l b : ℕ) (o : Out Msg) (os : List (Out Msg)) (d : Dated Msg) → IsSending l b os d → IsSending l b (o ∷ os) d
sending_later l b o os d r = (r.0, r.1, inr r.2, r.3)

pub sends_first : (l b : ℕ) (link : LinkNo) (m : Msg) (os : List (Out Msg)) (d : Dated Msg) → link.0 ≡ l → ((j : ℕ) → slice_get (sends_of l b os) j ≡ Some d → IsSending l b os d)
    → (j : ℕ) → slice_get ((record { beat = b; item = m }) ∷ sends_of l b os) j ≡ Some d → IsSending l b (out.Send link m ∷ os) d
sends_first l b link m os d t more zero q =
    let z : record { beat = b; item = m } ≡ d = cc in
    (link, t, inl (ap (λ (x : Dated Msg). out.Send link x.item) (sym z)), ap (λ (x : Dated Msg). x.beat) (sym z))
sends_first l b link m os d t more (suc j) q = sending_later l b (out.Send link m) os d (more j q)

pub sends_in : (l b : ℕ) (os : List (Out Msg)) (d : Dated Msg) (k : ℕ) → slice_get (sends_of l b os) k ≡ Some d → IsSending l b os d
sends_in l b [] d k e = absurd (none-some d e)
sends_in l b (out.Act what ∷ os) d k e = sending_later l b (out.Act what) os d (sends_in l b os d k e)
sends_in l b (out.Send link m ∷ os) d k e =
    let more : (j : ℕ) → slice_get (sends_of l b os) j ≡ Some d → IsSending l b os d = λ j q. sends_in l b os d j q in
    chosen (λ (ds : List (Dated Msg)). slice_get ds k ≡ Some d → IsSending l b (out.Send link m ∷ os) d) (link.0 == l)
    ((record { beat = b; item = m }) ∷ sends_of l b os) (sends_of l b os)
    (λ t q. sends_first l b link m os d (eqb-true _ _ t) more k q)
    (λ _ q. sending_later l b (out.Send link m) os d (more k q))
    e

-- what is put out on a link has a place among what is sent there
pub sends_place : (l b : ℕ) (os : List (Out Msg)) (link : LinkNo) (m : Msg) → link.0 ≡ l → In (out.Send link m) os → (k : ℕ) × (slice_get (sends_of l b os) k ≡ Some (record { beat = b; item = m }))
sends_place l b [] link m e i = absurd i
sends_place l b (out.Act what ∷ os) link m e i = ⊎_elim
    (λ (q : out.Send link m ≡ out.Act what). absurd (cc))
    (λ q. sends_place l b os link m e q)
    i
sends_place l b (out.Send way n ∷ os) link m e i =
    let more : In (out.Send link m) os → (k : ℕ) × (slice_get (sends_of l b os) k ≡ Some (record { beat = b; item = m })) = λ q. sends_place l b os link m e q in
    chosen (λ (ds : List (Dated Msg)). (k : ℕ) × (slice_get ds k ≡ Some (record { beat = b; item = m }))) (way.0 == l)
    ((record { beat = b; item = n }) ∷ sends_of l b os) (sends_of l b os)
    (λ t. ⊎_elim
    (λ (q : out.Send link m ≡ out.Send way n). let z : m ≡ n = cc in (0, ap (λ (x : Msg). Some (record { beat = b; item = x })) (sym z)))
    (λ q. let r = more q in (suc r.0, r.1))
    i)
    (λ t. ⊎_elim
    (λ (q : out.Send link m ≡ out.Send way n). let z : link ≡ way = cc in let w : true ≡ false = sym (eq-eqb _ _ (ap (λ (x : LinkNo). x.0) (sym z) ∙ e)) ∙ t in absurd (cc))
    (λ q. more q)
    i)

pub get_behind : {X : Type 0} (xs ys : List X) (k : ℕ) (x : X) → slice_get ys k ≡ Some x → slice_get (xs ++ ys) (length xs + k) ≡ Some x
get_behind [] ys k x e = let z : 0 + k ≡ k = omega arith in subst (λ n. slice_get ys n ≡ Some x) (sym z) e
get_behind (z ∷ zs) ys k x e = let w : suc (length zs + k) ≡ suc (length zs) + k = omega arith in subst (λ n. slice_get (z ∷ zs ++ ys) n ≡ Some x) w (get_behind zs ys k x e)

-- the links from a cub to those ahead
pub way_ends : (p : Params) (c k : ℕ) → IsPlan p → c < p.cubs → 1 ≤ k → k ≤ 2 → ends_of (links_of p) (way_ahead p c k).0 ≡ Some (c, cub_of p (c + k))
unfolding way_ahead cub_of
way_ends p c k plan here low high =
    let links = links_sound p plan in
    let made : ((c + k) % p.cubs + p.cubs - c) % p.cubs ≡ k = steps_made c k p.cubs here (omega (arith, plan.ranges.cubs)) in
    let to : (c + k) % p.cubs < p.cubs = mod_below (c + k) p.cubs (omega (arith, plan.ranges.cubs)) in
    let e = ends_between (links_of p) c ((c + k) % p.cubs) links here to (rw made low) (rw made (omega arith)) in
    rw made at e

-- the cub before the next one
pub before_next : (p : Params) (a c : ℕ) → a < p.cubs → c ≡ cub_of p (a + 1) → predecessor p c ≡ a
unfolding predecessor cub_of
before_next p a c small e =
    let round : a + 1 + (p.cubs - 1) ≡ a + p.cubs = omega arith in
    ap (λ n. (n + (p.cubs - 1)) % p.cubs) e ∙ mod-add-mod (a + 1) p.cubs (p.cubs - 1) ∙ ap (λ n. n % p.cubs) round ∙ add-mod_right a p.cubs ∙ mod-eq_of_lt small

-- from one of the first two links
pub way_of : (p : Params) (c : ℕ) (link : LinkNo) → (link ≡ way_ahead p c 1) ⊎ (link ≡ way_ahead p c 2) → (k : ℕ) × (1 ≤ k) × (k ≤ 2) × ((k ≡ 1) ⊎ (k ≡ 2)) × (link ≡ way_ahead p c k)
way_of p c link w = ⊎_elim (λ e. (1, omega arith, omega arith, inl refl, e)) (λ e. (2, omega arith, omega arith, inr refl, e)) w

pub same_ends : (a b c d : ℕ) → ◌≡◌ {A = Option (ℕ × ℕ)} (Some (a, b)) (Some (c, d)) → (a ≡ c) × (b ≡ d)
same_ends a b c d e =
    (ap (λ (o : Option (ℕ × ℕ)). (elim o as (λ _. ℕ) [ Some q ↦ q.0 | None ↦ 0 ])) e, ap (λ (o : Option (ℕ × ℕ)). (elim o as (λ _. ℕ) [ Some q ↦ q.1 | None ↦ 0 ])) e)

pub same_dated : (a b : Dated Msg) → Some a ≡ Some b → a ≡ b
same_dated a b e = cc

pub is_take : (l : ℕ) (e : NodeEvent Msg) → is_take_on l e ≡ true
    → (stamp : Stamp) × (link : LinkNo) × (m : Msg) × TakesAt e stamp link m × (link.0 ≡ l)
is_take l (Does (Take stamp link m)) t = (stamp, link, m, inl refl, eqb-true _ _ t)
is_take l (Does (Tick stamp)) t = absurd (cc)
is_take l (Ends (Take stamp link m) sends) t = (stamp, link, m, inr (sends, refl), eqb-true _ _ t)
is_take l (Ends (Tick stamp) sends) t = absurd (cc)
is_take l (Dies stamp) t = absurd (cc)
is_take l (Returns stamp) t = absurd (cc)

-- what the record of a run gives of each link, whatever the nodes do
module _ {S : Type 0} (step : S → Input Msg → Deed Msg S) (p : Params) (nodes : ℕ) (h : History Msg S)
    (run : IsRun noted step p nodes h) where
  -- who sent what a node took
  pub record CameFrom (c i : ℕ) (b : ℕ) (link : LinkNo) (m : Msg) : Type 0 where
    pub from : ℕ
    pub known : from < nodes
    pub at : ℕ
    pub done : at < h.count from
    pub way : LinkNo
    pub same : way.0 ≡ link.0
    pub sent : In (out.Send way m) (outs noted step h from at)
    pub ends : ends_of (links_of p) link.0 ≡ Some (from, c)
    pub later : beat h from at < b
    pub soon : b ≤ beat h from at + p.delay

  pub came_to : (c i : ℕ) (stamp : Stamp) (link : LinkNo) (m : Msg) → c < nodes → i < h.count c → TakesAt (h.event c i) stamp link m → CameFrom c i stamp.beat link m
  came_to c i stamp link m inside low took =
      let k = run.carried c i stamp link m inside low took in
      let s = sent-numbered noted step link.0 h k.from (h.count k.from) (place link.0 h c i) (record { beat = k.when; item = m }) k.was_sent in
      let r = sends_in link.0 (beat h k.from s.at) (outs noted step h k.from s.at) (record { beat = k.when; item = m }) s.place s.sends in
      let when : k.when ≡ beat h k.from s.at = r.3 in
      let later = k.later in
      let soon = k.soon in
      record { from = k.from; known = k.known; at = s.at; done = s.before; way = r.0; same = r.1; sent = r.2; ends = k.ends; later = omega arith; soon = omega arith }
