-- At each input a stored part comes only by an answer that has a record, and goes only if the input may cost it.
use Rattle.std.proofs.Common.{◌≡◌, ℕ, ◌<◌, List, [], ◌∷◌, filter, Bool, true, false, not, Option, Some, refl, sym, ap, subst, ◌∙◌, arith, ⊎_elim, inl, inr}
use Rattle.std.specs.Prelude.{◌⊎◌}
use Rattle.std.proofs.lemmas.Bool.{cases_Bool, eqb-true, and_parts, ltb-true}
use Rattle.tiger_base.specs.declared.number.Instance.{Instance}
use Rattle.tiger_base.specs.declared.number.LinkNo.{LinkNo}
use Rattle.tiger_base.specs.declared.number.Stamp.{Stamp}
use Rattle.tiger_base.specs.declared.tenancy.Want.{Want}
use Rattle.tiger_base.specs.Span.{LibraryPart}
use Rattle.tiger_base.specs.declared.message.Msg.{Msg}
use Rattle.tiger_base.specs.declared.message.Msg.TheVariants as msg
use Rattle.tiger_base.specs.Notes.{noted}
use Rattle.slot_plan.specs.declared.params.Params.{Params}
use Rattle.node_kit.specs.Form.{is_in_form}
use Rattle.node_kit.specs.Steps.{Deed, Input}
use Rattle.node_kit.specs.Steps.Input.{Take, Tick}
use Rattle.node_kit.specs.Deeds.{nothing, then_do}
use Rattle.cub_rules.specs.declared.store.Store.{Store}
use Rattle.cub_rules.specs.declared.store.StoredPart.{StoredPart}
use Rattle.cub_rules.specs.Records.{is_part_of}
use Rattle.cub_rules.specs.Messages.{is_wanted, is_piece_part, storing, taking}
use Rattle.cub_rules.specs.Ticks.{is_stale, releasing, believing, inserting, splitting, forwarding, reading}
use Rattle.cub_changes.specs.Changes.Change.{DropPieces, DropKilled, StorePart, Release}
use Rattle.cub_changes.specs.Causes.{Stage, Cause, IsDeschedule, IsKill, IsAnswer}
use Rattle.cub_changes.specs.Causes.Stage.{OnMessage, OnRelease, OnDeadman, OnInsertion, OnService}
use Rattle.cub_changes.proofs.Chains.{ignores, takes_answer}
use Rattle.cub_changes.proofs.Closed.{IsClosed, OfEach, then_by}
use Rattle.cub_changes.proofs.Fits.{fits}
use Rattle.cub_changes.proofs.Messages.{taking_by}
use Rattle.cub_changes.proofs.Puts.{inserting_by}
use Rattle.cub_changes.proofs.Ticks.{IsOfTick, releasing_by, believing_by, splitting_by, forwarding_by, reading_by, ticking_by}
use Rattle.proof_lives.specs.Lives.{deed_of}
use Rattle.lists.specs.Elements.{In}
use Rattle.lists.proofs.Elements.{in_left, in_cases, in_filter, from_filter}
use Rattle.proof_facts.specs.Pieces.{before_serving}
use Rattle.proof_parts.specs.Parts.{MayCost}

-- a list without those that pass a test
but_stays : {X : Type 0} (test : X → Bool) (x : X) (xs : List X) → In x xs
    → In x (filter (λ y. not (test y)) xs) ⊎ (test x ≡ true)
but_stays test x xs h = ⊎_elim
    (λ (t : test x ≡ true). inr t)
    (λ (f : test x ≡ false). inl (in_filter (λ y. not (test y)) x xs h (ap not f)))
    (cases_Bool (test x))

but_had : {X : Type 0} (test : X → Bool) (x : X) (xs : List X) → In x (filter (λ y. not (test y)) xs) → In x xs
but_had test x xs h = (from_filter (λ y. not (test y)) x xs h).0

-- What a deed does to one part: it goes only for this cause, and comes only for that one.
record Moves (x : StoredPart) (Costs Comes : Type 0) (h : Store) (d : Deed Msg Store) : Type 0 where
  stays : In x h.parts → In x d.state.parts ⊎ Costs
  came : In x d.state.parts → In x h.parts ⊎ Comes

module _ (x : StoredPart) (Costs Comes : Type 0) where
  moves_closed : IsClosed (Moves x Costs Comes)
  moves_closed = record {
    none = λ h. record { stays = λ k. inl k; came = λ k. inl k };
    both = λ h d e one two. record {
      stays = λ k. ⊎_elim (λ q. two.stays q) (λ q. inr q) (one.stays k);
      came = λ k. ⊎_elim (λ q. one.came q) (λ q. inr q) (two.came k);
    };
  }

  module _ (p : Params) (c : ℕ) (stamp : Stamp) (g : Stage) (from : Store)
      (stop : (v : Instance) → IsDeschedule g v → is_part_of v x ≡ true → Costs)
      (kill : (v : Instance) (n : ℕ) → IsKill g v n → is_piece_part v n x ≡ true → Costs)
      (old : Cause p c stamp g from Release from → is_stale p stamp.reading x ≡ true → Costs)
      (answer : (want : Want) (part : LibraryPart) (h : Store) → IsAnswer g want (Some part) h
      → x ≡ record { want = want; part = part } → Comes) where
    -- each change moves the part only so
    moves_each : OfEach (Moves x Costs Comes) p c stamp g from
    moves_each (DropPieces v) h cause = record {
      stays = λ k. ⊎_elim (λ q. inl q) (λ t. inr (stop v cause t)) (but_stays (is_part_of v) x h.parts k);
      came = λ k. inl (but_had (is_part_of v) x h.parts k);
    }
    moves_each (DropKilled v n) h cause = record {
      stays = λ k. ⊎_elim (λ q. inl q) (λ t. inr (kill v n cause t)) (but_stays (is_piece_part v n) x h.parts k);
      came = λ k. inl (but_had (is_piece_part v n) x h.parts k);
    }
    moves_each Release h cause = record {
      stays = λ k. ⊎_elim (λ q. inl q) (λ t. inr (old cause t)) (but_stays (is_stale p stamp.reading) x h.parts k);
      came = λ k. inl (but_had (is_stale p stamp.reading) x h.parts k);
    }
    moves_each (StorePart want part) h cause = record {
      stays = λ k. inl (in_left x h.parts (record { want = want; part = part } ∷ []) k);
      came = λ k. ⊎_elim (λ q. inl q) (λ q. ⊎_elim (λ e. inr (answer want part h cause e)) (λ e. absurd e) q)
          (in_cases x h.parts (record { want = want; part = part } ∷ []) k);
    }
    moves_each other h cause = record { stays = λ k. inl k; came = λ k. inl k }

-- ---- what costs it, and what brings it, as inputs

stopped : (p : Params) (stamp : Stamp) (link : LinkNo) (m : Msg) (x : StoredPart) (v : Instance)
    → IsDeschedule (OnMessage link m) v
    → is_part_of v x ≡ true → MayCost p (Take stamp link m) x
stopped p stamp link (msg.Deschedule w tag) x v e t = eqb-true _ _ t ∙ ap (λ (u : Instance). u.0) e
stopped p stamp link other x v e t = absurd e

killed : (p : Params) (stamp : Stamp) (link : LinkNo) (m : Msg) (x : StoredPart) (v : Instance) (n : ℕ)
    → IsKill (OnMessage link m) v n
    → is_piece_part v n x ≡ true → MayCost p (Take stamp link m) x
killed p stamp link (msg.Kill w slot q) x v n e t =
    let one = and_parts _ _ t in
    let two = and_parts _ _ one.0 in
    let low : 0 < x.want.piece = ltb-true _ _ one.1 in
    (eqb-true _ _ two.0 ∙ ap (λ (u : Instance). u.0) e.0, eqb-true _ _ two.1 ∙ e.1, omega arith)
killed p stamp link other x v n e t = absurd e

answered : (link : LinkNo) (m : Msg) (want : Want) (part : LibraryPart) (h : Store)
    → IsAnswer (OnMessage link m) want (Some part) h
    → m ≡ msg.ReadDone want (Some part)
answered link (msg.ReadDone w found) want part h e =
    sym (ap (λ (u : Want). msg.ReadDone u (Some part)) e.0 ∙ ap (λ (o : Option LibraryPart). msg.ReadDone w o) e.1)
answered link other want part h e = absurd e

no_stop : (g : Stage) (v : Instance) → IsOfTick g → IsDeschedule g v → ⊥
no_stop (OnMessage link m) v t e = t
no_stop other v t e = e

no_kill : (g : Stage) (v : Instance) (n : ℕ) → IsOfTick g → IsKill g v n → ⊥
no_kill (OnMessage link m) v n t e = t
no_kill other v n t e = e

no_answer : (g : Stage) (want : Want) (part : LibraryPart) (h : Store) → IsOfTick g → IsAnswer g want (Some part) h → ⊥
no_answer (OnMessage link m) want part h t e = t
no_answer other want part h t e = e

no_release : (p : Params) (c : ℕ) (stamp : Stamp) (link : LinkNo) (m : Msg) (from : Store)
    → Cause p c stamp (OnMessage link m) from Release from → ⊥
no_release p c stamp link m from e = fits p c stamp from (OnMessage link m) Release from e

-- what a message, and what a tick does to a part
taking_moves : (p : Params) (c : ℕ) (stamp : Stamp) (link : LinkNo) (m : Msg) (h : Store) (x : StoredPart)
    → Moves x (MayCost p (Take stamp link m) x) (m ≡ msg.ReadDone x.want (Some x.part)) h (taking p c stamp link m h)
taking_moves p c stamp link m h x =
    let Costs : Type 0 = MayCost p (Take stamp link m) x in
    let Comes : Type 0 = m ≡ msg.ReadDone x.want (Some x.part) in
    taking_by (Moves x Costs Comes) (moves_closed x Costs Comes) p c stamp link m h
    (moves_each x Costs Comes p c stamp (OnMessage link m) h
    (λ v e t. stopped p stamp link m x v e t)
    (λ v n e t. killed p stamp link m x v n e t)
    (λ e t. absurd (no_release p c stamp link m h e))
    (λ want part q a e. answered link m want part q a
    ∙ ap (λ (y : StoredPart). msg.ReadDone y.want (Some y.part)) (sym e)))

tick_moves : (p : Params) (c : ℕ) (stamp : Stamp) (x : StoredPart) (g : Stage) (from : Store) → IsOfTick g
    → OfEach (Moves x (MayCost p (Tick stamp) x) ⊥) p c stamp g from
tick_moves p c stamp x g from t =
    moves_each x (MayCost p (Tick stamp) x) ⊥ p c stamp g from
    (λ v e u. absurd (no_stop g v t e))
    (λ v n e u. absurd (no_kill g v n t e))
    (λ e u. u)
    (λ want part q a e. no_answer g want part q t a)

ticking_moves : (p : Params) (c : ℕ) (stamp : Stamp) (h : Store) (x : StoredPart)
    → Moves x (MayCost p (Tick stamp) x) ⊥ h (deed_of p c (Tick stamp) h)
ticking_moves p c stamp h x =
    ticking_by (Moves x (MayCost p (Tick stamp) x) ⊥) (moves_closed x (MayCost p (Tick stamp) x) ⊥) p c stamp h
    (tick_moves p c stamp x)

-- ---- an answer, exactly

-- what a cub does with an answer in form for which it has a record, and with another
pub answer_kept : (p : Params) (c : ℕ) (stamp : Stamp) (link : LinkNo) (want : Want) (part : Option LibraryPart)
    (h : Store)
    → is_in_form p (noted (msg.ReadDone want part)) ≡ true → is_wanted want h ≡ true
    → taking p c stamp link (msg.ReadDone want part) h ≡ storing want part h
answer_kept p c stamp link want part h formed wanted = takes_answer p c stamp link want part h formed ∙ rw wanted refl

answer_idle : (p : Params) (c : ℕ) (stamp : Stamp) (link : LinkNo) (want : Want) (part : Option LibraryPart) (h : Store)
    → is_wanted want h ≡ false
    → taking p c stamp link (msg.ReadDone want part) h ≡ nothing h
answer_idle p c stamp link want part h none =
    ⊎_elim (λ (f : is_in_form p (noted (msg.ReadDone want part)) ≡ true). takes_answer p c stamp link want part h f ∙ rw none refl)
    (λ (f : is_in_form p (noted (msg.ReadDone want part)) ≡ false). ignores p c stamp link (msg.ReadDone want part) h f)
    (cases_Bool (is_in_form p (noted (msg.ReadDone want part))))

-- ---- an input

-- the input is an answer to the want of a part, in form, for which there is a record
pub record IsAnswered (p : Params) (x : StoredPart) (i : Input Msg) (h : Store) : Type 0 where
  pub stamp : Stamp
  pub link : LinkNo
  pub is : i ≡ Take stamp link (msg.ReadDone x.want (Some x.part))
  pub formed : is_in_form p (noted (msg.ReadDone x.want (Some x.part))) ≡ true
  pub wanted : is_wanted x.want h ≡ true

-- a part that is there after an input was there before, or the input is its answer
pub part_back : (p : Params) (c : ℕ) (i : Input Msg) (h : Store) (x : StoredPart) → In x (deed_of p c i h).state.parts
    → In x h.parts ⊎ IsAnswered p x i h
part_back p c (Tick stamp) h x k = ⊎_elim (λ q. inl q) (λ q. absurd q) ((ticking_moves p c stamp h x).came k)
part_back p c (Take stamp link m) h x k =
    let answer : Msg = msg.ReadDone x.want (Some x.part) in
    ⊎_elim
    (λ q. inl q)
    (λ (e : m ≡ answer).
    let there : In x (taking p c stamp link answer h).state.parts =
    subst (λ (n : Msg). In x (taking p c stamp link n h).state.parts) e k in
    let idle : taking p c stamp link answer h ≡ nothing h → In x h.parts =
    λ q. subst (λ (d : Deed Msg Store). In x d.state.parts) q there in
    ⊎_elim
    (λ (f : is_in_form p (noted answer) ≡ true). ⊎_elim
    (λ (w : is_wanted x.want h ≡ true).
    inr (record { stamp = stamp; link = link; is = ap (λ (n : Msg). Take stamp link n) e; formed = f; wanted = w }))
    (λ (w : is_wanted x.want h ≡ false). inl (idle (answer_idle p c stamp link x.want (Some x.part) h w)))
    (cases_Bool (is_wanted x.want h)))
    (λ (f : is_in_form p (noted answer) ≡ false). inl (idle (ignores p c stamp link answer h f)))
    (cases_Bool (is_in_form p (noted answer))))
    ((taking_moves p c stamp link m h x).came k)

-- a part that is there before an input is there after it, unless the input may cost it
pub part_stays : (p : Params) (c : ℕ) (i : Input Msg) (h : Store) (x : StoredPart) → In x h.parts
    → In x (deed_of p c i h).state.parts ⊎ MayCost p i x
part_stays p c (Tick stamp) h x k = (ticking_moves p c stamp h x).stays k
part_stays p c (Take stamp link m) h x k = (taking_moves p c stamp link m h x).stays k

-- ---- within a tick

-- what a cub does in a tick before it serves
abbrev before_serving_does : Params → ℕ → Stamp → Store → Deed Msg Store
before_serving_does p c stamp =
    then_do (releasing p stamp)
    (then_do (believing p c stamp)
    (then_do (inserting p c stamp)
    (then_do (splitting p c stamp)
    (then_do (forwarding p c stamp)
    (reading p stamp)))))

-- what holds of each change in a tick holds of all that is done before the serving
before_serving_by : (P : Store → Deed Msg Store → Type 0) → IsClosed P
    → (p : Params) (c : ℕ) (stamp : Stamp) (h : Store)
    → ((g : Stage) (from : Store) → IsOfTick g → OfEach P p c stamp g from)
    → P h (before_serving_does p c stamp h)
before_serving_by P closed p c stamp h each =
    let h1 : Store = (releasing p stamp h).state in
    let h2 : Store = (believing p c stamp h1).state in
    let h3 : Store = (inserting p c stamp h2).state in
    let h4 : Store = (splitting p c stamp h3).state in
    let h5 : Store = (forwarding p c stamp h4).state in
    let s5 : Store → Deed Msg Store = then_do (forwarding p c stamp) (reading p stamp) in
    let s4 : Store → Deed Msg Store = then_do (splitting p c stamp) s5 in
    let s3 : Store → Deed Msg Store = then_do (inserting p c stamp) s4 in
    let s2 : Store → Deed Msg Store = then_do (believing p c stamp) s3 in
    then_by P closed (releasing p stamp) s2 h (releasing_by P closed p c stamp h (each OnRelease h tt))
    (then_by P closed (believing p c stamp) s3 h1 (believing_by P closed p c stamp h1 (each OnDeadman h1 tt))
    (then_by P closed (inserting p c stamp) s4 h2 (inserting_by P closed p c stamp h2 (each OnInsertion h2 tt))
    (then_by P closed (splitting p c stamp) s5 h3 (splitting_by P closed p c stamp h3 (each OnService h3 tt))
    (then_by P closed (forwarding p c stamp) (reading p stamp) h4
    (forwarding_by P closed p c stamp h4 (each OnService h4 tt))
    (reading_by P closed p c stamp h5 (each OnService h5 tt))))))

before_serving_moves : (p : Params) (c : ℕ) (stamp : Stamp) (h : Store) (x : StoredPart)
    → Moves x (MayCost p (Tick stamp) x) ⊥ h (before_serving_does p c stamp h)
before_serving_moves p c stamp h x =
    before_serving_by (Moves x (MayCost p (Tick stamp) x) ⊥) (moves_closed x (MayCost p (Tick stamp) x) ⊥) p c stamp h
    (tick_moves p c stamp x)

-- a part that is there when the cub serves was there before the tick
pub part_before_serving : (p : Params) (c : ℕ) (stamp : Stamp) (h : Store) (x : StoredPart)
    → In x (before_serving p c stamp h).parts → In x h.parts
part_before_serving p c stamp h x k = ⊎_elim (λ q. q) (λ q. absurd q) ((before_serving_moves p c stamp h x).came k)

-- a part that is there before the tick is there when the cub serves, unless it is stale
pub part_to_serving : (p : Params) (c : ℕ) (stamp : Stamp) (h : Store) (x : StoredPart) → In x h.parts
    → In x (before_serving p c stamp h).parts ⊎ (is_stale p stamp.reading x ≡ true)
part_to_serving p c stamp h x k = (before_serving_moves p c stamp h x).stays k
