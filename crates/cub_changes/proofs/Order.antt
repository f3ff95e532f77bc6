-- In which step of a tick outputs of a kind go out: Puts at insertion, reads in the reading, parts in the serving.
use Rattle.std.proofs.Common.{◌≡◌, ℕ, ◌<◌, ◌==◌, List, [], ◌∷◌, ◌++◌, ◌&&◌, Bool, true, false, not, refl, sym, ap, subst, ◌∙◌, arith, ⊎_elim, append_assoc}
use Rattle.std.specs.List.{AllByRecursion}
use Rattle.std.proofs.lemmas.Bool.{cases_Bool, eq-eqb, ne_eqb}
use Rattle.tiger_base.specs.declared.number.LinkNo.{LinkNo}
use Rattle.tiger_base.specs.declared.number.Stamp.{Stamp}
use Rattle.tiger_base.specs.declared.message.Msg.{Msg}
use Rattle.tiger_base.specs.declared.message.Msg.TheVariants as msg
use Rattle.slot_plan.specs.declared.params.Params.{Params}
use Rattle.node_kit.specs.declared.outbox.Out.{Out}
use Rattle.node_kit.specs.declared.outbox.Out.TheVariants as out
use Rattle.node_kit.specs.Steps.{Deed}
use Rattle.node_kit.specs.Deeds.{nothing, then_do}
use Rattle.deadman.specs.Silence.{is_silent}
use Rattle.cub_rules.specs.declared.store.Store.{Store}
use Rattle.cub_rules.specs.Messages.{taking}
use Rattle.cub_rules.specs.Ticks.{releasing, believing, inserting, splitting, forwarding, reading, serving, beating, ticking}
use Rattle.cub_changes.specs.Changes.{Change, did}
use Rattle.cub_changes.specs.Changes.Change.{TakeRecord, AddPiece, Release, Believe, PutStart, SendFirst, SendPlaced, SplitVisits, Forward, AskBlocks, AskPieces, ServeBlocks, DropBackups, ServePieces, Beat}
use Rattle.cub_changes.specs.Causes.Stage.{OnMessage, OnInsertion}
use Rattle.cub_changes.specs.Outputs.{Output, output, ComesOf}
use Rattle.cub_changes.specs.Outputs.Output.{AskSent, BlockSent, PieceSent}
use Rattle.cub_changes.proofs.Closed.{IsClosed, then_by, if_by}
use Rattle.cub_changes.proofs.Fits.{IsOfMessage, IsOfInsertion, fits}
use Rattle.lists.proofs.Each.{all_append}
use Rattle.cub_changes.proofs.Messages.{taking_by}
use Rattle.cub_changes.proofs.Outputs.{forms_of, Puts, puts_closed}
use Rattle.cub_changes.proofs.Puts.{inserting_by}
use Rattle.cub_changes.proofs.Ticks.{service_steps, before_inserting, before_splitting, before_forwarding, splitting_from, forwarding_from, reading_from, serving_from, beating_from}

-- ---- a part of a list that alone has what passes a test

-- none of the elements passes
abbrev pub AreNone : {X : Type 0} → (X → Bool) → List X → Type 0
AreNone test xs = AllByRecursion (λ x. test x ≡ false) xs

pub record IsOnlyIn {X : Type 0} (test : X → Bool) (part all : List X) : Type 0 where
  pub before : List X
  pub behind : List X
  pub is : before ++ (part ++ behind) ≡ all
  pub none_before : AreNone test before
  pub none_behind : AreNone test behind

only_first : {X : Type 0} (test : X → Bool) (part behind : List X) → AreNone test behind
    → IsOnlyIn test part (part ++ behind)
only_first test part behind none = record { before = []; behind = behind; is = refl; none_before = tt; none_behind = none }

only_later : {X : Type 0} (test : X → Bool) (xs part ys : List X) → AreNone test xs → IsOnlyIn test part ys
    → IsOnlyIn test part (xs ++ ys)
only_later {X} test xs part ys none o = record {
  before = xs ++ o.before;
  behind = o.behind;
  is = append_assoc xs o.before (part ++ o.behind) ∙ ap (λ (l : List X). xs ++ l) o.is;
  none_before = all_append (λ x. test x ≡ false) xs o.before none o.none_before;
  none_behind = o.none_behind;
}

-- what holds of each element that does not pass, and of the part, holds of the whole
pub all_of_part : {X : Type 0} (test : X → Bool) (Q : X → Type 0) → ((x : X) → test x ≡ false → Q x)
    → (part all : List X) → IsOnlyIn test part all → AllByRecursion Q part → AllByRecursion Q all
all_of_part {X} test Q weak part all o each =
    subst (λ (l : List X). AllByRecursion Q l) o.is
    (all_append Q o.before (part ++ o.behind) (weaker o.before o.none_before)
    (all_append Q part o.behind each (weaker o.behind o.none_behind)))
  where
    weaker : (xs : List X) → AreNone test xs → AllByRecursion Q xs
    weaker [] none = tt
    weaker (x ∷ xs) none = (weak x none.0, weaker xs none.1)

-- ---- reads, and what goes to the viewers

abbrev pub is_ask : Out Msg → Bool
is_ask (out.Send link (msg.ReadAsk want)) = true
is_ask other = false

abbrev pub is_parcel : Out Msg → Bool
is_parcel (out.Send link (msg.Whole want sent part)) = true
is_parcel (out.Send link (msg.Piece want sent part)) = true
is_parcel other = false

-- ---- the steps of a tick, by the changes that they are made of

-- the step of a tick in which a change is made, from 0 to 7; a change that is made at messages alone has the number 8
abbrev pub step_of : Change → ℕ
step_of Release = 0
step_of Believe = 1
step_of (TakeRecord r) = 2
step_of (PutStart t) = 2
step_of (SendFirst t) = 2
step_of (SendPlaced t) = 2
step_of (AddPiece x) = 3
step_of SplitVisits = 3
step_of Forward = 4
step_of AskBlocks = 5
step_of AskPieces = 5
step_of ServeBlocks = 6
step_of DropBackups = 6
step_of ServePieces = 6
step_of Beat = 7
step_of other = 8

module _ (p : Params) (c : ℕ) (stamp : Stamp) where
  -- an output that passes the test comes of a change of this step
  abbrev pub AreOfStep : (Out Msg → Bool) → ℕ → Type 0
  AreOfStep test n = (x : Change) (h : Store) (o : Output) → ComesOf p c stamp x h o → test (output p c stamp o) ≡ true
      → step_of x ≡ n

  module _ (test : Out Msg → Bool) (n : ℕ) (are : AreOfStep test n) where
    -- so a change of another step puts out none
    none_of : (x : Change) (h : Store) → (step_of x == n) ≡ false → AreNone test (did p c stamp x h).outs
    none_of x h apart =
        forms_of p c stamp (λ o. test o ≡ false) x h
        (λ o comes. ⊎_elim
        (λ (t : test (output p c stamp o) ≡ true). absurd (other_step (step_of x) n apart (are x h o comes t)))
        (λ (f : test (output p c stamp o) ≡ false). f)
        (cases_Bool (test (output p c stamp o))))
      where
        other_step : (a b : ℕ) → (a == b) ≡ false → a ≡ b → ⊥
        other_step a b f e = let t : (a == b) ≡ true = eq-eqb a b e in let z : true ≡ false = sym t ∙ f in absurd (cc)

    abbrev Quiet : Store → Deed Msg Store → Type 0
    Quiet = Puts p c stamp (λ o. test o ≡ false)

    quiet_closed : IsClosed Quiet
    quiet_closed = puts_closed p c stamp (λ o. test o ≡ false)

    releases : (h : Store) → (0 == n) ≡ false → AreNone test (releasing p stamp h).outs
    unfolding releasing
    releases h apart = none_of Release h apart

    believes : (h : Store) → (1 == n) ≡ false → AreNone test (believing p c stamp h).outs
    unfolding believing
    believes h apart =
        if_by Quiet quiet_closed (not h.believes && is_silent h.watch stamp.reading) h (did p c stamp Believe h) (nothing h)
        (λ _. none_of Believe h apart) (λ _. tt)

    inserts : (h : Store) → (2 == n) ≡ false → AreNone test (inserting p c stamp h).outs
    inserts h apart = inserting_by Quiet quiet_closed p c stamp h (λ x q cause. one x q (fits p c stamp h OnInsertion x q cause))
      where
        one : (x : Change) (q : Store) → IsOfInsertion x → AreNone test (did p c stamp x q).outs
        one (TakeRecord r) q f = none_of (TakeRecord r) q apart
        one (PutStart t) q f = none_of (PutStart t) q apart
        one (SendFirst t) q f = none_of (SendFirst t) q apart
        one (SendPlaced t) q f = none_of (SendPlaced t) q apart
        one other q f = absurd f

    splits : (h : Store) → (3 == n) ≡ false → AreNone test (splitting p c stamp h).outs
    splits h apart = splitting_from Quiet quiet_closed p c stamp h (λ _. none_of SplitVisits h apart) (λ _ x q. tt)

    forwards : (h : Store) → (4 == n) ≡ false → AreNone test (forwarding p c stamp h).outs
    forwards h apart = forwarding_from Quiet quiet_closed p c stamp h (none_of Forward h apart)

    reads : (h : Store) → (5 == n) ≡ false → AreNone test (reading p stamp h).outs
    reads h apart = reading_from Quiet quiet_closed p c stamp h (λ q. none_of AskBlocks q apart) (λ q. none_of AskPieces q apart)

    serves : (h : Store) → (6 == n) ≡ false → AreNone test (serving p c stamp h).outs
    serves h apart =
        serving_from Quiet quiet_closed p c stamp h (λ q. none_of ServeBlocks q apart) (λ q. none_of DropBackups q apart)
        (λ q. none_of ServePieces q apart)

    beats : (h : Store) → (7 == n) ≡ false → AreNone test (beating p c stamp h).outs
    beats h apart = beating_from Quiet quiet_closed p c stamp h (λ _ _. none_of Beat h apart)

    behind_reading : (h : Store) → (6 == n) ≡ false → (7 == n) ≡ false
        → AreNone test (then_do (serving p c stamp) (beating p c stamp) h).outs
    behind_reading h six seven =
        then_by Quiet quiet_closed (serving p c stamp) (beating p c stamp) h (serves h six) (beats (serving p c stamp h).state seven)

    none_taken : ((x : Change) → IsOfMessage x → (step_of x == n) ≡ false) → (link : LinkNo) (m : Msg) (h : Store)
        → AreNone test (taking p c stamp link m h).outs
    none_taken apart link m h =
        taking_by Quiet quiet_closed p c stamp link m h
        (λ x q cause. none_of x q (apart x (fits p c stamp h (OnMessage link m) x q cause)))

  -- ---- Puts go out at insertion alone

  pub in_insertion : (test : Out Msg → Bool) → AreOfStep test 2 → (h : Store)
      → IsOnlyIn test (inserting p c stamp (before_inserting p c stamp h)).outs (ticking p c stamp h).outs
  unfolding ticking
  in_insertion test are h =
      let h1 : Store = (releasing p stamp h).state in
      let h2 : Store = before_inserting p c stamp h in
      let h3 : Store = before_splitting p c stamp h in
      let h4 : Store = before_forwarding p c stamp h in
      let h5 : Store = (forwarding p c stamp h4).state in
      let after4 : Store → Deed Msg Store = then_do (reading p stamp) (then_do (serving p c stamp) (beating p c stamp)) in
      only_later test (releasing p stamp h).outs _ _ (releases test 2 are h refl)
      (only_later test (believing p c stamp h1).outs _ _ (believes test 2 are h1 refl)
      (only_first test (inserting p c stamp h2).outs (service_steps p c stamp h3).outs
      (then_by (Quiet test 2 are) (quiet_closed test 2 are) (splitting p c stamp) (then_do (forwarding p c stamp) after4) h3
      (splits test 2 are h3 refl)
      (then_by (Quiet test 2 are) (quiet_closed test 2 are) (forwarding p c stamp) after4 h4 (forwards test 2 are h4 refl)
      (then_by (Quiet test 2 are) (quiet_closed test 2 are) (reading p stamp) (then_do (serving p c stamp) (beating p c stamp)) h5
      (reads test 2 are h5 refl) (behind_reading test 2 are (reading p stamp h5).state refl refl))))))

  -- ---- reads go out in the reading alone, and what goes to the viewers in the serving

  -- what a cub keeps before it reads
  abbrev pub from_reading : Store → Store
  from_reading h = (forwarding p c stamp (before_forwarding p c stamp h)).state

  to_reading : (test : Out Msg → Bool) (n : ℕ) → AreOfStep test n → ((k : ℕ) → k < 5 → (k == n) ≡ false)
      → (part : List (Out Msg)) (h : Store)
      → IsOnlyIn test part (then_do (reading p stamp) (then_do (serving p c stamp) (beating p c stamp)) (from_reading h)).outs
      → IsOnlyIn test part (ticking p c stamp h).outs
  unfolding ticking
  to_reading test n are early part h later =
      let h1 : Store = (releasing p stamp h).state in
      let h2 : Store = before_inserting p c stamp h in
      let h3 : Store = before_splitting p c stamp h in
      let h4 : Store = before_forwarding p c stamp h in
      only_later test (releasing p stamp h).outs part _ (releases test n are h (early 0 (omega arith)))
      (only_later test (believing p c stamp h1).outs part _ (believes test n are h1 (early 1 (omega arith)))
      (only_later test (inserting p c stamp h2).outs part _ (inserts test n are h2 (early 2 (omega arith)))
      (only_later test (splitting p c stamp h3).outs part _ (splits test n are h3 (early 3 (omega arith)))
      (only_later test (forwarding p c stamp h4).outs part _ (forwards test n are h4 (early 4 (omega arith))) later))))

  asks : AreOfStep is_ask 5
  asks x h (AskSent disk w) comes t = ⊎_elim (λ a. ap step_of a.1) (λ a. ap step_of a.1) comes
  asks x h other comes t = absurd (cc)

  pub asks_in_reading : (h : Store) → IsOnlyIn is_ask (reading p stamp (from_reading h)).outs (ticking p c stamp h).outs
  asks_in_reading h =
      let g : Store = from_reading h in
      to_reading is_ask 5 asks (λ k low. ne_eqb k 5 (λ e. absurd (omega arith))) (reading p stamp g).outs h
      (only_first is_ask (reading p stamp g).outs _ (behind_reading is_ask 5 asks (reading p stamp g).state refl refl))

  pub no_ask_taken : (link : LinkNo) (m : Msg) (h : Store) → AreNone is_ask (taking p c stamp link m h).outs
  no_ask_taken link m h = none_taken is_ask 5 asks of_message link m h
    where
      of_message : (x : Change) → IsOfMessage x → (step_of x == 5) ≡ false
      of_message AskBlocks f = absurd f
      of_message AskPieces f = absurd f
      of_message other f = refl

  parcels : AreOfStep is_parcel 6
  parcels x h (BlockSent w part) comes t = ap step_of comes.1
  parcels x h (PieceSent w part) comes t = ap step_of comes.1
  parcels x h other comes t = absurd (cc)

  pub parcels_in_serving : (h : Store)
      → IsOnlyIn is_parcel (serving p c stamp (reading p stamp (from_reading h)).state).outs (ticking p c stamp h).outs
  parcels_in_serving h =
      let g : Store = from_reading h in
      let g1 : Store = (reading p stamp g).state in
      to_reading is_parcel 6 parcels (λ k low. ne_eqb k 6 (λ e. absurd (omega arith))) (serving p c stamp g1).outs h
      (only_later is_parcel (reading p stamp g).outs (serving p c stamp g1).outs _ (reads is_parcel 6 parcels g refl)
      (only_first is_parcel (serving p c stamp g1).outs _ (beats is_parcel 6 parcels (serving p c stamp g1).state refl)))

  pub no_parcel_taken : (link : LinkNo) (m : Msg) (h : Store) → AreNone is_parcel (taking p c stamp link m h).outs
  no_parcel_taken link m h = none_taken is_parcel 6 parcels of_message link m h
    where
      of_message : (x : Change) → IsOfMessage x → (step_of x == 6) ≡ false
      of_message ServeBlocks f = absurd f
      of_message DropBackups f = absurd f
      of_message ServePieces f = absurd f
      of_message other f = refl
