-- What cubs send of mirror states and of kills, in whichever of their lives, as facts of pieces tell it; and that a cub
-- tells of its return once.
use Rattle.std.proofs.Common.{◌≡◌, ℕ, ◌+◌, ◌-◌, ◌<◌, ◌≤◌, List, sym, ◌∙◌, arith, ⊎_elim, inl, inr}
use Rattle.std.specs.Prelude.{◌⊎◌}
use Rattle.std.specs.List.{AllByRecursion}
use Rattle.tiger_base.specs.declared.number.Instance.{Instance}
use Rattle.tiger_base.specs.declared.number.LinkNo.{LinkNo}
use Rattle.tiger_base.specs.declared.number.SlotNo.{SlotNo}
use Rattle.tiger_base.specs.declared.number.Stamp.{Stamp}
use Rattle.tiger_base.specs.declared.tenancy.Tenancy.{Tenancy}
use Rattle.tiger_base.specs.declared.message.Msg.{Msg}
use Rattle.tiger_base.specs.declared.message.Msg.TheVariants as msg
use Rattle.slot_plan.specs.declared.params.Params.{Params}
use Rattle.node_kit.specs.declared.course.Order.{Order}
use Rattle.node_kit.specs.declared.outbox.Out.TheVariants as out
use Rattle.node_kit.specs.Steps.{stamp_of}
use Rattle.node_kit.specs.Ways.{way_ahead}
use Rattle.cub_changes.specs.Laws.{HasCause}
use Rattle.cub_changes.specs.Outputs.{Output, output}
use Rattle.cub_changes.specs.Outputs.Output.{HeartbeatSent}
use Rattle.cub_changes.proofs.Causing.{have_causes}
use Rattle.run_facts.specs.Histories.{History}
use Rattle.lists.proofs.Each.{all_in}
use Rattle.proof_lives.specs.Lives.{Lives, deed_of, reading_at, store_at}
use Rattle.proof_lives.specs.Facts.{DidAt}
use Rattle.proof_lives.specs.FactsBy.{Beyond, cubs_alone}
use Rattle.proof_lives.proofs.Cuts.{was_put_out}
use Rattle.proof_lives.proofs.Fitting.{Fits}
use Rattle.proof_pieces.specs.PieceFacts.{PieceFacts}
use Rattle.proof_service.specs.ServiceFacts.{serves_from}
use Rattle.node_kit.specs.declared.outbox.Out.{Out}
use Rattle.proof_facts.specs.Beside.{AddedAt, Additions, IsAddition, beside_by}
use Rattle.proof_facts.specs.Facts.{beyond_with, pieces_beside}
use Rattle.proof_facts.specs.Lives.{lives_of, later_lives_of}
use Rattle.proof_facts.specs.Pieces.{piece, MirrorSentAt, KillSentAt, SplitAt, pieces_by}
use Rattle.proof_facts.specs.TwoLives.{joined_pieces, with_beside}
use Rattle.proof_splits.proofs.MirrorStates.{of_split, one_way}

-- In beat b cub a sent, in one of its lives, the mirror state of piece j of the plan to the k-th cub after it. By a cub's
-- rules j is k + 1, since they split a visit of the cub before. One that is added is of a visit of cub a, so j is k.
pub record IsMirrorSend (p : Params) (beyond : Beyond) (a k : ℕ) (t : Tenancy) (n j b : ℕ) : Type 0 where
  pub small : a < p.cubs
  pub some : 1 ≤ k
  pub number : (j ≡ k + 1) ⊎ (j ≡ k)
  pub few : j ≤ p.pieces
  pub sends : beyond.Sends a (way_ahead p a k) (msg.MirrorState (piece t n j)) b

-- In beat b cub a sent, in one of its lives, a kill to the k-th cub after it.
pub record IsKillSend (p : Params) (beyond : Beyond) (a k v s n b : ℕ) : Type 0 where
  pub small : a < p.cubs
  pub some : 1 ≤ k
  pub sends : beyond.Sends a (way_ahead p a k) (msg.Kill (record { 0 = v }) (record { 0 = s }) n) b

-- What cubs send of mirror states and of kills is what these facts tell. Where one of them splits a visit by its rules,
-- nothing is added. What a cub tells on a link of when it serves again is one time.
pub record SendsAreKnown (p : Params) (beyond : Beyond) (among : PieceFacts) : Type 0 where
  pub mirror : (a k : ℕ) (t : Tenancy) (n j b : ℕ) → a < p.cubs → 1 ≤ k
      → beyond.Sends a (way_ahead p a k) (msg.MirrorState (piece t n j)) b → among.MirrorSent a k t n j b
  pub mirror_sent : {a k : ℕ} {t : Tenancy} {n j b : ℕ} → among.MirrorSent a k t n j b → IsMirrorSend p beyond a k t n j b
  pub by_rules : {a c k : ℕ} {t u : Tenancy} {n m j x b : ℕ} → among.Split a t n x → among.MirrorSent c k u m j b → j ≡ k + 1
  pub kill : (a k : ℕ) (v : Instance) (s : SlotNo) (n b : ℕ) → a < p.cubs → 1 ≤ k
      → beyond.Sends a (way_ahead p a k) (msg.Kill v s n) b → among.KillSent a k v.0 s.0 n b
  pub kill_sent : {a k v s n b : ℕ} → among.KillSent a k v s n b → IsKillSend p beyond a k v s n b
  pub back : (a : ℕ) (link : LinkNo) (from to x y : ℕ) → a < p.cubs
      → beyond.Sends a link (msg.Back from) x → beyond.Sends a link (msg.Back to) y → to ≡ from

-- ---- of one life

-- the rules of a cub, but for a return, tell of no return
no_back_form : (p : Params) (c : ℕ) (stamp : Stamp) (link : LinkNo) (from : ℕ) (o : Output)
    → out.Send link (msg.Back from) ≡ output p c stamp o → ⊥
no_back_form p c stamp link from HeartbeatSent e = absurd (cc)
no_back_form p c stamp link from other e = absurd (cc)

pub no_back : (p : Params) (lives : Lives) {a b from : ℕ} {link : LinkNo} → DidAt p lives a (out.Send link (msg.Back from)) b → ⊥
no_back p lives {a} {b} {from} {link} d =
    let w = all_in (HasCause p a (lives.input a d.at) (store_at p a (lives.input a) d.at)) (out.Send link (msg.Back from))
    (deed_of p a (lives.input a d.at) (store_at p a (lives.input a) d.at)).outs
    (have_causes p a (lives.input a d.at) (store_at p a (lives.input a) d.at))
    (was_put_out p lives a d.at (out.Send link (msg.Back from)) d.did) in
    no_back_form p a (stamp_of (lives.input a d.at)) link from w.form w.is

-- a mirror state that was sent in a life is of a piece whose number is one above the steps that it goes
number_in : (p : Params) (lives : Lives) {a k : ℕ} {t : Tenancy} {n j b : ℕ} → MirrorSentAt p lives a k t n j b → j ≡ k + 1
number_in p lives {a} {k} {t} {n} {j} {b} w =
    let s = of_split p lives a w.did in
    let low = s.low in
    let steps = one_way p a k (j - 1) w.some (omega arith) s.way in
    omega arith

mirror_in : (p : Params) (lives : Lives) (beyond : Beyond)
    → ((a : ℕ) (link : LinkNo) (m : Msg) (b : ℕ) → DidAt p lives a (out.Send link m) b → beyond.Sends a link m b)
    → {a k : ℕ} {t : Tenancy} {n j b : ℕ} → MirrorSentAt p lives a k t n j b → IsMirrorSend p beyond a k t n j b
mirror_in p lives beyond sends {a} {k} {t} {n} {j} {b} w = record {
  small = w.did.small;
  some = w.some;
  number = inl (number_in p lives w);
  few = (of_split p lives a w.did).high;
  sends = sends a (way_ahead p a k) (msg.MirrorState (piece t n j)) b w.did;
}

kill_in : (p : Params) (lives : Lives) (beyond : Beyond)
    → ((a : ℕ) (link : LinkNo) (m : Msg) (b : ℕ) → DidAt p lives a (out.Send link m) b → beyond.Sends a link m b)
    → {a k v s n b : ℕ} → KillSentAt p lives a k v s n b → IsKillSend p beyond a k v s n b
kill_in p lives beyond sends {a} {k} {v} {s} {n} {b} w = record {
  small = w.did.small;
  some = w.some;
  sends = sends a (way_ahead p a k) (msg.Kill (record { 0 = v }) (record { 0 = s }) n) b w.did;
}

-- Cubs of which one life each is known send what that tells.
pub alone_known : (p : Params) (lives : Lives) → SendsAreKnown p (cubs_alone p lives) (pieces_by p lives)
alone_known p lives = record {
  mirror = λ a k t n j b small some d. record { some = some; did = d };
  mirror_sent = λ w. mirror_in p lives (cubs_alone p lives) (λ a link m b d. d) w;
  by_rules = λ v w. number_in p lives w;
  kill = λ a k v s n b small some d. record { some = some; did = d };
  kill_sent = λ w. kill_in p lives (cubs_alone p lives) (λ a link m b d. d) w;
  back = λ a link from to x y small d e. absurd (no_back p lives d);
}

-- ---- of what is added

-- What is known of what is added in cubs' first lives: it goes ahead, a mirror state as many steps as its piece's number says,
-- and no mirror state is added if a visit is split by the rules in a life of these or of later ones.
pub record AreAdditionsKnown (p : Params) (first later : Lives) (added : Additions) : Type 0 where
  pub few : (c i : ℕ) → c < p.cubs → i < first.count c → AllByRecursion (IsAddition p c) (added c i)
  pub number : {a k : ℕ} {t : Tenancy} {n j b : ℕ} → (beside_by p first added).MirrorSent a k t n j b → j ≡ k
  pub apart : {a c k : ℕ} {t u : Tenancy} {n m j x b : ℕ} → SplitAt p first a t n x ⊎ SplitAt p later a t n x
      → (beside_by p first added).MirrorSent c k u m j b → ⊥

-- what is added is an addition
addition : (p : Params) (first later : Lives) (added : Additions) → AreAdditionsKnown p first later added
    → {a b : ℕ} {o : Out Msg} → AddedAt p first added a o b → IsAddition p a o
addition p first later added known {a} {b} {o} w = all_in (IsAddition p a) o (added a w.at) (known.few a w.at w.small w.done) w.did

-- so it tells of no return
not_back : (p : Params) (first later : Lives) (added : Additions) → AreAdditionsKnown p first later added
    → {a b from : ℕ} {link : LinkNo} → AddedAt p first added a (out.Send link (msg.Back from)) b → ⊥
not_back p first later added known w = ⊎_elim
    (λ x. let is = x.1.is in absurd (cc))
    (λ x. let is = x.3.is in absurd (cc))
    (addition p first later added known w)

-- and a mirror state is of a piece of the plan
few_added : (p : Params) (first later : Lives) (added : Additions) → AreAdditionsKnown p first later added
    → {a k : ℕ} {t : Tenancy} {n j b : ℕ} → (beside_by p first added).MirrorSent a k t n j b → j ≤ p.pieces
few_added p first later added known {a} {k} {t} {n} {j} {b} w =
    let number = known.number w in
    ⊎_elim
    (λ x.
    let is = x.1.is in
    let few = x.1.few in
    let way : way_ahead p a k ≡ way_ahead p a x.1.ahead = cc in
    let steps = one_way p a k x.1.ahead w.0 x.1.some way in
    omega arith)
    (λ x. let is = x.3.is in absurd (cc))
    (addition p first later added known w.1)

-- ---- of two lives of each cub

-- A message that a cub sent in one of two lives, or by which it told of its return, or that was added.
abbrev pub WasSentIn : Params → Lives → Lives → Additions → ℕ → LinkNo → Msg → ℕ → Type 0
WasSentIn p first later added a link m b =
    DidAt p first a (out.Send link m) b
    ⊎ (DidAt p later a (out.Send link m) b
    ⊎ (((from : ℕ) × (m ≡ msg.Back from)) ⊎ AddedAt p first added a (out.Send link m) b))

-- The facts of cubs that have two lives each, and to which this is added.
abbrev pub both_pieces : Params → Lives → Lives → Additions → PieceFacts
both_pieces p first later added = with_beside (joined_pieces (pieces_by p first) (pieces_by p later)) (beside_by p first added)

-- Cubs that have two lives each, and send nothing else than in these and by their returns but for what is added, send what
-- all that tells.
pub both_known : (p : Params) (first later : Lives) (added : Additions) (beyond : Beyond)
    → Fits p first beyond → Fits p later beyond → AreAdditionsKnown p first later added
    → ((a : ℕ) (link : LinkNo) (m : Msg) (b : ℕ) → beyond.Sends a link m b → WasSentIn p first later added a link m b)
    → ((a : ℕ) (link : LinkNo) (m : Msg) (b : ℕ) → AddedAt p first added a (out.Send link m) b → beyond.Sends a link m b)
    → ((a : ℕ) (link : LinkNo) (from to x y : ℕ) → a < p.cubs
    → beyond.Sends a link (msg.Back from) x → beyond.Sends a link (msg.Back to) y → to ≡ from)
    → SendsAreKnown p beyond (both_pieces p first later added)
both_known p first later added beyond one two known sent adds back = record {
  mirror = λ a k t n j b small some s. ⊎_elim
      (λ d. inl (inl (record { some = some; did = d })))
      (λ q. ⊎_elim
      (λ d. inl (inr (record { some = some; did = d })))
      (λ v. ⊎_elim (λ e. let e1 = e.1 in absurd (cc)) (λ d. inr (some, d)) v)
      q)
      (sent a (way_ahead p a k) (msg.MirrorState (piece t n j)) b s);
  mirror_sent = λ {a} {k} {t} {n} {j} {b} w. ⊎_elim
      (λ v. ⊎_elim (λ d. mirror_in p first beyond one.sends d) (λ d. mirror_in p later beyond two.sends d) v)
      (λ d. record {
        small = d.1.small;
        some = d.0;
        number = inr (known.number d);
        few = few_added p first later added known d;
        sends = adds a (way_ahead p a k) (msg.MirrorState (piece t n j)) b d.1;
      })
      w;
  by_rules = λ split w. ⊎_elim
      (λ v. ⊎_elim (λ d. number_in p first d) (λ d. number_in p later d) v)
      (λ d. absurd (known.apart split d))
      w;
  kill = λ a k v s n b small some q. ⊎_elim
      (λ d. inl (inl (record { some = some; did = d })))
      (λ q. ⊎_elim
      (λ d. inl (inr (record { some = some; did = d })))
      (λ v. ⊎_elim (λ e. let e1 = e.1 in absurd (cc)) (λ d. inr (some, d)) v)
      q)
      (sent a (way_ahead p a k) (msg.Kill v s n) b q);
  kill_sent = λ {a} {k} {v} {s} {n} {b} w. ⊎_elim
      (λ u. ⊎_elim (λ d. kill_in p first beyond one.sends d) (λ d. kill_in p later beyond two.sends d) u)
      (λ d. record {
        small = d.1.small;
        some = d.0;
        sends = adds a (way_ahead p a k) (msg.Kill (record { 0 = v }) (record { 0 = s }) n) b d.1;
      })
      w;
  back = back;
}

-- ---- of a history

-- what a cub tells of its return is when it serves again
back_is : {S : Type 0} (p : Params) (orders : List Order) (added : Additions) (h : History Msg S)
    → AreAdditionsKnown p (lives_of h) (later_lives_of h) added → (a : ℕ) (link : LinkNo) (from x : ℕ)
    → (beyond_with p orders added h).Sends a link (msg.Back from) x → from ≡ serves_from p (reading_at ((later_lives_of h).input a) 0)
back_is p orders added h known a link from x s = ⊎_elim
    (λ d. absurd (no_back p (lives_of h) d))
    (λ q. ⊎_elim
    (λ d. absurd (no_back p (later_lives_of h) d))
    (λ v. ⊎_elim
    (λ w.
    let is : msg.Back from ≡ msg.Back (serves_from p (reading_at ((later_lives_of h).input a) 0)) = w.is in
    cc)
    (λ w. absurd (not_back p (lives_of h) (later_lives_of h) added known w))
    v)
    q)
    s

-- The facts of a history tell what its cubs send in their first lives, and in those from their returns on, and what is added.
pub history_known : {S : Type 0} (p : Params) (orders : List Order) (added : Additions) (h : History Msg S)
    → Fits p (lives_of h) (beyond_with p orders added h) → Fits p (later_lives_of h) (beyond_with p orders added h)
    → AreAdditionsKnown p (lives_of h) (later_lives_of h) added
    → SendsAreKnown p (beyond_with p orders added h) (pieces_beside p added h)
history_known p orders added h one two known =
    both_known p (lives_of h) (later_lives_of h) added (beyond_with p orders added h) one two known
    (λ a link m b s. ⊎_elim
    (λ d. inl d)
    (λ q. ⊎_elim
    (λ d. inr (inl d))
    (λ v. ⊎_elim
    (λ w. inr (inr (inl (serves_from p (reading_at ((later_lives_of h).input a) 0), w.is))))
    (λ w. inr (inr (inr w)))
    v)
    q)
    s)
    (λ a link m b d. inr (inr (inr d)))
    (λ a link from to x y small s u. back_is p orders added h known a link to y u ∙ sym (back_is p orders added h known a link from x s))
