-- How the journals of a run belong to its facts, and what the facts need beside one schedule.
use Rattle.std.specs.Prelude.{◌≡◌, ℕ, ◌+◌, ◌<◌, ◌≤◌, true, false, List, ◌∷◌, ◌++◌, Some, slice_get, ◌⊎◌}
use Rattle.tiger_base.specs.declared.number.CubNo.{CubNo}
use Rattle.tiger_base.specs.declared.number.Instance.{Instance}
use Rattle.tiger_base.specs.declared.number.LinkNo.{LinkNo}
use Rattle.tiger_base.specs.declared.number.Stamp.{Stamp}
use Rattle.tiger_base.specs.declared.tenancy.Ask.{Ask}
use Rattle.tiger_base.specs.declared.tenancy.Rec.{Rec}
use Rattle.tiger_base.specs.declared.tenancy.State.{State}
use Rattle.tiger_base.specs.declared.tenancy.Tenancy.{Tenancy}
use Rattle.tiger_base.specs.declared.message.Note.TheVariants as note
use Rattle.slot_plan.specs.declared.params.Params.{Params}
use Rattle.slot_plan.specs.Times.{time_of, due, cub_of}
use Rattle.node_kit.specs.declared.course.Order.{Order}
use Rattle.node_kit.specs.declared.journal.What.TheVariants as what
use Rattle.node_kit.specs.declared.journal.Entry.{Entry}
use Rattle.run_facts.specs.Accounts.{Rising}
use Rattle.run_model.specs.Orders.{IsOrdered}
use Rattle.run_model.specs.Fronts.{AnyByRecursion}
use Rattle.run_model.specs.Parts.{Brings, IsForCub, IsOwnRecordFor}
use Rattle.run_model.specs.Views.{records_of}
use Rattle.proof_schedule.specs.Facts.{Facts, Ended, DiedBy, Entered, PutBy, ReachedBy, IsFirstLife}
use Rattle.proof_schedule.specs.StartLaws.{Waits, IsInWindow}
use Rattle.proof_schedule.specs.Schedule.{IsTaken}
use Rattle.lists.specs.Elements.{In}

-- An entry stands in the journal of a node.
pub record StandsIn (journals : List (List Entry)) (n : ℕ) (e : Entry) : Type 0 where
  pub journal : List Entry
  pub at : slice_get journals n ≡ Some journal
  pub there : In e journal

-- A fact of a node and a beat has its entry: one of that beat, in that node's journal.
pub record IsLogged (journals : List (List Entry)) (n b : ℕ) (Is : Entry → Type 0) : Type 0 where
  pub entry : Entry
  pub stands : StandsIn journals n entry
  pub beat : entry.stamp.beat ≡ b
  pub is : Is entry

-- The entry of a Put is of a cub, and the cub put the tenancy in its beat. At the entry's own
-- reading, which is within the skew, the first visit is in the window of a slot.
pub record IsPutAt (p : Params) (r : Facts) (c : ℕ) (stamp : Stamp) (t : Tenancy) : Type 0 where
  pub small : c < p.cubs
  pub put : r.Put c t stamp.beat
  pub low : time_of p stamp.beat ≤ stamp.reading
  pub high : stamp.reading ≤ time_of p stamp.beat + p.skew
  pub slot : t.slot.0 < p.slots
  pub above : stamp.reading + p.window_b < due p t.slot.0 t.first
  pub below : due p t.slot.0 t.first ≤ stamp.reading + p.window_a

-- Cub c began to believe its predecessor d dead in beat b.
pub record IsBeliefAt (p : Params) (r : Facts) (c d b : ℕ) : Type 0 where
  pub believed : r.Believed c b
  pub known : d < p.cubs
  pub behind : c ≡ cub_of p (d + 1)

-- An entry says that instance v was stopped.
pub record IsGoneOf (v : ℕ) (e : Entry) : Type 0 where
  pub instance : Instance
  pub is : e.what ≡ what.Gone instance
  pub same : instance.0 ≡ v

-- Each entry tells a fact of its node and beat.
pub record Tells (p : Params) (r : Facts) (orders : List Order)
    (journals : List (List Entry)) : Type 0 where
  -- A Put is of a cub, which put then, in the window. So no other node puts.
  pub put : (n : ℕ) (e : Entry) (t : Tenancy)
      → StandsIn journals n e → e.what ≡ what.Put t → IsPutAt p r n e.stamp t
  -- A record that is taken enters the node's view then.
  pub took : (n : ℕ) (e : Entry) (q : Rec)
      → StandsIn journals n e → e.what ≡ what.Took q → Entered r n q.tenancy q.visit e.stamp.beat
  -- An instance of whose stop an entry tells was stopped then.
  pub gone : (n : ℕ) (e : Entry) (v : Instance)
      → StandsIn journals n e → e.what ≡ what.Gone v → r.Gone v.0 e.stamp.beat
  -- A node of whose belief an entry tells is the cub after the one that it believes dead.
  pub believed : (n : ℕ) (e : Entry) (d : CubNo)
      → StandsIn journals n e → e.what ≡ what.Believed d → IsBeliefAt p r n d.0 e.stamp.beat
  -- A cub of whose death an entry tells died then.
  pub died : (n : ℕ) (e : Entry)
      → n < p.cubs → StandsIn journals n e → e.what ≡ what.Died → r.Died n e.stamp.beat
  -- A cub of whose return an entry tells came back then, by its tick at the entry's reading.
  pub returned : (n : ℕ) (e : Entry)
      → n < p.cubs → StandsIn journals n e → e.what ≡ what.Returned
      → r.Returned n e.stamp.beat × r.Ticked n e.stamp.beat e.stamp.reading
  -- A plain start that a cub got is one that it was asked for then, and one that was ordered.
  pub asked : (n : ℕ) (e : Entry) (link : LinkNo) (a : Ask)
      → n < p.cubs → StandsIn journals n e → e.what ≡ what.Got link (note.Start false a)
      → r.Asked n a e.stamp.beat × IsOrdered orders a
  -- So is a redundant start.
  pub apart : (n : ℕ) (e : Entry) (link : LinkNo) (a : Ask)
      → n < p.cubs → StandsIn journals n e → e.what ≡ what.Got link (note.Start true a)
      → r.AskedApart n a e.stamp.beat × IsOrdered orders a

-- Each fact of these kinds has its entry.
pub record Logged (p : Params) (r : Facts) (orders : List Order)
    (journals : List (List Entry)) : Type 0 where
  -- A Put stands in its cub's journal.
  pub put : (c b : ℕ) (t : Tenancy) → r.Put c t b → IsLogged journals c b (λ e. e.what ≡ what.Put t)
  -- A stop stands in the journal of some node.
  pub gone : (v b : ℕ) → r.Gone v b → (n : ℕ) × IsLogged journals n b (IsGoneOf v)
  -- A death stands in the journal of the cub that died.
  pub died : (c b : ℕ) → r.Died c b → IsLogged journals c b (λ e. e.what ≡ what.Died)
  -- A return stands in the journal of the cub that came back.
  pub returned : (c b : ℕ) → r.Returned c b → IsLogged journals c b (λ e. e.what ≡ what.Returned)
  -- A belief stands in the journal of the cub that believes, and names its predecessor.
  pub believed : (c d b : ℕ)
      → r.Believed c b → c ≡ cub_of p (d + 1) → d < p.cubs
      → IsLogged journals c b (λ e. (cub : CubNo) × (e.what ≡ what.Believed cub) × (cub.0 ≡ d))
  -- An order that the controller sent was ordered.
  pub begun : (ask : Ask) (b : ℕ) → r.Begun ask b → IsOrdered orders ask

-- The journal of a node is cut behind beat b: the upper part has the beats up to it.
pub record IsCutAt (journals : List (List Entry)) (c b : ℕ)
    (upper lower : List Entry) : Type 0 where
  pub at : slice_get journals c ≡ Some (upper ++ lower)
  pub early : (e : Entry) → In e upper → e.stamp.beat ≤ b
  pub late : (e : Entry) → In e lower → b < e.stamp.beat

-- Cub c died by beat b and had not come back by then.
pub record IsDeadIn (r : Facts) (c b : ℕ) : Type 0 where
  pub died : DiedBy r c b
  pub away : IsFirstLife r c b

-- Cub c came back in beat b or before it.
pub record ReturnedBy (r : Facts) (c b : ℕ) : Type 0 where
  pub beat : ℕ
  pub returned : r.Returned c beat
  pub by : beat ≤ b

-- What order the entries of a journal have among themselves, and what the journal tells at a tick.
-- Each field speaks of the journal of one node, but for `ended` and `one_order`.
pub record Keeps (p : Params) (r : Facts) (orders : List Order)
    (journals : List (List Entry)) : Type 0 where
  -- The beats of a journal never fall.
  pub rising : (n : ℕ) (j : List Entry)
      → slice_get journals n ≡ Some j → Rising (λ (e : Entry). e.stamp.beat) j
  -- A second Put of an instance in one journal would be of a later beat.
  pub one_put : (n : ℕ) (xs ys : List Entry) (e f : Entry) (t u : Tenancy)
      → slice_get journals n ≡ Some (xs ++ e ∷ ys) → e.what ≡ what.Put t
      → In f ys → f.what ≡ what.Put u
      → u.instance.0 ≡ t.instance.0 → e.stamp.beat < f.stamp.beat
  -- A belief that is written behind a Put is of a later beat: a tick believes before it puts.
  pub belief_first : (n : ℕ) (xs ys : List Entry) (e f : Entry) (t : Tenancy) (d : CubNo)
      → slice_get journals n ≡ Some (xs ++ e ∷ ys) → e.what ≡ what.Put t
      → In f ys → f.what ≡ what.Believed d → e.stamp.beat < f.stamp.beat
  -- The tenancy of a record that is taken was put before it in the same journal, or in a lower
  -- beat.
  pub put_first : (n : ℕ) (xs ys : List Entry) (e : Entry) (q : Rec)
      → slice_get journals n ≡ Some (xs ++ e ∷ ys) → e.what ≡ what.Took q
      → ((f : Entry) × In f xs × (f.what ≡ what.Put q.tenancy))
      ⊎ ((c x : ℕ) × r.Put c q.tenancy x × (x < e.stamp.beat))
  -- If some entry is of a later beat, each cub has ended the beat, or was dead in it.
  pub ended : (n c b : ℕ) (e : Entry)
      → StandsIn journals n e → b < e.stamp.beat → c < p.cubs → Ended r c b ⊎ IsDeadIn r c b
  -- What stands behind a cub's death is written since its return.
  pub since : (n : ℕ) (xs ys : List Entry) (e f : Entry)
      → n < p.cubs → slice_get journals n ≡ Some (xs ++ e ∷ ys) → e.what ≡ what.Died → In f ys
      → ReturnedBy r n f.stamp.beat
  -- Each record that a cub's journal tells of after a tick is in its view.
  pub shows : (c b l : ℕ) (upper lower : List Entry) (q : Rec)
      → IsCutAt journals c b upper lower → r.Ticked c b l → In q (records_of upper)
      → r.Shows c q.tenancy q.visit b
  -- Of each record in a cub's view after a tick its journal tells.
  pub shown : (c b l n : ℕ) (t : Tenancy) (upper lower : List Entry)
      → IsCutAt journals c b upper lower → r.Ticked c b l → r.Shows c t n b
      → (q : Rec) × In q (records_of upper) × (q.tenancy ≡ t) × (q.visit ≡ n)
  -- An instance has one order.
  pub one_order : (a b : Ask)
      → IsOrdered orders a → IsOrdered orders b → a.instance.0 ≡ b.instance.0 → a ≡ b

-- Visit n of slot s is taken in beat b, and cub c's view shows a record of the tenancy that has
-- it.
pub record IsHeldAt (p : Params) (r : Facts) (c s n b : ℕ) : Type 0 where
  pub taken : IsTaken p r s n b
  pub shows : r.Shows c taken.holder n b

-- What is needed of the facts beside one schedule.
pub record Besides (p : Params) (r : Facts) : Type 0 where
  -- A cub that ended a beat of its first life by its tick dies, if at all, in a later one.
  pub ended : (c b l a : ℕ) → r.Ticked c b l → IsFirstLife r c b → r.Died c a → b < a
  -- Who comes back has died.
  pub returned : (c w : ℕ) → r.Returned c w → DiedBy r c w
  -- Of two neighbours at most one dies.
  pub apart : (c d a b : ℕ) → r.Died c a → r.Died d b → d ≡ cub_of p (c + 1) → ⊥
  -- A cub puts nothing after the beat of its death, nor when it has come back.
  pub put : (c x a : ℕ) (t : Tenancy) → r.Put c t x → r.Died c a → x ≤ a
  -- A reading is the true time of its beat, or at most the skew above it.
  pub reads : (c b l : ℕ) → r.Ticked c b l → (time_of p b ≤ l) × (l ≤ time_of p b + p.skew)
  -- A record in a view after a tick is not due when its beat begins.
  pub undue : (c n b : ℕ) (t : Tenancy) → r.Shows c t n b → time_of p b < due p t.slot.0 n
  -- While a start waits at a cub in its first life, each visit of its disk in the window is taken,
  -- and the cub's view shows that. A cub that has come back discards starts.
  pub waits : (c y b l s n : ℕ) (ask : Ask)
      → Waits p r c ask n y b → y ≤ b → r.Ticked c b l → IsFirstLife r c b
      → s < p.slots → IsInWindow p l s n
      → IsHeldAt p r c s n b ⊎ (PutBy r ask.instance.0 b ⊎ ReachedBy r c ask.instance.0 b)

-- A cub ends a beat below a number by its tick, at a reading.
abbrev pub IsTickBelow : Facts → ℕ → ℕ → ℕ → ℕ → Type 0
IsTickBelow r beats c b l = r.Ticked c b l × (b < beats)

-- What the journals of cubs have to tell besides, so that what cubs take and send is local.
pub record Locals (p : Params) (journals : List (List Entry)) : Type 0 where
  -- A record that a cub takes is for the cub.
  pub for_cub : (n : ℕ) (e : Entry) (q : Rec)
      → n < p.cubs → StandsIn journals n e → e.what ≡ what.Took q → IsForCub p n q.kind q.visit
  -- An entry before it brought the record.
  pub brings : (n : ℕ) (xs ys : List Entry) (e : Entry) (q : Rec)
      → n < p.cubs → slice_get journals n ≡ Some (xs ++ e ∷ ys) → e.what ≡ what.Took q
      → AnyByRecursion (λ f. Brings p n q.tenancy q.visit f.what) xs
  -- No entry is stamped before its beat begins.
  pub read : (n : ℕ) (e : Entry)
      → n < p.cubs → StandsIn journals n e → time_of p e.stamp.beat ≤ e.stamp.reading
  -- For a viewer state that a cub sends, the journal before it tells of an own record, which the
  -- cub took in the same life.
  pub sent : (n : ℕ) (xs ys : List Entry) (e : Entry) (link : LinkNo) (s : State)
      → n < p.cubs → slice_get journals n ≡ Some (xs ++ e ∷ ys)
      → e.what ≡ what.Sent link (note.ViewerState s)
      → AnyByRecursion (IsOwnRecordFor s) (records_of xs)
