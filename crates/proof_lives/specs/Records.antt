-- What a cub's outputs tell of its records: which are in its view after them, where each came from, and which states follow from them.
use Rattle.std.specs.Prelude.{◌≡◌, ℕ, suc, ◌<◌, List, [], ◌∷◌, ◌++◌, ◌⊎◌}
use Rattle.tiger_base.specs.declared.number.LinkNo.{LinkNo}
use Rattle.tiger_base.specs.declared.number.Stamp.{Stamp}
use Rattle.tiger_base.specs.declared.tenancy.Rec.{Rec}
use Rattle.tiger_base.specs.declared.tenancy.State.{State}
use Rattle.tiger_base.specs.declared.message.Msg.{Msg}
use Rattle.tiger_base.specs.declared.message.Msg.TheVariants as msg
use Rattle.slot_plan.specs.declared.params.Params.{Params}
use Rattle.slot_plan.specs.Conditions.{IsPlan}
use Rattle.slot_plan.specs.Times.{due}
use Rattle.node_kit.specs.declared.journal.What.TheVariants as what
use Rattle.node_kit.specs.declared.outbox.Out.{Out}
use Rattle.node_kit.specs.declared.outbox.Out.TheVariants as out
use Rattle.node_kit.specs.Steps.{Input}
use Rattle.node_kit.specs.Steps.Input.{Take, Tick}
use Rattle.partial_view.specs.declared.line.Line.{Line}
use Rattle.node_kit.specs.Ways.{way_ahead}
use Rattle.run_model.specs.Fronts.{AnyByRecursion}
use Rattle.run_model.specs.Views.{recorded}
use Rattle.run_model.specs.Parts.{IsAtOrBefore, IsForCub, IsOwnRecordFor}
use Rattle.proof_lives.specs.Lives.{store_at, outs_at}
use Rattle.lists.specs.Elements.{In}

-- what outputs make of the records that a journal tells
abbrev pub recorded_by : List (Out Msg) → List Rec → List Rec
recorded_by [] records = records
recorded_by (out.Act w ∷ os) records = recorded_by os (recorded records w)
recorded_by (out.Send link m ∷ os) records = recorded_by os records

-- some records are those of a view's lines, whatever their order
pub record AreRecordsOf (lines : List Line) (records : List Rec) : Type 0 where
  pub seen : (r : Rec) → In r records → (x : Line) × In x lines × (x.rec ≡ r)
  pub told : (x : Line) → In x lines → In x.rec records

-- each viewer state that goes out follows from an own record that is told of when it goes out
abbrev pub AreFromRecords : List (Out Msg) → List Rec → Type 0
AreFromRecords [] records = Unit {0}
AreFromRecords (out.Act w ∷ os) records = AreFromRecords os (recorded records w)
AreFromRecords (out.Send link (msg.ViewerState s) ∷ os) records = AnyByRecursion (IsOwnRecordFor s) records × AreFromRecords os records
AreFromRecords (out.Send link other ∷ os) records = AreFromRecords os records

-- What cub c does at its input of number i keeps its journal and its view together.
pub record KeepsRecords (p : Params) (c : ℕ) (inputs : ℕ → Input Msg) (i : ℕ) : Type 0 where
  -- where the journal tells the records of the view, it tells them after the input too
  pub records : (rs : List Rec) → AreRecordsOf (store_at p c inputs i).view.lines rs
      → AreRecordsOf (store_at p c inputs (suc i)).view.lines (recorded_by (outs_at p c inputs i) rs)
  -- and each viewer state that goes out follows from one of them
  pub states : (rs : List Rec) → AreRecordsOf (store_at p c inputs i).view.lines rs → AreFromRecords (outs_at p c inputs i) rs
  -- a record that is taken is for this cub
  pub for_cub : (r : Rec) → In (out.Act (what.Took r)) (outs_at p c inputs i) → IsForCub p c r.kind r.visit
  -- a record that is taken at a message is one that a viewer state tells, of its tenancy, at its visit or the next one
  pub told : (r : Rec) (stamp : Stamp) (link : LinkNo) (m : Msg) → inputs i ≡ Take stamp link m → In (out.Act (what.Took r)) (outs_at p c inputs i)
      → (s : State) × (m ≡ msg.ViewerState s) × (s.tenancy ≡ r.tenancy) × IsAtOrBefore s.visit r.visit
  -- a record that is taken at a tick is of a tenancy that was put before it, at its first visit or the next one
  pub put : (r : Rec) (stamp : Stamp) (xs ys : List (Out Msg)) → inputs i ≡ Tick stamp → outs_at p c inputs i ≡ xs ++ out.Act (what.Took r) ∷ ys
      → In (out.Act (what.Put r.tenancy)) xs × IsAtOrBefore r.tenancy.first r.visit
  -- after a tick no record is due
  pub later : (x : Line) (stamp : Stamp) → inputs i ≡ Tick stamp → In x (store_at p c inputs (suc i)).view.lines
      → stamp.reading < due p x.rec.tenancy.slot.0 x.rec.visit
  -- a viewer state goes to the next cub, or to the one after it
  pub ways : (link : LinkNo) (s : State) → In (out.Send link (msg.ViewerState s)) (outs_at p c inputs i)
      → (k : ℕ) × ((k ≡ 1) ⊎ (k ≡ 2)) × (link ≡ way_ahead p c k)

-- each cub of a plan does so, whatever befalls it
abbrev pub CubsKeepTheirRecords : Type 0
CubsKeepTheirRecords = (p : Params) (c : ℕ) (inputs : ℕ → Input Msg) (i : ℕ) → IsPlan p → c < p.cubs → KeepsRecords p c inputs i
