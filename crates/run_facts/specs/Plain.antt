-- Runs in which no event is cut off, and nobody returns.
use Rattle.std.specs.Prelude.{◌≡◌, ℕ, ◌+◌, ◌<◌, ◌≤◌, true, false, Some, slice_get}
use Rattle.std.specs.List.{AllByRecursion}
use Rattle.tiger_base.specs.declared.number.Stamp.{Stamp}
use Rattle.tiger_base.specs.declared.number.LinkNo.{LinkNo}
use Rattle.tiger_base.specs.declared.message.Note.{Note}
use Rattle.slot_plan.specs.declared.params.Params.{Params}
use Rattle.slot_plan.specs.Times.{time_of}
use Rattle.node_kit.specs.Links.{links_of, ends_of}
use Rattle.node_kit.specs.Steps.{Input, Deed, IsAllowed}
use Rattle.node_kit.specs.Steps.Input.{Take}
use Rattle.run_facts.specs.Events.{IsPlain, is_death}
use Rattle.run_facts.specs.Events.NodeEvent.{Does}
use Rattle.run_facts.specs.Histories.{History, CameOn, beat, reading, outs, sent, takes, ticks}

-- What carrying, the clocks and the runner give, if all events are plain, and nothing of the nodes' rules: for nodes
-- of these numbers, one tick ends each beat, and a node that lives has ended each beat below that of any event; its
-- readings are within the skew and never fall; its death is its last event; it puts out what it may; what it takes
-- was sent so, and what was sent was taken before the tick that ends the last beat in which it may arrive.
pub record IsPlainRun {M S : Type 0} (note : M → Note) (step : S → Input M → Deed M S) (p : Params) (nodes : ℕ)
    (h : History M S) : Type 0 where
  pub plain : (n i : ℕ) → n < nodes → i < h.count n → IsPlain (h.event n i)
  pub in_beat : (n i : ℕ) → n < nodes → i < h.count n → beat h n i ≡ ticks h n i
  pub reads : (n i : ℕ) → n < nodes → i < h.count n
      → (time_of p (beat h n i) ≤ reading h n i) × (reading h n i ≤ time_of p (beat h n i) + p.skew)
  pub rising : (n j i : ℕ) → n < nodes → j ≤ i → i < h.count n → reading h n j ≤ reading h n i
  pub level : (n m i : ℕ) → n < nodes → m < nodes → i < h.count n
      → ((j : ℕ) → j < h.count m → is_death (h.event m j) ≡ false) → beat h n i ≤ ticks h m (h.count m)
  pub ended : (n i : ℕ) → n < nodes → i < h.count n → is_death (h.event n i) ≡ true → i + 1 ≡ h.count n
  pub fair : (n i : ℕ) → n < nodes → i < h.count n → AllByRecursion (IsAllowed note p n) (outs note step h n i)
  pub carried : (n i : ℕ) (stamp : Stamp) (link : LinkNo) (msg : M) → n < nodes → i < h.count n
      → h.event n i ≡ Does (Take stamp link msg)
      → CameOn note step p nodes h n link.0 (takes link.0 h n i) stamp.beat msg
  pub arrives : (l from n k when : ℕ) (msg : M) → from < nodes → n < nodes → ends_of (links_of p) l ≡ Some (from, n)
      → slice_get (sent note step l h from (h.count from)) k ≡ Some (record { beat = when; item = msg })
      → when + p.delay < ticks h n (h.count n) → k < takes l h n (h.count n)
