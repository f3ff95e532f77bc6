-- Which deschedules a cub sends: at a pass, with the tag of the visit behind its position, to the next two cubs, if the states of that visit may be on their way.
use Rattle.std.proofs.Common.{◌≡◌, ℕ, ◌+◌, List, ◌∷◌, drop, true, Option, Some, refl, subst, inl, inr}
use Rattle.std.specs.Prelude.{◌⊎◌}
use Rattle.tiger_base.specs.declared.number.Instance.{Instance}
use Rattle.tiger_base.specs.declared.number.LinkNo.{LinkNo}
use Rattle.tiger_base.specs.declared.number.Stamp.{Stamp}
use Rattle.tiger_base.specs.declared.tenancy.Tag.{Tag}
use Rattle.tiger_base.specs.declared.message.Msg.{Msg}
use Rattle.tiger_base.specs.declared.message.Msg.TheVariants as msg
use Rattle.slot_plan.specs.declared.params.Params.{Params}
use Rattle.slot_plan.specs.Keys.{Key}
use Rattle.node_kit.specs.declared.outbox.Out.{Out}
use Rattle.node_kit.specs.declared.outbox.Out.TheVariants as out
use Rattle.node_kit.specs.Ways.{way_ahead}
use Rattle.cub_rules.specs.declared.store.Store.{Store}
use Rattle.cub_rules.specs.Messages.{is_reached, passed_on, taking}
use Rattle.cub_changes.specs.Changes.{Change}
use Rattle.cub_changes.specs.Causes.{PassesOn, Cause}
use Rattle.cub_changes.specs.Causes.Stage.{OnMessage}
use Rattle.lists.specs.Elements.{In}
use Rattle.proof_lives.proofs.Taking.{message_out}
use Rattle.cub_changes.specs.Changes.{did}
use Rattle.cub_changes.specs.Changes.Change.{PassOn}

-- the tag of the visit behind a position
abbrev pub tag_behind : Key → Tag
tag_behind k = record { slot = k.0; visit = k.1 + 1 }

-- a pass sends both where the states may be on their way
pub pass_sends : (p : Params) (c : ℕ) (stamp : Stamp) (v : Instance) (k : Key) (g : Store) → is_reached p stamp k.0 (k.1 + 1) ≡ true
    → In (out.Send (way_ahead p c 1) (msg.Deschedule v (Some (tag_behind k)))) (did p c stamp (PassOn v k) g).outs
    × In (out.Send (way_ahead p c 2) (msg.Deschedule v (Some (tag_behind k)))) (did p c stamp (PassOn v k) g).outs
pass_sends p c stamp v k g e = rw e (inl refl, inr (inl refl))

-- the first message that it sends goes to the next cub
pub pass_first : (p : Params) (c : ℕ) (stamp : Stamp) (v : Instance) (k : Key) (g : Store) → is_reached p stamp k.0 (k.1 + 1) ≡ true
    → (rest : List (Out Msg))
    × ((did p c stamp (PassOn v k) g).outs ≡ out.Send (way_ahead p c 1) (msg.Deschedule v (Some (tag_behind k))) ∷ rest)
pass_first p c stamp v k g e = rw e (drop 1 (passed_on p c v (tag_behind k)), refl)

-- a deschedule goes out at a pass
pub record GoesOut (p : Params) (c : ℕ) (stamp : Stamp) (m : Msg) (h : Store) (link : LinkNo) (v : Instance) (tag : Option Tag) : Type 0 where
  pub key : Key
  pub passes : PassesOn p c stamp m h v key
  pub reached : is_reached p stamp key.0 (key.1 + 1) ≡ true
  pub tag_is : tag ≡ Some (tag_behind key)
  pub ways : (link ≡ way_ahead p c 1) ⊎ (link ≡ way_ahead p c 2)

-- a deschedule that a cub sends at a message goes out at a pass
pub sent_passes : (p : Params) (c : ℕ) (stamp : Stamp) (link way : LinkNo) (m : Msg) (h : Store) (v : Instance) (tag : Option Tag)
    → In (out.Send way (msg.Deschedule v tag)) (taking p c stamp link m h).outs → GoesOut p c stamp m h way v tag
sent_passes p c stamp link way m h v tag i =
    let k = message_out p c stamp link m h (out.Send way (msg.Deschedule v tag)) i in
    record {
      key = k.tells.0;
      passes = subst (λ (x : Change). Cause p c stamp (OnMessage link m) h x k.before) k.tells.1 k.cause;
      reached = k.tells.3;
      tag_is = k.tells.2;
      ways = k.tells.4;
    }
