-- The cubs' rules meet the laws of holding: all of them together.
use Rattle.std.proofs.Common.{◌≡◌, ℕ, ◌≤◌, Option, Some, None, refl, sym, subst, arith, inl, inr}
use Rattle.std.specs.Prelude.{◌⊎◌}
use Rattle.tiger_base.specs.declared.number.Instance.{Instance}
use Rattle.tiger_base.specs.declared.tenancy.Tag.{Tag}
use Rattle.tiger_base.specs.declared.message.Msg.TheVariants as msg
use Rattle.slot_plan.specs.declared.params.Params.{Params}
use Rattle.slot_plan.specs.Conditions.{IsPlan}
use Rattle.proof_lives.specs.Facts.{TookMessage}
use Rattle.proof_lives.specs.Lives.{Lives, AreLives, beat_at}
use Rattle.proof_schedule.specs.HoldLaws.{HoldLaws}
use Rattle.proof_lives.specs.FactsBy.{Beyond, CameToTick, IsInOneLife, facts_by, cubs_alone}
use Rattle.proof_lives.specs.HoldsHere.{AreAllFormed, CubsHold}
use Rattle.proof_lives.specs.StopFactsOf.{PassedAt, GotTagAt, GotBareAt}
use Rattle.proof_lives.proofs.Fitting.{Fits, alone_fits}
use Rattle.proof_lives.proofs.HoldLaws.{beat_of, pass_once, tag_passes, took}
use Rattle.proof_lives.proofs.PassLaws.{pass, passes, told, told_next}
use Rattle.proof_lives.proofs.RecordPasses.{record_passes}

module _ (p : Params) (plan : IsPlan p) (lives : Lives) (are : AreLives p lives) (formed : AreAllFormed p lives) (beyond : Beyond)
    (fits : Fits p lives beyond) where
  -- a deschedule has a tag or none
  pub reached_with : (c v y : ℕ) (w : Instance) → w.0 ≡ v → (tag : Option Tag) → TookMessage p lives c (msg.Deschedule w tag) y → ((s q : ℕ) × GotTagAt p lives c v s q y) ⊎ GotBareAt p lives c v y
  reached_with c v y w same None took = inr (record { instance = w; same = same; took = took })
  reached_with c v y w same (Some tag) took = inl (tag.slot.0, tag.visit, record { instance = w; same = same; tag = tag; slot = refl; visit = refl; took = took })

  -- a tick to which a cub came since a pass, in one life, is of the life of that pass
  came_to : {c v s q y b : ℕ} → PassedAt p lives c v s q y → beyond.Came c b → y ≤ b → IsInOneLife beyond c y b
      → CameToTick p lives c b
  came_to {c} {v} {s} {q} {y} {b} a came le life =
      let beats : beat_at (lives.input c) a.at ≡ y = beat_of p plan lives are formed beyond a in
      fits.ticks c a.at b a.small a.done came (omega arith) (subst (λ n. IsInOneLife beyond c n b) (sym beats) life)

  pub hold_laws : HoldLaws p (facts_by p lives beyond)
  hold_laws = record {
    reached = λ {c} {v} {y} r. reached_with c v y r.instance r.same r.tag r.took;
    reached_tag = λ r. record { instance = r.instance; tag = Some r.tag; same = r.same; took = r.took };
    reached_bare = λ r. record { instance = r.instance; tag = None; same = r.same; took = r.took };
    pass = λ a. pass p plan lives are formed beyond fits a;
    passes = λ {c} {v} {s} {q} {y} {b} a came le life h.
        passes p plan lives are formed beyond fits a (came_to a came le life).tick le h;
    told = λ a. told p plan lives are formed beyond fits a;
    told_next = λ a. told_next p plan lives are formed beyond fits a;
    tag_passes = λ a to. tag_passes p plan lives are formed beyond a to;
    record_passes = λ a entered life undue. record_passes p plan lives are formed beyond a entered undue;
    pass_once = λ a b le life. pass_once p plan lives are formed beyond a b le;
    took = λ a r l life. took p plan lives are formed beyond a r l;
  }

pub cubs_hold : CubsHold
cubs_hold p lives plan are formed = hold_laws p plan lives are formed (cubs_alone p lives) (alone_fits p lives)
