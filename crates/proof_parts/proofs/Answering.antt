-- A cub that asks a disk takes the answer two ways later at the latest; and what it keeps was read by a disk it asked.
use Rattle.std.proofs.Common.{◌≡◌, ℕ, ◌+◌, ◌*◌, ◌<◌, ◌≤◌, List, [], ◌∷◌, true, Option, Some, None, refl, sym, ap, subst, arith, inl}
use Rattle.tiger_base.specs.Span.{LibraryPart}
use Rattle.tiger_base.specs.declared.number.Stamp.{Stamp}
use Rattle.tiger_base.specs.declared.tenancy.Want.{Want}
use Rattle.tiger_base.specs.declared.message.Msg.{Msg}
use Rattle.tiger_base.specs.declared.message.Msg.TheVariants as msg
use Rattle.slot_plan.specs.declared.params.Params.{Params}
use Rattle.node_kit.specs.declared.journal.What.TheVariants as what
use Rattle.node_kit.specs.declared.outbox.Out.{Out}
use Rattle.node_kit.specs.declared.outbox.Out.TheVariants as out
use Rattle.node_kit.specs.Steps.{Deed, Input}
use Rattle.cub_rules.specs.declared.store.Store.{Store}
use Rattle.cub_rules.specs.declared.store.StoredPart.{StoredPart}
use Rattle.cub_rules.specs.Messages.{is_wanted, storing}
use Rattle.disk_core.specs.State.{DiskState}
use Rattle.disk_core.specs.Rules.{read_part}
use Rattle.proof_lives.specs.Lives.{Lives, cut_in, cut_outs, store_at, deed_of}
use Rattle.lists.specs.Elements.{In}
use Rattle.proof_lives.specs.Facts.{TookMessage}
use Rattle.lists.proofs.Elements.{in_right}
use Rattle.proof_lives.proofs.Cuts.{kept_goes_out}
use Rattle.proof_lives.specs.FactsBy.{Beyond, CameToTick}
use Rattle.proof_lives.specs.HoldsHere.{AreAllFormed}
use Rattle.proof_facts.specs.Carried.{AskedDisk, DisksAnswer}
use Rattle.proof_parts.specs.Parts.{CameFromDisk, IsKept, IsTakenBack}
use Rattle.proof_parts.proofs.PartLives.{came_by_answer}
use Rattle.proof_parts.proofs.Storing.{answer_kept}

-- a death cuts off messages and Puts only, so that a failed read is written down
failure_goes : (cut : Option ℕ) (want : Want) (outs : List (Out Msg)) → outs ≡ out.Act (what.ReadFailed want) ∷ []
    → In (out.Act (what.ReadFailed want)) (cut_outs cut outs)
failure_goes cut want outs e =
    let o : Out Msg = out.Act (what.ReadFailed want) in
    subst (λ (os : List (Out Msg)). In o (cut_outs cut os)) (sym e)
    (kept_goes_out cut o (o ∷ []) [] ((refl, refl), tt) (inl refl))

-- what is stored, or written down, for a record that is there
stored_now : (p : Params) (lives : Lives) (c i : ℕ) (want : Want) (part : Option LibraryPart)
    → deed_of p c (lives.input c i) (store_at p c (lives.input c) i)
    ≡ storing want part (store_at p c (lives.input c) i)
    → IsKept p lives c i want part
stored_now p lives c i want (Some part) e =
    let x : StoredPart = record { want = want; part = part } in
    let h : Store = store_at p c (lives.input c) i in
    subst (λ (d : Deed Msg Store). In x d.state.parts) (sym e) (in_right x h.parts (x ∷ []) (inl refl))
stored_now p lives c i want None e =
    failure_goes (cut_in lives c i) want _ (ap (λ (d : Deed Msg Store). d.outs) e)

module _ (p : Params) (lives : Lives) (formed : AreAllFormed p lives) where
  -- an answer that is taken while its record is there is kept
  pub kept : (c y : ℕ) (want : Want) (part : Option LibraryPart)
      → (took : TookMessage p lives c (msg.ReadDone want part) y)
      → is_wanted want (store_at p c (lives.input c) took.at) ≡ true
      → IsKept p lives c took.at want part
  kept c y want part took wanted =
      let inputs : ℕ → Input Msg = lives.input c in
      let stamp : Stamp = record { beat = y; reading = took.reading } in
      let h : Store = store_at p c inputs took.at in
      let form = formed c took.small took.at stamp took.link (msg.ReadDone want part) took.done took.is in
      stored_now p lives c took.at want part
      (subst (λ (i : Input Msg). deed_of p c i h ≡ storing want part h) (sym took.is)
      (answer_kept p c stamp took.link want part h form wanted))

  module _ (beyond : Beyond) (disk_at : ℕ → DiskState) (disks : DisksAnswer p lives beyond disk_at) where
    -- who asks a disk takes the answer, and keeps it if it has a record for it then
    pub taken_back : (c disk x b : ℕ) (want : Want) → AskedDisk p lives c disk want x → CameToTick p lives c b → x + 2 * p.delay ≤ b
        → IsTakenBack p lives (disk_at disk) c want x
    taken_back c disk x b want ask came late =
        let a = disks.answered c disk x b want ask came late in
        let after = a.after in
        let in_time = a.in_time in
        let later = a.later in
        let soon = a.soon in
        record {
          taken = a.taken;
          beat = a.beat;
          took = a.answer;
          read = omega arith;
          before = later;
          soon = omega arith;
          kept = λ w. kept c a.beat want (read_part (disk_at disk) a.taken want) a.answer w;
        }

    -- what is stored came by an answer, and is what a disk read that the cub had asked for it
    pub came_from_disk : (c i : ℕ) (x : StoredPart) → In x (store_at p c (lives.input c) i).parts → c < p.cubs
        → i ≤ lives.count c
        → CameFromDisk p lives beyond disk_at c i x
    came_from_disk c i x k small low =
        let a = came_by_answer p c (lives.input c) i x k in
        let before = a.before in
        record {
          came = a;
          read = disks.of_asks c a.stamp.beat x.want (Some x.part)
              (record {
                small = small;
                at = a.at;
                done = omega arith;
                reading = a.stamp.reading;
                link = a.link;
                is = a.is;
              });
        }
