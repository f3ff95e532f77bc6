-- An own record that stands has entered.
use Rattle.std.proofs.Common.{◌≡◌, ℕ, ◌<◌, refl, subst, inl, arith}
use Rattle.tiger_base.specs.Records.{own_of}
use Rattle.tiger_base.specs.declared.tenancy.Rec.{Rec}
use Rattle.tiger_base.specs.declared.tenancy.Tenancy.{Tenancy}
use Rattle.slot_plan.specs.declared.params.Params.{Params}
use Rattle.partial_view.specs.declared.line.Line.{Line}
use Rattle.proof_lives.specs.Lives.{Lives, outs_at, beat_at}
use Rattle.lists.specs.Elements.{In}
use Rattle.proof_lives.proofs.Inputs.{entered_at}
use Rattle.proof_lives.proofs.Cuts.{goes_whole, whole_before}
use Rattle.proof_lives.proofs.Moves.{taken_out}
use Rattle.proof_lives.proofs.Order.{beats_rise}
use Rattle.proof_lives.specs.FactsBy.{Beyond, facts_by}
use Rattle.proof_lives.proofs.Fitting.{Fits}
use Rattle.proof_lives.proofs.SameLife.{same_life}
use Rattle.proof_service.specs.ServiceFacts.{ArisesBy}
use Rattle.proof_facts.specs.Pieces.{pieces_by}
use Rattle.proof_blocks.proofs.Living.{AreCubs, store_of}
use Rattle.proof_blocks.proofs.Tracing.{trail}

module _ (p : Params) (lives : Lives) (cubs : AreCubs p lives) where
  -- an own record that is there has entered
  pub own_arises : (beyond : Beyond) → Fits p lives beyond → (c i b : ℕ) (t : Tenancy) (n : ℕ) (x : Line) → (small : c < p.cubs)
      → i < lives.count c
      → beat_at (lives.input c) i ≡ b → In x (store_of p lives c i).view.lines → x.rec ≡ own_of t n
      → ArisesBy (facts_by p lives beyond) (pieces_by p lives) c t n 0 b
  own_arises beyond fits c i b t n x small low eb there same =
      let d = trail p c (lives.input c) i x there in
      let before = d.before in
      let rise = beats_rise p (lives.count c) (lives.input c) (cubs.lived c small) d.at i (omega arith) low in
      let taken = goes_whole p lives c d.at (taken_out (own_of t n)) (whole_before lives c d.at i before low)
      (subst (λ (r : Rec). In (taken_out r) (outs_at p c (lives.input c) d.at)) same d.taken) in
      record {
        beat = beat_at (lives.input c) d.at;
        arises = inl (refl, entered_at p lives c d.at (own_of t n) small (omega arith) taken);
        by = omega arith;
        life = λ u back by. same_life p lives beyond cubs.lived fits c d.at i small (omega arith) low u back (omega arith);
      }
