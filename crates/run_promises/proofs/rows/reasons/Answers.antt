use Rattle.std.proofs.Common.{[], ◌∷◌, refl, arith, ⊎_elim, inl, inr}
use Rattle.std.proofs.lemmas.Bool.{false≢true}
use Rattle.run_model.proofs.OnSamples.{on_samples}
use Rattle.run_report.specs.Outcomes.{kind_of, missing_of, reason_of, whole_sent, pieces_sent, piece_sent, stop_of}
use Rattle.run_model.specs.Samples.{all, seated, fails, want}
use Rattle.run_promises.proofs.Reports.{reads_fail}
use Rattle.run_promises.proofs.rows.reasons.Goals as goal

pub returns-clause-read : goal.returns-clause-read
unfolding on_samples kind_of missing_of reason_of whole_sent pieces_sent piece_sent stop_of
returns-clause-read c s = refl

pub returns-clause-true_read : goal.returns-clause-true_read
returns-clause-true_read c = inl (inr (inl (refl, refl, refl)))

pub returns-clause-not_read : goal.returns-clause-not_read
returns-clause-not_read c h = false≢true ((reads_fail (all (seated ∷ fails 0 40 (want 0 0 1) ∷ [])) 0 0).1 h)

pub returns-clause-dead : goal.returns-clause-dead
unfolding on_samples kind_of missing_of reason_of whole_sent pieces_sent piece_sent stop_of
returns-clause-dead c s = refl

pub returns-clause-true_dead : goal.returns-clause-true_dead
unfolding on_samples
returns-clause-true_dead c = (inr (inl (tt, (omega arith, omega arith))), inl refl)

pub returns-clause-not_dead : goal.returns-clause-not_dead
unfolding on_samples
returns-clause-not_dead c h = ⊎_elim (λ n. n.0) (λ k. ⊎_elim (λ d. let late = d.1.0 in omega (arith, late)) (λ n. n) k) h.0

pub returns-clause-piece : goal.returns-clause-piece
unfolding on_samples kind_of missing_of reason_of whole_sent pieces_sent piece_sent stop_of
returns-clause-piece c s = refl

pub returns-clause-true_piece : goal.returns-clause-true_piece
unfolding on_samples
returns-clause-true_piece c = record {
  died = inl (tt, omega arith);
  away = inr (λ back. ⊎_elim (λ x. x.0) (λ n. n) back);
  piece = 1;
  low = omega arith;
  high = omega arith;
  lost = inl (inr (inr (inl (inl (refl, refl, refl)))));
}

pub returns-clause-not_piece : goal.returns-clause-not_piece
unfolding on_samples
returns-clause-not_piece c h = ⊎_elim (λ d. let early = d.1 in omega (arith, early)) (λ n. n) h.died
