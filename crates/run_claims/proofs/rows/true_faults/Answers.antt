use Rattle.std.proofs.Common.{◌≡◌, refl, ap, ⊎_elim, inl, arith}
use Rattle.tiger_base.specs.declared.tenancy.Want.{Want}
use Rattle.slot_plan.specs.Times.{disk_of}
use Rattle.mirror_pieces.specs.Pieces.{piece_disk}
use Rattle.run_model.specs.Moments.{next_moment}
use Rattle.run_claims.proofs.rows.true_faults.Goals as goal

pub returns-clause-of_block : goal.returns-clause-of_block
unfolding next_moment disk_of piece_disk
returns-clause-of_block c = (tt, (inl (refl, inl (refl, omega arith, omega arith)), tt))

pub returns-clause-before : goal.returns-clause-before
unfolding next_moment disk_of piece_disk
returns-clause-before c h =
    ⊎_elim (λ f. ⊎_elim (λ lasts. let from = lasts.1 in omega (arith, from)) (λ n. n) f.1) (λ n. n) h.1.0

pub returns-clause-after : goal.returns-clause-after
unfolding next_moment disk_of piece_disk
returns-clause-after c h =
    ⊎_elim (λ f. ⊎_elim (λ lasts. let until = lasts.2 in omega (arith, until)) (λ n. n) f.1) (λ n. n) h.1.0

pub returns-clause-of_other_disk : goal.returns-clause-of_other_disk
unfolding next_moment disk_of piece_disk
returns-clause-of_other_disk c h =
    ⊎_elim (λ f. ⊎_elim (λ lasts. let disk = lasts.0 in omega (arith, disk)) (λ n. n) f.1) (λ n. n) h.1.0

pub returns-clause-not_asked : goal.returns-clause-not_asked
unfolding next_moment disk_of piece_disk
returns-clause-not_asked c h =
    ⊎_elim (λ f. let visit : 8 ≡ 0 = ap (λ (w : Want). w.visit) f.0 in omega (arith, visit)) (λ n. n) h.1.0

pub returns-clause-of_piece : goal.returns-clause-of_piece
unfolding next_moment disk_of piece_disk
returns-clause-of_piece c = (tt, (inl (refl, inl (refl, omega arith, omega arith)), tt))
