use Rattle.std.proofs.Common.{false, true, refl, arith}
use Rattle.tiger_input.specs.Samples.{here}
use Rattle.tiger_input.proofs.Samples.{some_workers, nothing_is_no_run, nothing_is_no_make}
use Rattle.tiger_disks.specs.Samples.{image_name, one_name}
use Rattle.tiger_top.proofs.Asked.{tigers_by, refused_disks, no_command, one_worker, one_spare}
use Rattle.tiger_top.proofs.rows.commands.Goals as goal

pub returns-clause-run : goal.returns-clause-run
returns-clause-run c = tigers_by _ (λ n f. omega (arith, n, f)) (λ n f. omega (arith, n, f)) (λ n f. omega (arith, n, f)) (λ f. omega (arith, f)) (λ n f. omega (arith, n, f)) (λ n f. omega (arith, n, f))

pub returns-clause-make : goal.returns-clause-make
returns-clause-make c = tigers_by _ (λ n f. omega (arith, n, f)) (λ n f. omega (arith, n, f)) (λ n f. omega (arith, n, f)) (λ f. omega (arith, f)) (λ n f. omega (arith, n, f)) (λ n f. omega (arith, n, f))

pub returns-clause-net : goal.returns-clause-net
returns-clause-net c h = h.no_net here refl

pub returns-clause-journal : goal.returns-clause-journal
returns-clause-journal c h = h.no_journal here 1 (one_worker here)

pub returns-clause-spare : goal.returns-clause-spare
returns-clause-spare c h = h.no_spare here 1 (one_spare here)

pub returns-clause-disks : goal.returns-clause-disks
returns-clause-disks c h = h.no_disks one_name image_name false refl

pub returns-clause-forced : goal.returns-clause-forced
returns-clause-forced c h = h.no_disks one_name image_name true refl

pub returns-clause-no_image : goal.returns-clause-no_image
returns-clause-no_image c = refused_disks _ refl (λ e. omega (arith, e)) (λ n f. omega (arith, n))

pub returns-clause-no_force : goal.returns-clause-no_force
returns-clause-no_force c = refused_disks _ refl (λ e. omega (arith, e)) (λ n f. omega (arith, f))

pub returns-clause-no_words : goal.returns-clause-no_words
returns-clause-no_words c = record {
  tigers = tigers_by _ (λ n f. omega (arith, n, f)) (λ n f. omega (arith, n, f)) (λ n f. omega (arith, n, f)) (λ f. omega (arith, f)) (λ n f. omega (arith, n, f)) (λ n f. omega (arith, n, f));
  none = record { no_run = λ name n run. nothing_is_no_run n name run; no_make = λ n make. nothing_is_no_make n make };
}

pub returns-clause-no_name : goal.returns-clause-no_name
returns-clause-no_name c = record { tigers = tigers_by _ (λ n f. omega (arith, n, f)) (λ n f. omega (arith, n, f)) (λ n f. omega (arith, n, f)) (λ f. omega (arith, f)) (λ n f. omega (arith, n, f)) (λ n f. omega (arith, n, f)); none = no_command _ (λ e. omega (arith, e)) (λ e. omega (arith, e)) }

pub returns-clause-two_names : goal.returns-clause-two_names
returns-clause-two_names c = record { tigers = tigers_by _ (λ n f. omega (arith, n, f)) (λ n f. omega (arith, n, f)) (λ n f. omega (arith, n, f)) (λ f. omega (arith, f)) (λ n f. omega (arith, n, f)) (λ n f. omega (arith, n, f)); none = no_command _ (λ e. omega (arith, e)) (λ e. omega (arith, e)) }

pub returns-clause-no_refused_net : goal.returns-clause-no_refused_net
returns-clause-no_refused_net c h = h.tigers.no_net here refl

pub returns-clause-no_refused_run : goal.returns-clause-no_refused_run
returns-clause-no_refused_run c h = h.none.no_run here 1 (some_workers here 1 (omega arith) (omega arith))

pub returns-clause-no_refused_journal : goal.returns-clause-no_refused_journal
returns-clause-no_refused_journal c h = h.tigers.no_journal here 1 (one_worker here)

pub returns-clause-no_refused_spare : goal.returns-clause-no_refused_spare
returns-clause-no_refused_spare c h = h.tigers.no_spare here 1 (one_spare here)

pub returns-clause-check : goal.returns-clause-check
returns-clause-check c h = h.no_check here refl

pub returns-clause-no_refused_check : goal.returns-clause-no_refused_check
returns-clause-no_refused_check c h = h.tigers.no_check here refl

pub returns-clause-audit : goal.returns-clause-audit
returns-clause-audit c h = h.no_audit here refl

pub returns-clause-no_refused_audit : goal.returns-clause-no_refused_audit
returns-clause-no_refused_audit c h = h.tigers.no_audit here refl
