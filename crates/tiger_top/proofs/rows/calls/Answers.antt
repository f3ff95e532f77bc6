use Rattle.std.proofs.Common.{ℕ, true, false, List, [], length, get_or, sym, ap, subst, ◌∙◌, arith, refl}
use Rattle.tiger_input.specs.Samples.{here}
use Rattle.tiger_disks.specs.Samples.{image_name, one_name}
use Rattle.tiger_top.specs.Commands.{AreTigers, AsksJournal, AsksSpare}
use Rattle.tiger_top.proofs.Asked.{tigers_by, one_worker, one_spare}
use Rattle.tiger_top.proofs.rows.calls.Goals as goal

abbrev count : List (List ℕ) → ℕ
count words = length words

abbrev first_letter : List (List ℕ) → ℕ
first_letter words = get_or (get_or words 0 []) 0 0

abbrev second : List (List ℕ) → List ℕ
second words = get_or words 1 []

abbrev third : List (List ℕ) → List ℕ
third words = get_or words 2 []

pub returns-clause-net : goal.returns-clause-net
returns-clause-net c words is name net = ap second (sym net ∙ is)

pub returns-clause-no_net : goal.returns-clause-no_net
returns-clause-no_net c words is name net = let e = ap count (sym is ∙ net) in absurd (omega (arith, e))

pub returns-clause-net_name : goal.returns-clause-net_name
returns-clause-net_name c words is h = let e = ap length (h here is) in omega (arith, e)

pub returns-clause-journal : goal.returns-clause-journal
returns-clause-journal c words is name workers journal = ap second (sym journal.form ∙ is)

pub returns-clause-no_journal : goal.returns-clause-no_journal
returns-clause-no_journal c words is name workers journal =
    let e = ap count (sym is ∙ journal.form) in absurd (omega (arith, e))

pub returns-clause-journal_name : goal.returns-clause-journal_name
returns-clause-journal_name c words is h =
    let journal = subst (λ (texts : List (List ℕ)). AsksJournal texts here 1) (sym is) (one_worker here) in
    let e = ap length (h here 1 journal) in
    omega (arith, e)

pub returns-clause-spare : goal.returns-clause-spare
returns-clause-spare c words is name workers spare = ap second (sym spare.form ∙ is)

pub returns-clause-no_spare : goal.returns-clause-no_spare
returns-clause-no_spare c words is name workers spare =
    let e = ap first_letter (sym is ∙ spare.form) in absurd (omega (arith, e))

pub returns-clause-spare_name : goal.returns-clause-spare_name
returns-clause-spare_name c words is h =
    let spare = subst (λ (texts : List (List ℕ)). AsksSpare texts here 1) (sym is) (one_spare here) in
    let e = ap length (h here 1 spare) in
    omega (arith, e)

pub returns-clause-tigers : goal.returns-clause-tigers
returns-clause-tigers c words is tigers = is

pub returns-clause-no_tigers : goal.returns-clause-no_tigers
returns-clause-no_tigers c words is tigers = tigers.no_net here is

pub returns-clause-tigers_texts : goal.returns-clause-tigers_texts
returns-clause-tigers_texts c words is h =
    let tigers = subst AreTigers (sym is) (tigers_by _ (λ n f. omega (arith, n, f)) (λ n f. omega (arith, n, f)) (λ n f. omega (arith, n, f)) (λ f. omega (arith, f)) (λ n f. omega (arith, n, f)) (λ n f. omega (arith, n, f))) in
    let e = ap count (sym is ∙ h tigers) in
    omega (arith, e)

pub returns-clause-disks : goal.returns-clause-disks
returns-clause-disks c words is name image false plain = (ap second (sym plain ∙ is), ap third (sym plain ∙ is), refl)
returns-clause-disks c words is name image true forced = let e = ap count (sym is ∙ forced) in absurd (omega (arith, e))

pub returns-clause-forced : goal.returns-clause-forced
returns-clause-forced c words is name image false plain = let e = ap count (sym is ∙ plain) in absurd (omega (arith, e))
returns-clause-forced c words is name image true forced = refl

pub returns-clause-no_disks : goal.returns-clause-no_disks
returns-clause-no_disks c words is name image over disks = let e = ap first_letter (sym is ∙ disks) in absurd (omega (arith, e))

pub returns-clause-disks_name : goal.returns-clause-disks_name
returns-clause-disks_name c words is h = let e = ap length (h one_name image_name false is) in omega (arith, e)

pub returns-clause-image : goal.returns-clause-image
returns-clause-image c words is none = none one_name image_name false is

pub returns-clause-no_image : goal.returns-clause-no_image
returns-clause-no_image c words is h = h (λ name image over disks. (let e = ap first_letter (sym is ∙ disks) in omega (arith, e)))

pub returns-clause-check : goal.returns-clause-check
returns-clause-check c words is name check = ap second (sym check ∙ is)

pub returns-clause-no_check : goal.returns-clause-no_check
returns-clause-no_check c words is name check = let e = ap first_letter (sym is ∙ check) in absurd (omega (arith, e))

pub returns-clause-check_name : goal.returns-clause-check_name
returns-clause-check_name c words is h = let e = ap length (h here is) in omega (arith, e)

pub returns-clause-audit : goal.returns-clause-audit
returns-clause-audit c words is name audit = ap second (sym audit ∙ is)

pub returns-clause-no_audit : goal.returns-clause-no_audit
returns-clause-no_audit c words is name audit = let e = ap first_letter (sym is ∙ audit) in absurd (omega (arith, e))

pub returns-clause-audit_name : goal.returns-clause-audit_name
returns-clause-audit_name c words is h = let e = ap length (h here is) in omega (arith, e)
