use Rattle.std.proofs.Common.{arith, rules, subst, sym, ◌∙◌, IfSome, IsTrue}
use Rattle.node_kit.specs.Form.{is_tenancy}
use Rattle.tiger_base.specs.declared.tenancy.Tenancy.{Tenancy}
use Rattle.controller_core.proofs.InForm.{found_in_form, visit_in_form}
use Rattle.controller_core.proofs.known.Known.stop.Goals as goal

pub visit_due-visit-requires-clause-in_form : goal.visit_due-visit-requires-clause-in_form
visit_due-visit-requires-clause-in_form c =
    subst (λ o. IfSome o (λ (t : Tenancy). IsTrue (is_tenancy c.args.plan.now.params t))) (sym c.tenancy.ensures ∙ c.in-Some.is) (found_in_form c.args.plan.now.params c.args.self.now c.args.instance c.requires.in_form)

pub lose-requires : goal.lose-requires
lose-requires c =
    let form = subst (λ o. IfSome o (λ (t : Tenancy). IsTrue (is_tenancy c.args.plan.now.params t))) (sym c.tenancy.ensures ∙ c.in-Some.is) (found_in_form c.args.plan.now.params c.args.self.now c.args.instance c.requires.in_form) in
    let small = visit_in_form c.args.plan.now.params c.in-Some.tenancy c.visit_due-visit.result form (search rules) in
    omega arith
