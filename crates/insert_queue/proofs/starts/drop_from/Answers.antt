use Rattle.std.proofs.Common.{◌≡◌, ◌∙◌, true, false, length, List, ap, arith, eq-eqb, subst, sym}
use Rattle.std.proofs.lemmas.List.{take_all}
use Rattle.tiger_base.specs.declared.tenancy.Ask.{Ask}
use Rattle.insert_queue.specs.Queues.{has_start, is_of, without, IsOnce}
use Rattle.insert_queue.proofs.Once.{removed-at, without-none}
use Rattle.insert_queue.proofs.starts.drop_from.Goals as goal

pub returns-then-index-instance-clause-left : goal.returns-then-index-instance-clause-left
returns-then-index-instance-clause-left c =
    let v = c.args.instance in
    let once = subst (λ (asks : List Ask). IsOnce asks) (sym c.loop-place.invariant.same) c.requires in
    let here = subst (λ (a : Ask). is_of v a ≡ true) c.index.ensures (eq-eqb _ _ c.if-index-instance.true) in
    c.remove.ensures.items ∙ removed-at c.loop-place.asks.items c.loop-place.place c.index.result.now v once (omega (arith, c.loop-place-test.true, c.len-place-end.ensures, ap (λ (asks : List Ask). length asks) c.loop-place.invariant.same)) here
    ∙ ap (λ (asks : List Ask). without asks v) c.loop-place.invariant.same

pub returns-clause-left : goal.returns-clause-left
returns-clause-left c =
    let v = c.args.instance in
    let asks = c.loop-place.asks.items in
    let none : has_start asks v ≡ false = subst (λ (xs : List Ask). has_start xs v ≡ false) (take_all c.loop-place.place asks (omega (arith, c.loop-place-test.false, c.len-place-end.ensures, ap (λ (xs : List Ask). length xs) c.loop-place.invariant.same))) c.loop-place.invariant.none in
    sym (without-none asks v none) ∙ ap (λ (xs : List Ask). without xs v) c.loop-place.invariant.same
