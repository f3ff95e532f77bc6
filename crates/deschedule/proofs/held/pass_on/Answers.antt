use Rattle.std.proofs.Common.{◌≡◌, ◌∙◌, ℕ, ◌-◌, true, false, drop, List, ap, arith, eq-eqb, length, subst, sym}
use Rattle.std.specs.Prelude.{slice_set}
use Rattle.deschedule.specs.declared.held.Holding.{Holding}
use Rattle.deschedule.specs.Holds.{is_of, is_held, with_pass, IsOnce}
use Rattle.deschedule.proofs.Once.{passed-at, with_pass-none}
use Rattle.deschedule.proofs.held.pass_on.Goals as goal

pub returns-then-hold-instance : goal.returns-then-hold-instance
returns-then-hold-instance c =
    let v = c.args.instance in
    let holds = c.loop-place.holds.items in
    let d = c.index_mut-hold.result.now in
    let once = subst (λ (hs : List Holding). IsOnce hs) (sym c.loop-place.invariant.same) c.requires in
    let here = subst (λ (h : Holding). is_of v h ≡ true) c.index_mut-hold.ensures.value (eq-eqb _ _ c.if-hold-instance.true) in
    ap (λ (h : Holding). slice_set holds (c.loop-place.place - 1) (record h { passed = true })) c.index_mut-hold.ensures.value
    ∙ passed-at holds (c.loop-place.place - 1) d v once (omega (arith, c.loop-place-test.true, c.len-place.ensures, c.loop-place.auto.place, ap (λ (hs : List Holding). length hs) c.loop-place.invariant.same)) here
    ∙ ap (λ (hs : List Holding). with_pass hs v) c.loop-place.invariant.same

pub returns : goal.returns
returns c =
    let v = c.args.instance in
    let holds = c.loop-place.holds.items in
    let all : c.loop-place.place ≡ 0 = omega (arith, c.loop-place-test.false) in
    let none = subst (λ (n : ℕ). is_held (drop n holds) v ≡ false) all c.loop-place.invariant.none in
    sym (with_pass-none holds v none) ∙ ap (λ (hs : List Holding). with_pass hs v) c.loop-place.invariant.same
