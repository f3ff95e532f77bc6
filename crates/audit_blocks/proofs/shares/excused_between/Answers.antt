use Rattle.std.proofs.Common.{◌≡◌, ℕ, ◌+◌, ◌-◌, ◌<◌, Bool, length, filter, ap, sym, ◌∙◌, arith}
use Rattle.std.specs.Prelude.{if◌then◌else◌}
use Rattle.std.specs.List.{range_with_len}
use Rattle.audit_blocks.specs.Shares.{is_excused_by}
use Rattle.audit_blocks.proofs.Sharing.{few_numbers, none_yet, one_number}
use Rattle.audit_blocks.proofs.shares.excused_between.Goals as goal

pub loop-n-init : goal.loop-n-init
loop-n-init c = record {
  from = omega arith;
  to = c.requires.order;
  counted = none_yet (is_excused_by c.args.k.now c.args.share c.args.t.now) c.args.first;
  few = omega arith;
}

pub with_visit-count-requires : goal.with_visit-count-requires
with_visit-count-requires c = let few = c.loop-n.invariant.few in omega (arith, few)

pub loop-n-preserved : goal.loop-n-preserved
loop-n-preserved c =
    let test = is_excused_by c.args.k.now c.args.share c.args.t.now in
    let first = c.args.first in
    let n = c.loop-n.n in
    let from = c.loop-n.invariant.from in
    let low : n < c.args.end = c.loop-n-test.true in
    let counted =
    c.with_visit-count.ensures
    ∙ ap (λ (m : ℕ). if c.is_excused_by.result then m + 1 else m) c.loop-n.invariant.counted
    ∙ ap (λ (b : Bool). if b then length (filter test (range_with_len first (n - first))) + 1 else length (filter test (range_with_len first (n - first))))
    c.is_excused_by.ensures
    ∙ sym (one_number test first n from) in
    let few = few_numbers test first (n + 1 - first) in
    record { from = omega (arith, from); to = omega (arith, low); counted = counted; few = omega (arith, counted, few) }

pub returns : goal.returns
returns c =
    let test = is_excused_by c.args.k.now c.args.share c.args.t.now in
    let end : c.loop-n.n ≡ c.args.end = omega (arith, c.loop-n.invariant.to, c.loop-n-test.false) in
    c.loop-n.invariant.counted ∙ ap (λ (n : ℕ). length (filter test (range_with_len c.args.first (n - c.args.first)))) end
