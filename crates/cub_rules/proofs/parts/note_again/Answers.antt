use Rattle.std.proofs.Common.{◌∙◌, arith}
use Rattle.cub_rules.proofs.Noted.{noted_all, noted_next, placed}
use Rattle.cub_rules.proofs.parts.note_again.Goals as goal

pub loop-i-init : goal.loop-i-init
loop-i-init c = record { long = c.forget_all.ensures; noted = λ j d l there. absurd (omega (arith, l)) }

pub loop-i-preserved : goal.loop-i-preserved
loop-i-preserved c = record {
  long = c.note_there.ensures.length ∙ c.loop-i.invariant.long;
  noted = noted_next c.loop-i.marks.items _ c.args.items.now c.loop-i.i c.index-items-i.result (omega arith) c.note_there.ensures.others
      (c.note_there.ensures.noted (placed c.args.marks.now.items c.loop-i.marks.items c.args.items.now c.loop-i.i c.index-items-i.result c.requires c.loop-i.invariant.long (omega arith)))
      c.loop-i.invariant.noted;
}

pub returns : goal.returns
returns c = noted_all c.loop-i.marks.items c.args.items.now c.loop-i.i (omega arith) c.loop-i.invariant.noted
