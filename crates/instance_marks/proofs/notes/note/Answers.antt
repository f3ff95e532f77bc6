use Rattle.std.proofs.Common.{◌∙◌}
use Rattle.instance_marks.proofs.Marked.{noted_more, noted_one}
use Rattle.instance_marks.proofs.notes.note.Goals as goal

pub returns-in_err-make_place-clause-others : goal.returns-in_err-make_place-clause-others
returns-in_err-make_place-clause-others c = λ v noted small. c.make_place.ensures.same v.0 ∙ noted small

pub returns-clause-noted : goal.returns-clause-noted
returns-clause-noted c = noted_one c.make_place.new.marks.items _ c.args.instance c.in_ok-make_place.ensures.ok c.set_mark.ensures

pub returns-clause-others : goal.returns-clause-others
returns-clause-others c = λ v noted. noted_more c.args.marks.now.items c.make_place.new.marks.items _ c.args.instance v c.make_place.ensures.same c.set_mark.ensures noted
