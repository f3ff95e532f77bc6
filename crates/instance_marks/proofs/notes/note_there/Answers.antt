use Rattle.std.proofs.Common.{◌∙◌, List, Bool, length, ap, refl}
use Rattle.instance_marks.proofs.Marked.{length-mark, noted_more, noted_one}
use Rattle.instance_marks.proofs.notes.note_there.Goals as goal

pub returns-clause-noted : goal.returns-clause-noted
returns-clause-noted c = λ place. noted_one c.args.marks.now.items _ c.args.instance place c.set_mark.ensures

pub returns-clause-others : goal.returns-clause-others
returns-clause-others c = λ v noted. noted_more c.args.marks.now.items c.args.marks.now.items _ c.args.instance v (λ n. refl) c.set_mark.ensures noted

pub returns-clause-length : goal.returns-clause-length
returns-clause-length c = ap (λ (ms : List Bool). length ms) c.set_mark.ensures ∙ length-mark c.args.marks.now.items c.args.instance.0
