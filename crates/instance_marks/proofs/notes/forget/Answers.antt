use Rattle.instance_marks.proofs.Marked.{noted_less}
use Rattle.instance_marks.proofs.notes.forget.Goals as goal

pub returns : goal.returns
returns c = λ v noted other. noted_less c.args.marks.now.items _ c.args.instance v c.set_mark.ensures noted other
