use Rattle.run_report.proofs.Lines.{digits_fit, short_digits}
use Rattle.run_report.proofs.line.Line.number.Goals as goal

pub write_digits-self-inside-requires : goal.write_digits-self-inside-requires
write_digits-self-inside-requires c =
    digits_fit c.self.inside.bytes _ c.self.inside.start c.args.n c.self.invariant c.self.view_is c.requires c.ranges.n.fits

pub returns-clause-short : goal.returns-clause-short
returns-clause-short c =
    short_digits c.args.n _ _ c.ranges.n.fits (rw (← c.self.view_is) c.write_digits-self-inside.ensures.written)
