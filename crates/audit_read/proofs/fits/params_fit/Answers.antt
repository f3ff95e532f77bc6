use Rattle.std.proofs.lemmas.List.Elements.{All-from_recursion}
use Rattle.audit_text.specs.Fields.{params_fields}
use Rattle.audit_text.specs.Fits.{IsLong}
use Rattle.audit_read.proofs.fits.params_fit.Goals as goal

pub returns : goal.returns
returns c = All-from_recursion IsLong (params_fields c.args.p.now) c.longs_fit.ensures
