use Rattle.std.proofs.Common.{Bool, ◌&&◌, ap, sym, ◌∙◌}
use Rattle.audit_waits.specs.Holders.{has_mark}
use Rattle.audit_waits.proofs.Holding.{seat_tells}
use Rattle.audit_waits.proofs.holders.Holders.has_visit.Goals as goal

pub returns-in-Some : goal.returns-in-Some
returns-in-Some c =
    c.are_both.ensures ∙ ap (λ (b : Bool). c.has_seat.result && b) c.spans.ensures
    ∙ seat_tells (has_mark c.args.self.now.stops) c.in-Some.t c.args.visit _ _ (sym c.get.ensures ∙ c.in-Some.is) c.has_seat.ensures
