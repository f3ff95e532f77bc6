-- What is decided of the lines of a log is decided of the log.
use Rattle.std.proofs.Common.{◌≡◌, ℕ, List, Option, Some, None, sym, subst}
use Rattle.run_facts.specs.Order.{Noted}
use Rattle.audit_frame.specs.First.{Decides}
use Rattle.audit_frame.specs.Said.{SaysOf}

pub says : (Claim : List Noted → Type 0) (told log : List Noted) (answer : Option ℕ) → told ≡ log → Decides Claim told answer
    → SaysOf answer (Claim log)
says Claim told log None is d = subst Claim is d
says Claim told log (Some i) is d = λ claim. d.whole (subst Claim (sym is) claim)
