-- What is decided of the views and the entries in the log of a kept run is decided of its account.
use Rattle.std.proofs.Common.{Some, None, sym, subst}
use Rattle.audit_views.specs.Verdicts.{ArePartAndLocal, ViewsOfAccounts}

pub views_of_accounts : ViewsOfAccounts
views_of_accounts k lines None d =
    let both = subst (ArePartAndLocal k.course.plan.params) d.told d.decided in
    record { always = both.0; local = both.1 }
views_of_accounts k lines (Some i) d =
    λ claim. d.decided.whole (subst (ArePartAndLocal k.course.plan.params) (sym d.told) (claim.always, claim.local))
