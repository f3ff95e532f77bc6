use Rattle.std.proofs.Common.{Option, Some, None, Ok, Err, sym, ◌∙◌, subst, refl}
use Rattle.std.proofs.lemmas.Result.{err_from_is_err_and}
use Rattle.file_disk.specs.Fetching.{IsFetched, FetchCause, GivesWhatStands}
use Rattle.file_disk.specs.declared.directory.Extent.{Extent}
use Rattle.file_disk.proofs.Fetched.{whole-given, whole-fault}
use Rattle.file_disk.proofs.getting.fetch.Goals as goal

pub returns-in_ok-fetch_extent-in-Some-clause-given : goal.returns-in_ok-fetch_extent-in-Some-clause-given
returns-in_ok-fetch_extent-in-Some-clause-given g c =
    let state = g.V.Device.state in
    let e = sym c.find.ensures.value ∙ c.in-Some.is in
    subst (λ (o : Option Extent). IsFetched o (state c.args.dev.now) (state c.fetch_extent.new.dev) (Some c.in_ok-fetch_extent-in-Some.field-0.items)) (sym e) c.in_ok-fetch_extent-in-Some.ensures.given

pub returns-in_ok-fetch_extent-in-Some-clause-whole : goal.returns-in_ok-fetch_extent-in-Some-clause-whole
returns-in_ok-fetch_extent-in-Some-clause-whole g c =
    let told = (g.V.Device.state c.args.dev.now).told in
    let e = sym c.find.ensures.value ∙ c.in-Some.is in
    let given = c.in_ok-fetch_extent-in-Some.ensures.given in
    subst (λ (o : Option Extent). GivesWhatStands o told (Ok (Some c.in_ok-fetch_extent-in-Some.field-0))) (sym e)
    (whole-given c.in-Some.extent told c.in_ok-fetch_extent-in-Some.field-0 given.1 given.0.are)

pub returns-in_err-fetch_extent-in-Some-clause-cause : goal.returns-in_err-fetch_extent-in-Some-clause-cause
returns-in_err-fetch_extent-in-Some-clause-cause g c =
    let state = g.V.Device.state in
    let p = err_from_is_err_and c.from_residual.result c.from_residual.ensures.1 in
    let e = sym c.find.ensures.value ∙ c.in-Some.is in
    rw (p.1, p.2) (subst (λ (o : Option Extent). FetchCause o (state c.args.dev.now) (state c.fetch_extent.new.dev) c.in_err-fetch_extent-in-Some.field-0.0) (sym e) c.in_err-fetch_extent-in-Some.ensures.cause)

pub returns-in_err-fetch_extent-in-Some-clause-whole : goal.returns-in_err-fetch_extent-in-Some-clause-whole
returns-in_err-fetch_extent-in-Some-clause-whole g c =
    let state = g.V.Device.state in
    let p = err_from_is_err_and c.from_residual.result c.from_residual.ensures.1 in
    let e = sym c.find.ensures.value ∙ c.in-Some.is in
    rw (p.1, p.2) (subst (λ (o : Option Extent). GivesWhatStands o (state c.args.dev.now).told (Err c.in_err-fetch_extent-in-Some.field-0.0)) (sym e)
    (whole-fault c.in-Some.extent (state c.args.dev.now) (state c.fetch_extent.new.dev) c.in_err-fetch_extent-in-Some.field-0.0 c.in_err-fetch_extent-in-Some.ensures.cause))

pub returns-in-None-clause-given : goal.returns-in-None-clause-given
returns-in-None-clause-given g c =
    let s = g.V.Device.state c.args.dev.now in
    let e = sym c.find.ensures.value ∙ c.in-None.is in
    subst (λ (o : Option Extent). IsFetched o s s None) (sym e) refl

pub returns-in-None-clause-whole : goal.returns-in-None-clause-whole
returns-in-None-clause-whole g c =
    let told = (g.V.Device.state c.args.dev.now).told in
    let e = sym c.find.ensures.value ∙ c.in-None.is in
    subst (λ (o : Option Extent). GivesWhatStands o told (Ok None)) (sym e) (λ bytes whole. absurd whole)
