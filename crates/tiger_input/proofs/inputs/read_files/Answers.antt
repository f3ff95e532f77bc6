use Rattle.std.proofs.Common.{◌≡◌, ◌≤◌, ◌++◌, ◌∷◌, [], Some, length, length-append, sym, ap, ◌∙◌, arith}
use Rattle.std.specs.List.{slice_get}
use Rattle.std.proofs.lemmas.Result.{err_from_is_err_and}
use Rattle.std.proofs.lemmas.List.Sums.{sum_by_push}
use Rattle.tiger_base.specs.Library.{contents}
use Rattle.tiger_input.specs.Inputs.{names_of, most_after}
use Rattle.tiger_input.proofs.Readings.{FilesCause-next, AreRead-push, names_of-at, length-contents, contents-push}
use Rattle.tiger_input.proofs.inputs.read_files.Goals as goal

pub returns-in_err-bytes-clause-cause : goal.returns-in_err-bytes-clause-cause
returns-in_err-bytes-clause-cause g c =
    let p = err_from_is_err_and c.from_residual.result c.from_residual.ensures.1 in
    let state = g.F.Files.state in
    let lines = c.args.lines.now in
    let i = c.loop-line.line-index in
    let before = contents c.loop-line.read.items in
    let all = length-contents c.loop-line.read.items in
    let file : c.len.result ≡ i = omega (arith, c.loop-line.read.ok.0) in
    let at : slice_get (names_of lines) c.len.result ≡ Some c.as_str.result.now =
    ap (slice_get (names_of lines)) file ∙ names_of-at lines i c.line-item.result (omega arith) c.line-item.is ∙ ap Some (sym c.as_str.ensures) in
    let most : c.min-most.result ≡ most_after before = omega (arith, c.loop-line.invariant.left) in
    rw (p.1, p.2) (FilesCause-next c.in_err-bytes.field-0.0 (names_of lines) before c.as_str.result.now (state c.args.files.now) (state c.loop-line.files) (state c.read_one.new.files) (record { 0 = c.len.result }) c.min-most.result
    c.loop-line.invariant.same c.loop-line.invariant.read (omega arith) most at (omega arith) c.read_one.ensures.counted c.loop-line.invariant.never_fell.faults c.loop-line.invariant.never_fell.absences c.in_err-bytes.ensures.cause)

pub loop-line-preserved : goal.loop-line-preserved
loop-line-preserved g c =
    let lines = c.args.lines.now in
    let names = names_of lines in
    let i = c.loop-line.line-index in
    let before = contents c.loop-line.read.items in
    let bytes = c.in_ok-bytes.bytes.items in
    let pushed : contents c.push.new.self.items ≡ before ++ bytes ∷ [] = rw c.in_ok-push.ensures.items (contents-push c.loop-line.read.items c.in_ok-bytes.bytes) in
    let place : length before ≡ i = omega arith in
    let at : slice_get names (length before) ≡ Some c.as_str.result.now =
    ap (slice_get names) place ∙ names_of-at lines i c.line-item.result (omega arith) c.line-item.is ∙ ap Some (sym c.as_str.ensures) in
    let read = rw c.loop-line.invariant.same at c.in_ok-bytes.ensures.read in
    let limit = c.in_ok-bytes.ensures.limit in
    let within : length bytes ≤ most_after before = omega (arith, limit, c.loop-line.invariant.left) in
    record {
      count = rw pushed (omega (arith, length-append before (bytes ∷ [])));
      same = c.read_one.ensures.same ∙ c.loop-line.invariant.same;
      never_fell = record { calls = omega arith; faults = omega arith; absences = omega arith };
      calls = omega arith;
      read = rw pushed (AreRead-push (g.F.Files.state c.args.files.now).told names before c.as_str.result.now bytes c.loop-line.invariant.read at read within);
      left = rw (pushed, sum_by_push length before bytes) (omega (arith, c.in_ok-bytes.bytes.ok.0, limit));
    }
