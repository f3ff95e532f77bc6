use Rattle.std.proofs.Common.{◌≡◌, length, sym, ◌∙◌, arith}
use Rattle.std.proofs.lemmas.Result.{err_from_is_err_and}
use Rattle.tiger_base.specs.Library.{contents}
use Rattle.tiger_input.specs.Inputs.{names_of}
use Rattle.tiger_input.proofs.Readings.{empty_file, library_refused, position-contents, first_empty-None, length-names_of, length-contents}
use Rattle.tiger_input.proofs.inputs.read_library.Goals as goal

pub returns-in_err-read-clause-cause : goal.returns-in_err-read-clause-cause
returns-in_err-read-clause-cause g c =
    let p = err_from_is_err_and c.from_residual.result c.from_residual.ensures.1 in
    let state = g.F.Files.state in
    let cause = rw c.as_slice.ensures at c.in_err-read.ensures.cause in
    rw (p.1, p.2) (library_refused c.in_err-read.field-0.0 c.args.scenario.now.files (state c.args.files.now) (state c.read_files.new.files) cause)

pub returns-in-Some-clause-cause : goal.returns-in-Some-clause-cause
returns-in-Some-clause-cause g c =
    let lines = c.args.scenario.now.files in
    let read = c.in_ok-read.read.items in
    let state = g.F.Files.state in
    let are_read = rw c.as_slice.ensures at c.in_ok-read.ensures.read in
    let counted = rw c.as_slice.ensures at c.in_ok-read.ensures.counted in
    let lengths = rw c.as_slice.ensures at c.in_ok-read.ensures.all in
    let all : length (contents read) ≡ length (names_of lines) = omega (arith, length-contents read, length-names_of lines, c.in_ok-read.read.ok.0, lengths) in
    let empty = sym (position-contents read) ∙ sym (rw c.as_slice-2.ensures.value at c.first_empty.ensures) ∙ c.in-Some.is in
    rw c.broken.ensures (empty_file lines (contents read) _ (state c.args.files.now) (state c.read_files.new.files) counted (are_read, all) empty)

pub returns-in-None-clause-read : goal.returns-in-None-clause-read
returns-in-None-clause-read g c =
    let lines = c.args.scenario.now.files in
    let read = c.in_ok-read.read.items in
    let are_read = rw c.as_slice.ensures at c.in_ok-read.ensures.read in
    let lengths = rw c.as_slice.ensures at c.in_ok-read.ensures.all in
    let all : length (contents read) ≡ length (names_of lines) = omega (arith, length-contents read, length-names_of lines, c.in_ok-read.read.ok.0, lengths) in
    rw c.new.ensures (are_read, all)

pub returns-in-None-clause-full : goal.returns-in-None-clause-full
returns-in-None-clause-full g c =
    rw c.new.ensures (sym (position-contents c.in_ok-read.read.items) ∙ sym (rw c.as_slice-2.ensures.value at c.first_empty.ensures) ∙ c.in-None.is)

pub returns-in-None-clause-files : goal.returns-in-None-clause-files
returns-in-None-clause-files g c =
    let read = c.in_ok-read.read.items in
    let lengths = rw c.as_slice.ensures at c.in_ok-read.ensures.all in
    rw c.new.ensures (omega (arith, length-contents read, c.in_ok-read.read.ok.0, lengths))

pub returns-in-None-clause-short : goal.returns-in-None-clause-short
returns-in-None-clause-short g c = rw c.new.ensures c.in_ok-read.ensures.read.short

pub returns-in-None-clause-filled : goal.returns-in-None-clause-filled
returns-in-None-clause-filled g c =
    let read = c.in_ok-read.read.items in
    let full = sym (position-contents read) ∙ sym (rw c.as_slice-2.ensures.value at c.first_empty.ensures) ∙ c.in-None.is in
    rw c.new.ensures (first_empty-None (contents read) full)
