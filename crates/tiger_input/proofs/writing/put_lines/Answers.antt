use Rattle.std.proofs.Common.{◌∙◌, take, drop, arith}
use Rattle.std.proofs.Math.Seq.{take-add}
use Rattle.std.proofs.lemmas.Result.{err_from_is_err_and}
use Rattle.tiger_input.proofs.Puts.{Appended-more, TextCause-at, TextCause-faults, part-within, part-is, length-part, around-part}
use Rattle.tiger_input.proofs.writing.put_lines.Goals as goal

pub returns-in_err-put-clause-cause : goal.returns-in_err-put-clause-cause
returns-in_err-put-clause-cause g c =
    let p = err_from_is_err_and c.from_residual.result c.from_residual.ensures.1 in
    let text = c.args.text.now in
    let done = c.loop-done.done in
    let n = c.put_len.result in
    let part = part-is text done n (part-within text done n c.put_len.ensures.within) in
    let state = g.K.Sink.state in
    rw (p.1, p.2) (TextCause-at c.in_err-put.field-0.0 (state c.args.out.now) (state c.loop-done.out) (state c.put.new.self)
    (take done text) (take n (drop done text)) (drop n (drop done text)) text (around-part text done n) c.loop-done.invariant.written c.loop-done.invariant.no_fault (rw part at c.in_err-put.ensures.cause))

pub returns-in_err-put-clause-one_fault : goal.returns-in_err-put-clause-one_fault
returns-in_err-put-clause-one_fault g c =
    let text = c.args.text.now in
    let done = c.loop-done.done in
    let n = c.put_len.result in
    let part = part-is text done n (part-within text done n c.put_len.ensures.within) in
    let state = g.K.Sink.state in
    TextCause-faults c.in_err-put.field-0.0 (state c.args.out.now) (state c.put.new.self) text (TextCause-at c.in_err-put.field-0.0 (state c.args.out.now) (state c.loop-done.out) (state c.put.new.self)
    (take done text) (take n (drop done text)) (drop n (drop done text)) text (around-part text done n) c.loop-done.invariant.written c.loop-done.invariant.no_fault (rw part at c.in_err-put.ensures.cause))

pub loop-done-preserved : goal.loop-done-preserved
loop-done-preserved g c =
    let text = c.args.text.now in
    let done = c.loop-done.done in
    let n = c.put_len.result in
    let within = part-within text done n c.put_len.ensures.within in
    let part = part-is text done n within in
    let len = length-part text done n within in
    let state = g.K.Sink.state in
    record {
      within = rw (part, len) (omega arith);
      written = rw (part, len, take-add done n text) (Appended-more (state c.args.out.now).written (state c.loop-done.out).written (state c.put.new.self).written (take done text) (take n (drop done text)) c.loop-done.invariant.written (rw part at c.in_ok-put.ensures.appended));
      no_fault = c.in_ok-put.ensures.no_fault ∙ c.loop-done.invariant.no_fault;
    }
