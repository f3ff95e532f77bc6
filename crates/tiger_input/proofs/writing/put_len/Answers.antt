use Rattle.std.proofs.Common.{arith}
use Rattle.std.proofs.lemmas.List.{length-take}
use Rattle.tiger_input.proofs.writing.put_len.Goals as goal

pub slice_bounds-last_feed-end : goal.slice_bounds-last_feed-end
slice_bounds-last_feed-end c = omega (arith, length-take 65536 c.args.text.now, c.if-text-le-MOST_PUT.false)

pub overflow_add-result : goal.overflow_add-result
overflow_add-result c = omega (arith, length-take 65536 c.args.text.now, c.in-Some.ensures.within)

pub returns-in-Some-clause-within : goal.returns-in-Some-clause-within
returns-in-Some-clause-within c = omega (arith, length-take 65536 c.args.text.now, c.in-Some.ensures.within)
