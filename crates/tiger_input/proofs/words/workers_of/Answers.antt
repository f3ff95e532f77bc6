use Rattle.std.proofs.Common.{◌≡◌, ◌<◌, ◌^◌, sym, ◌∙◌, arith}
use Rattle.std.proofs.lemmas.Fmt.{decimal_injective}
use Rattle.tiger_input.proofs.words.workers_of.Goals as goal
use Rattle.tiger_input.proofs.words.workers_of.Goals.{else-number-ge1-via-then-number-ge1+else-number-le64, else-number-ge1-via-else-number-ge1}

pub returns-else-number-ge1 : goal.returns-else-number-ge1
returns-else-number-ge1 c = λ n low high is.
    let number = c.in_ok-number.number in
    let fits : number < 2 ^ 64 = omega arith in
    let same : number ≡ n = decimal_injective number n fits (omega arith) (sym c.in_ok-number.ensures ∙ is) in
    elim c.else-number-ge1.branch [ else-number-ge1-via-then-number-ge1+else-number-le64 w ↦ absurd (omega arith) | else-number-ge1-via-else-number-ge1 w ↦ absurd (omega arith) ]
