use Rattle.std.proofs.Common.{rules}
use Rattle.ring_links.proofs.Words.{begins, splits}
use Rattle.ring_links.proofs.Kept.{sender-opens, receiver-opens}
use Rattle.ring_links.proofs.opening.Way.open.Goals as goal

pub of_words-requires : goal.of_words-requires
of_words-requires g c = begins

pub split_seat-other_seat-requires : goal.split_seat-other_seat-requires
split_seat-other_seat-requires g c = (search rules, search rules, splits _ _)

pub invariant_of-out : goal.invariant_of-out
invariant_of-out g c = (search rules, search rules, search rules, sender-opens _ _ (search rules) (search rules))

pub invariant_of-into : goal.invariant_of-into
invariant_of-into g c = (search rules, search rules, search rules, search rules, receiver-opens _ _ (search rules) (search rules))
