-- Outputs with a last one that says Died, and what a death leaves of outputs.
use Rattle.std.specs.Prelude.{ℕ, suc, ◌-◌, ◌==◌, Bool, true, false, ◌&&◌, ◌||◌, List, [], ◌∷◌, ◌++◌, if◌then◌else◌}
use Rattle.tiger_base.specs.Kinds.{is_own}
use Rattle.node_kit.specs.declared.journal.What.TheVariants.{Died, Put, Took}
use Rattle.node_kit.specs.declared.outbox.Out.{Out}
use Rattle.node_kit.specs.declared.outbox.Out.TheVariants.{Act, Send}

-- the outputs, and behind them Died where its place is taken
abbrev pub outputs : {M : Type 0} → List (Out M) → Bool → List (Out M)
outputs outs died = if died then outs ++ Act Died ∷ [] else outs

abbrev pub is_empty : {M : Type 0} → List (Out M) → Bool
is_empty [] = true
is_empty (o ∷ os) = false

abbrev pub is_death : {M : Type 0} → Out M → Bool
is_death (Act Died) = true
is_death other = false

-- whether the last output says Died
abbrev pub ends_in_death : {M : Type 0} → List (Out M) → Bool
ends_in_death [] = false
ends_in_death (o ∷ []) = is_death o
ends_in_death (o ∷ os) = ends_in_death os

abbrev pub with_death : {M : Type 0} → List (Out M) → List (Out M)
with_death outs = if ends_in_death outs then outs else outs ++ Act Died ∷ []

-- whether an output is a message, a start that is put into a slot, or an own record that is taken
abbrev pub is_send : {M : Type 0} → Out M → Bool
is_send (Send link msg) = true
is_send (Act what) = false

abbrev pub is_put : {M : Type 0} → Out M → Bool
is_put (Act (Put tenancy)) = true
is_put other = false

abbrev pub is_took_own : {M : Type 0} → Out M → Bool
is_took_own (Act (Took r)) = is_own r.kind
is_took_own other = false

-- how many of the outputs are messages
abbrev pub send_count : {M : Type 0} → List (Out M) → ℕ
send_count [] = 0
send_count (o ∷ os) = if is_send o then suc (send_count os) else send_count os

abbrev pub begins_send : {M : Type 0} → List (Out M) → Bool
begins_send [] = false
begins_send (o ∷ os) = is_send o

-- whether an own record that is taken comes first, and a message next
abbrev pub begins_taking : {M : Type 0} → List (Out M) → Bool
begins_taking [] = false
begins_taking (o ∷ os) = is_took_own o && begins_send os

-- whether a message is lost with the first output: that is the message, or it is the Put of an insertion whose state
-- is the message, and a Put and its Took are lost with their state
abbrev pub begins_lost : {M : Type 0} → List (Out M) → Bool
begins_lost [] = false
begins_lost (o ∷ os) = is_send o || (is_put o && begins_taking os)

abbrev pub fewer_behind : {M : Type 0} → ℕ → Out M → ℕ
fewer_behind k o = if is_send o then k - 1 else k

-- what is left of outputs of which k messages go out: all that stands before the next message, and before its insertion
abbrev pub cut_at : {M : Type 0} → ℕ → List (Out M) → List (Out M)
cut_at k [] = []
cut_at k (o ∷ os) = if k == 0 && begins_lost (o ∷ os) then [] else o ∷ cut_at (fewer_behind k o) os
