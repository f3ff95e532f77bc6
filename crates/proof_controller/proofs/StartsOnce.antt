-- Starts stand once among what a controller sends: within a beat, and over all beats.
use Rattle.std.proofs.Common.{◌≡◌, ℕ, ◌+◌, List, [], ◌++◌, length, arith, ⊎_elim, inl, inr}
use Rattle.std.specs.Prelude.{◌⊎◌}
use Rattle.std.proofs.lemmas.Option.{none-some}
use Rattle.tiger_base.specs.declared.message.Msg.{Msg}
use Rattle.tiger_base.specs.declared.message.Msg.TheVariants as msg
use Rattle.run_facts.specs.Events.{Dated}
use Rattle.proof_controller.specs.Orders.{StartAt, IsOnce}
use Rattle.run_facts.proofs.Counts.{get-append}

pub none_in_nothing : (k v : ℕ) → StartAt [] k v → ⊥
none_in_nothing k v s = none-some (record { beat = s.beat; item = msg.Start s.redundant s.ask }) s.at

pub once_nothing : IsOnce []
once_nothing v j k s t = absurd (none_in_nothing j v s)

pub start_parts : (xs ys : List (Dated Msg)) (k v : ℕ) → StartAt (xs ++ ys) k v → StartAt xs k v ⊎ ((m : ℕ) × (k ≡ length xs + m) × StartAt ys m v)
start_parts xs ys k v s = ⊎_elim
    (λ q. inl (record { beat = s.beat; ask = s.ask; redundant = s.redundant; at = q; same = s.same }))
    (λ q. inr (q.0, q.1, record { beat = s.beat; ask = s.ask; redundant = s.redundant; at = q.2; same = s.same }))
    (get-append xs ys k (record { beat = s.beat; item = msg.Start s.redundant s.ask }) s.at)

-- two lists in which each stands once, and none in both
pub once_both : (xs ys : List (Dated Msg)) → IsOnce xs → IsOnce ys → ((v j k : ℕ) → StartAt xs j v → StartAt ys k v → ⊥) → IsOnce (xs ++ ys)
once_both xs ys one two apart v j k s t = ⊎_elim
    (λ a. ⊎_elim (λ b. one v j k a b) (λ b. absurd (apart v j b.0 a b.2)) (start_parts xs ys k v t))
    (λ a. ⊎_elim
    (λ b. absurd (apart v k a.0 b a.2))
    (λ b. let e = two v a.0 b.0 a.2 b.2 in let q = a.1 in let r = b.1 in omega arith)
    (start_parts xs ys k v t))
    (start_parts xs ys j v s)
