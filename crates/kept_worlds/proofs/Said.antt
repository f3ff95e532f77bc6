-- What the entries of a node's events say in a beat, and which of it may come of the take of a message.
use Rattle.std.proofs.Common.{◌≡◌, ℕ, suc, List, [], ◌∷◌, ◌++◌, map, Bool, true, false, not, ◌&&◌, ◌||◌, None, refl, ap, ◌∙◌, cond, ⊎_elim, append-nil}
use Rattle.std.specs.Prelude.{◌==◌, is_some}
use Rattle.std.specs.List.{AllByRecursion}
use Rattle.std.proofs.lemmas.Bool.{cases_Bool}
use Rattle.std.proofs.lemmas.List.{map-append}
use Rattle.tiger_base.specs.declared.number.LinkNo.{LinkNo}
use Rattle.tiger_base.specs.declared.number.Stamp.{Stamp}
use Rattle.tiger_base.specs.declared.message.Note.{Note}
use Rattle.tiger_base.specs.declared.message.Note.TheVariants as kind
use Rattle.slot_plan.specs.declared.params.Params.{Params}
use Rattle.node_kit.specs.declared.journal.Entry.{Entry}
use Rattle.node_kit.specs.declared.journal.What.{What}
use Rattle.node_kit.specs.declared.journal.What.TheVariants as what
use Rattle.node_kit.specs.declared.outbox.Out.{Out}
use Rattle.node_kit.specs.declared.outbox.Out.TheVariants as out
use Rattle.node_kit.specs.Outputs.{is_death, ends_in_death, with_death, send_count}
use Rattle.node_kit.specs.Steps.{IsAllowed, IsOwnEntry, what_of, entry_of}
use Rattle.run_facts.specs.Timed.{is_died}
use Rattle.proof_turns.specs.Turns.{is_of_take}
use Rattle.kept_worlds.specs.Events.{said_in, is_sent, sends_said, behind_take, is_none, message_got, left_to_tick, tick_part, has_got}

-- ---- entries in lists

pub said-append : (b : ℕ) (xs ys : List Entry) → said_in b (xs ++ ys) ≡ said_in b xs ++ said_in b ys
said-append b [] ys = refl
said-append b (x ∷ xs) ys = ⊎_elim
    (λ (t : (x.stamp.beat == b && not (is_died x.what)) ≡ true). rw t (ap (λ ws. x.what ∷ ws) (said-append b xs ys)))
    (λ (t : (x.stamp.beat == b && not (is_died x.what)) ≡ false). rw t (said-append b xs ys))
    (cases_Bool (x.stamp.beat == b && not (is_died x.what)))

pub said-none : (b : ℕ) (xs : List Entry) → AllByRecursion (λ (e : Entry). (e.stamp.beat == b) ≡ false) xs → said_in b xs ≡ []
said-none b [] h = refl
said-none b (x ∷ xs) h = rw h.0 (said-none b xs h.1)

-- ---- entries of a node's own are neither a death nor a message got or sent

undied : (w : What) → IsOwnEntry w → is_died w ≡ false
undied what.Died h = absurd h
undied other h = refl

unsent : (w : What) → IsOwnEntry w → is_sent w ≡ false
unsent (what.Sent link message) h = absurd h
unsent other h = refl

ungot : (w : What) → IsOwnEntry w → message_got w ≡ None
ungot (what.Got link message) h = absurd h
ungot other h = refl

module _ {M : Type 0} (note : M → Note) (p : Params) (n : ℕ) where
  -- so it is of all that a node may put out
  pub none-got : (os : List (Out M)) → AllByRecursion (IsAllowed note p n) os
      → AllByRecursion (λ (w : What). message_got w ≡ None) (map (what_of note) os)
  none-got [] h = tt
  none-got (out.Send link msg ∷ os) h = (refl, none-got os h.1)
  none-got (out.Act w ∷ os) h = (ungot w h.0, none-got os h.1)

  pub sends-are : (os : List (Out M)) → AllByRecursion (IsAllowed note p n) os
      → sends_said (map (what_of note) os) ≡ send_count os
  sends-are [] h = refl
  sends-are (out.Send link msg ∷ os) h = ap suc (sends-are os h.1)
  sends-are (out.Act w ∷ os) h = rw (unsent w h.0) (sends-are os h.1)

  lives : (o : Out M) → IsAllowed note p n o → is_death o ≡ false
  lives (out.Send link msg) h = refl
  lives (out.Act what.Died) h = absurd h
  lives (out.Act other) h = refl

  no-death : (os : List (Out M)) → AllByRecursion (IsAllowed note p n) os → ends_in_death os ≡ false
  no-death [] h = refl
  no-death (o ∷ []) h = lives o h.0
  no-death (o ∷ q ∷ os) h = no-death (q ∷ os) h.1

  pub death-behind : (os : List (Out M)) → AllByRecursion (IsAllowed note p n) os
      → with_death os ≡ os ++ out.Act what.Died ∷ []
  death-behind os h = ap (λ b. cond b os (os ++ out.Act what.Died ∷ [])) (no-death os h)

  -- what outputs say in a beat
  pub said-outs : (b : ℕ) (stamp : Stamp) (os : List (Out M)) → (stamp.beat == b) ≡ true
      → AllByRecursion (IsAllowed note p n) os → said_in b (map (entry_of note stamp) os) ≡ map (what_of note) os
  said-outs b stamp [] hit h = refl
  said-outs b stamp (out.Send link msg ∷ os) hit h =
      rw hit (ap (λ ws. what.Sent link (note msg) ∷ ws) (said-outs b stamp os hit h.1))
  said-outs b stamp (out.Act w ∷ os) hit h = rw (hit, undied w h.0) (ap (λ ws. w ∷ ws) (said-outs b stamp os hit h.1))

  -- and with a death behind them
  pub said-cut : (b : ℕ) (stamp : Stamp) (os : List (Out M)) → (stamp.beat == b) ≡ true
      → AllByRecursion (IsAllowed note p n) os
      → said_in b (map (entry_of note stamp) (with_death os)) ≡ map (what_of note) os
  said-cut b stamp os hit h =
      ap (λ (q : List (Out M)). said_in b (map (entry_of note stamp) q)) (death-behind os h)
      ∙ ap (said_in b) (map-append (entry_of note stamp) os (out.Act what.Died ∷ []))
      ∙ said-append b (map (entry_of note stamp) os) ((record { stamp = stamp; what = what.Died }) ∷ [])
      ∙ ap (λ ws. ws ++ said_in b ((record { stamp = stamp; what = what.Died }) ∷ [])) (said-outs b stamp os hit h)
      ∙ (let none : said_in b ((record { stamp = stamp; what = what.Died }) ∷ []) ≡ [] = rw hit refl in
      ap (λ ws. map (what_of note) os ++ ws) none) ∙ append-nil (map (what_of note) os)

-- ---- what may come of a take

pub got-apart : (m : Note) (link : LinkNo) (message : Note) → is_of_take m (what.Got link message) ≡ false
got-apart (kind.Start redundant ask) link message = refl
got-apart other link message = refl

-- an entry that may not come of it stays
pub stays-behind : (m : Note) (xs : List What) (v : What) (vs : List What) → is_of_take m v ≡ false
    → is_none (behind_take m (xs ++ v ∷ vs)) ≡ false
stays-behind m [] v vs other = rw other refl
stays-behind m (x ∷ xs) v vs other = ⊎_elim
    (λ (t : is_of_take m x ≡ true). rw t (stays-behind m xs v vs other))
    (λ (t : is_of_take m x ≡ false). rw t refl)
    (cases_Bool (is_of_take m x))

pub take-gone : (m : Note) (xs vs : List What) → AllByRecursion (λ (w : What). is_of_take m w ≡ true) xs
    → behind_take m (xs ++ vs) ≡ behind_take m vs
take-gone m [] vs h = refl
take-gone m (x ∷ xs) vs h = rw h.0 (take-gone m xs vs h.1)

pub all-gone : (m : Note) (xs : List What) → AllByRecursion (λ (w : What). is_of_take m w ≡ true) xs
    → behind_take m xs ≡ []
all-gone m [] h = refl
all-gone m (x ∷ xs) h = rw h.0 (all-gone m xs h.1)

-- ---- what the tick said

pub no-gots : (ws : List What) → AllByRecursion (λ (w : What). message_got w ≡ None) ws → has_got ws ≡ false
no-gots [] h = refl
no-gots (w ∷ ws) h = rw h.0 (no-gots ws h.1)

or-true : (a b : Bool) → b ≡ true → (a || b) ≡ true
or-true true b h = refl
or-true false b h = h

pub some-got : (xs : List What) (link : LinkNo) (message : Note) (ws : List What)
    → has_got (xs ++ what.Got link message ∷ ws) ≡ true
some-got [] link message ws = refl
some-got (x ∷ xs) link message ws =
    or-true (is_some (message_got x)) (has_got (xs ++ what.Got link message ∷ ws)) (some-got xs link message ws)

pub tick-all : (kept ws : List What) → AllByRecursion (λ (w : What). message_got w ≡ None) ws → tick_part kept ws ≡ kept
tick-all kept [] h = refl
tick-all kept (w ∷ ws) h = ap (λ o. tick_part (left_to_tick kept o ws) ws) h.0 ∙ tick-all kept ws h.1

pub tick-behind : (kept xs : List What) (link : LinkNo) (message : Note) (ws : List What)
    → AllByRecursion (λ (w : What). message_got w ≡ None) ws
    → tick_part kept (xs ++ what.Got link message ∷ ws) ≡ behind_take message ws
tick-behind kept [] link message ws h = tick-all (behind_take message ws) ws h
tick-behind kept (x ∷ xs) link message ws h =
    tick-behind (left_to_tick kept (message_got x) (xs ++ what.Got link message ∷ ws)) xs link message ws h
