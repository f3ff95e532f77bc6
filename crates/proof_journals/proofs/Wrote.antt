-- What an event writes: the message that was taken, what went out, and the node's death, if that came then.
use Rattle.std.proofs.Common.{◌≡◌, List, [], ◌∷◌, ◌++◌, map, true, false, refl, sym, ap, subst, ◌∙◌, ⊎_elim, inl, inr, append-nil, ℕ}
use Rattle.std.specs.Prelude.{◌⊎◌}
use Rattle.std.specs.List.{AllByRecursion}
use Rattle.std.proofs.lemmas.List.{map-append}
use Rattle.tiger_base.specs.declared.number.Stamp.{Stamp}
use Rattle.tiger_base.specs.declared.message.Msg.{Msg}
use Rattle.tiger_base.specs.Notes.{noted}
use Rattle.slot_plan.specs.declared.params.Params.{Params}
use Rattle.node_kit.specs.declared.journal.Entry.{Entry}
use Rattle.node_kit.specs.declared.journal.What.{What}
use Rattle.node_kit.specs.declared.journal.What.TheVariants as what
use Rattle.node_kit.specs.declared.outbox.Out.{Out}
use Rattle.node_kit.specs.declared.outbox.Out.TheVariants as out
use Rattle.node_kit.specs.Outputs as outputs
use Rattle.node_kit.specs.Outputs.{ends_in_death, with_death}
use Rattle.node_kit.specs.Steps.{Deed, Input, IsAllowed, IsOwnEntry, entry_of, stamp_of}
use Rattle.node_kit.specs.Steps.Input.{Take, Tick}
use Rattle.run_facts.specs.Events.{NodeEvent, Past, kept_outs, left_outs, outs_of, stamp_at, is_death, entries_at}
use Rattle.run_facts.specs.Events.NodeEvent.{Does, Ends, Dies, Returns}
use Rattle.run_facts.specs.Timed.{is_died}
use Rattle.run_facts.proofs.Journals.{is_got}
use Rattle.lists.specs.Elements.{In}
use Rattle.lists.proofs.Elements.{in_right, in_cases}
use Rattle.proof_lives.specs.Histories.{input_of}
use Rattle.proof_journals.proofs.Lists.{moved}

-- what an event writes before its outputs: the message that was taken
abbrev pub got_at : Input Msg → List Entry
got_at (Take stamp link m) = (record { stamp = stamp; what = what.Got link (noted m) }) ∷ []
got_at (Tick stamp) = []

abbrev pub got_in : NodeEvent Msg → List Entry
got_in ev = got_at (input_of ev)

-- what it writes behind them: the death that came
abbrev pub died_entry : Stamp → Entry
died_entry stamp = record { stamp = stamp; what = what.Died }

abbrev pub died_in : NodeEvent Msg → List Entry
died_in (Does i) = []
died_in (Ends i sends) = died_entry (stamp_of i) ∷ []
died_in (Dies stamp) = died_entry stamp ∷ []
died_in (Returns stamp) = []

-- what a node may put out tells of no death
out_lives : (p : Params) (n : ℕ) (o : Out Msg) → IsAllowed noted p n o → outputs.is_death o ≡ false
out_lives p n (out.Send link m) fair = refl
out_lives p n (out.Act what.Died) fair = absurd fair
out_lives p n (out.Act other) fair = refl

no_death_last : (p : Params) (n : ℕ) (os : List (Out Msg)) → AllByRecursion (IsAllowed noted p n) os → ends_in_death os ≡ false
no_death_last p n [] fair = refl
no_death_last p n (o ∷ []) fair = out_lives p n o fair.0
no_death_last p n (o ∷ x ∷ os) fair = no_death_last p n (x ∷ os) fair.1

death_behind : (p : Params) (n : ℕ) (stamp : Stamp) (os : List (Out Msg)) → AllByRecursion (IsAllowed noted p n) os
    → map (entry_of noted stamp) (with_death os) ≡ map (entry_of noted stamp) os ++ died_entry stamp ∷ []
death_behind p n stamp os fair =
    rw (no_death_last p n os fair) (map-append (entry_of noted stamp) os (out.Act what.Died ∷ []))

module _ {S : Type 0} (step : S → Input Msg → Deed Msg S) where
  -- the entries of what goes out in an event
  abbrev pub sent_in : NodeEvent Msg → Past S → List Entry
  sent_in ev before = map (entry_of noted (stamp_at ev)) (outs_of step ev before)

  pub entries_are : (p : Params) (n : ℕ) (ev : NodeEvent Msg) (before : Past S)
      → AllByRecursion (IsAllowed noted p n) (outs_of step ev before)
      → entries_at noted step ev before ≡ got_in ev ++ (sent_in ev before ++ died_in ev)
  entries_are p n (Does (Take stamp link m)) before fair =
      ap (λ (es : List Entry). (record { stamp = stamp; what = what.Got link (noted m) }) ∷ es)
      (sym (append-nil (map (entry_of noted stamp) (kept_outs step (Take stamp link m) before))))
  entries_are p n (Does (Tick stamp)) before fair =
      sym (append-nil (map (entry_of noted stamp) (kept_outs step (Tick stamp) before)))
  entries_are p n (Ends (Take stamp link m) sends) before fair =
      ap (λ (es : List Entry). (record { stamp = stamp; what = what.Got link (noted m) }) ∷ es)
      (death_behind p n stamp (left_outs step (Take stamp link m) sends before) fair)
  entries_are p n (Ends (Tick stamp) sends) before fair =
      death_behind p n stamp (left_outs step (Tick stamp) sends before) fair
  entries_are p n (Dies stamp) before fair = refl
  entries_are p n (Returns stamp) before fair = refl

-- what is written of a message that was taken
pub got_is : (i : Input Msg) (e : Entry) → In e (got_at i) → is_got e.what ≡ true
got_is (Take stamp link m) e k = ⊎_elim (λ q. ap (λ (x : Entry). is_got x.what) q) (λ q. absurd q) k
got_is (Tick stamp) e k = absurd k

pub got_no_death : (i : Input Msg) (e : Entry) → In e (got_at i) → is_died e.what ≡ false
got_no_death (Take stamp link m) e k = ⊎_elim (λ q. ap (λ (x : Entry). is_died x.what) q) (λ q. absurd q) k
got_no_death (Tick stamp) e k = absurd k

-- and of a death
pub died_is : (ev : NodeEvent Msg) (e : Entry) → In e (died_in ev) → (e ≡ died_entry (stamp_at ev)) × (is_death ev ≡ true)
died_is (Does i) e k = absurd k
died_is (Ends i sends) e k = ⊎_elim (λ q. (q, refl)) (λ q. absurd q) k
died_is (Dies stamp) e k = ⊎_elim (λ q. (q, refl)) (λ q. absurd q) k
died_is (Returns stamp) e k = absurd k

pub death_is : (ev : NodeEvent Msg) → is_death ev ≡ true → died_in ev ≡ died_entry (stamp_at ev) ∷ []
death_is (Does i) t = absurd (cc)
death_is (Ends i sends) t = refl
death_is (Dies stamp) t = refl
death_is (Returns stamp) t = absurd (cc)

-- a death is no entry of a node's own, and no message that was got
pub died_not_own : (ev : NodeEvent Msg) (e : Entry) (w : What) → In e (died_in ev) → e.what ≡ w → IsOwnEntry w → ⊥
died_not_own ev e w k is own =
    let d = (died_is ev e k).0 in
    let z : IsOwnEntry what.Died = subst IsOwnEntry (sym is ∙ ap (λ (x : Entry). x.what) d) own in z

pub died_not_got : (ev : NodeEvent Msg) (e : Entry) → In e (died_in ev) → is_got e.what ≡ false
died_not_got ev e k = ap (λ (x : Entry). is_got x.what) (died_is ev e k).0

pub got_not_own : (i : Input Msg) (e : Entry) (w : What) → In e (got_at i) → e.what ≡ w → IsOwnEntry w → ⊥
got_not_own (Take stamp link m) e w k is own = ⊎_elim
    (λ q. subst IsOwnEntry (sym is ∙ ap (λ (x : Entry). x.what) q) own)
    (λ q. q)
    k
got_not_own (Tick stamp) e w k is own = k

-- of which of the three an entry is
abbrev pub IsOneOf : {S : Type 0} → (S → Input Msg → Deed Msg S) → NodeEvent Msg → Past S → Entry → Type 0
IsOneOf step ev before e = In e (got_in ev) ⊎ (In e (sent_in step ev before) ⊎ In e (died_in ev))

pub one_of : {S : Type 0} (step : S → Input Msg → Deed Msg S) (p : Params) (n : ℕ) (ev : NodeEvent Msg) (before : Past S) (e : Entry)
    → AllByRecursion (IsAllowed noted p n) (outs_of step ev before) → In e (entries_at noted step ev before)
    → IsOneOf step ev before e
one_of step p n ev before e fair i = ⊎_elim
    (λ k. inl k)
    (λ k. inr (in_cases e (sent_in step ev before) (died_in ev) k))
    (in_cases e (got_in ev) (sent_in step ev before ++ died_in ev) (moved e (entries_are step p n ev before fair) i))

-- a death is written
pub death_written : {S : Type 0} (step : S → Input Msg → Deed Msg S) (p : Params) (n : ℕ) (ev : NodeEvent Msg) (before : Past S)
    → AllByRecursion (IsAllowed noted p n) (outs_of step ev before) → is_death ev ≡ true
    → In (died_entry (stamp_at ev)) (entries_at noted step ev before)
death_written step p n ev before fair t =
    let e : Entry = died_entry (stamp_at ev) in
    let there : In e (died_in ev) = moved e (sym (death_is ev t)) (inl refl) in
    moved e (sym (entries_are step p n ev before fair))
    (in_right e (got_in ev) _ (in_right e (sent_in step ev before) (died_in ev) there))
