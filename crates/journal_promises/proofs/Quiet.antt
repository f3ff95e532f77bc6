-- What tells of no return: outputs of a cub that goes on, the entries that are written of them, and journals of such entries.
use Rattle.std.proofs.Common.{◌≡◌, ℕ, ◌≤◌, List, [], ◌∷◌, ◌++◌, map, Bool, true, false, Option, Some, None, refl, sym, ap, ◌∙◌, subst, append-nil}
use Rattle.std.specs.Prelude.{nat_lt}
use Rattle.std.specs.List.{AllByRecursion, fold}
use Rattle.std.proofs.lemmas.Bool.{false≢true, le-ltb}
use Rattle.tiger_base.specs.declared.number.Stamp.{Stamp}
use Rattle.tiger_base.specs.declared.message.Msg.{Msg}
use Rattle.tiger_base.specs.Notes.{noted}
use Rattle.slot_plan.specs.declared.params.Params.{Params}
use Rattle.node_kit.specs.declared.journal.Entry.{Entry}
use Rattle.node_kit.specs.declared.journal.What.{What}
use Rattle.node_kit.specs.declared.journal.What.TheVariants as what
use Rattle.node_kit.specs.declared.outbox.Out.{Out}
use Rattle.node_kit.specs.declared.outbox.Out.TheVariants as out
use Rattle.node_kit.specs.Steps.{Input, IsAllowed, IsOwnEntry, entry_of}
use Rattle.node_kit.specs.Steps.Input.{Take, Tick}
use Rattle.cub_rules.specs.declared.store.Store.{Store}
use Rattle.cub_rules.specs.Cubs.{deed_of}
use Rattle.cub_changes.specs.Changes.{Change, did}
use Rattle.cub_changes.specs.Outputs.{Output, output, ComesOf}
use Rattle.cub_changes.specs.Outputs.Output.{Believed}
use Rattle.cub_changes.proofs.Messages.{taking_by}
use Rattle.cub_changes.proofs.Outputs.{forms_of, Puts, puts_closed}
use Rattle.cub_changes.proofs.Ticks.{ticking_by}
use Rattle.run_facts.specs.Timed.{is_died, is_returned, death_within, AreReturned}
use Rattle.run_model.specs.Runs.{ends_dead, TellsReturn}

-- ---- outputs

-- an output tells of no return
abbrev pub IsQuietOut : Out Msg → Type 0
IsQuietOut (out.Act what.Returned) = ⊥
IsQuietOut other = Unit {0}

abbrev pub AreQuietOuts : List (Out Msg) → Type 0
AreQuietOuts outs = AllByRecursion IsQuietOut outs

-- by its rules a cub tells of none
module _ (p : Params) (c : ℕ) where
  change_quiet : (stamp : Stamp) (x : Change) (h : Store) → Puts p c stamp IsQuietOut h (did p c stamp x h)
  change_quiet stamp x h = forms_of p c stamp IsQuietOut x h form
    where
      form : (o : Output) → ComesOf p c stamp x h o → IsQuietOut (output p c stamp o)
      form Believed comes = tt
      form other comes = tt

  pub deed_quiet : (i : Input Msg) (h : Store) → AreQuietOuts (deed_of p c i h).outs
  deed_quiet (Take stamp link m) h =
      taking_by (Puts p c stamp IsQuietOut) (puts_closed p c stamp IsQuietOut) p c stamp link m h
      (λ x q cause. change_quiet stamp x q)
  deed_quiet (Tick stamp) h =
      ticking_by (Puts p c stamp IsQuietOut) (puts_closed p c stamp IsQuietOut) p c stamp h
      (λ g from t x q cause. change_quiet stamp x q)

-- ---- entries

-- an entry is neither a death nor a return
abbrev pub IsQuiet : Entry → Type 0
IsQuiet e = (is_died e.what ≡ false) × (is_returned e.what ≡ false)

abbrev pub AreQuiet : List Entry → Type 0
AreQuiet journal = AllByRecursion IsQuiet journal

own_quiet : (stamp : Stamp) (w : What) → IsOwnEntry w → IsQuietOut (out.Act w) → IsQuiet (record { stamp = stamp; what = w })
own_quiet stamp what.Died allowed quiet = absurd allowed
own_quiet stamp what.Returned allowed quiet = absurd quiet
own_quiet stamp other allowed quiet = (refl, refl)

-- so are those of such outputs
pub outs_quiet : (p : Params) (n : ℕ) (stamp : Stamp) (os : List (Out Msg)) → AllByRecursion (IsAllowed noted p n) os → AreQuietOuts os
    → AreQuiet (map (entry_of noted stamp) os)
outs_quiet p n stamp [] allowed quiet = tt
outs_quiet p n stamp (out.Send link m ∷ os) allowed quiet = ((refl, refl), outs_quiet p n stamp os allowed.1 quiet.1)
outs_quiet p n stamp (out.Act w ∷ os) allowed quiet = (own_quiet stamp w allowed.0 quiet.0, outs_quiet p n stamp os allowed.1 quiet.1)

-- ---- journals

quiet_before : (back : Option ℕ) (es rest : List Entry) → AreQuiet es → AreReturned back false rest → AreReturned back false (es ++ rest)
quiet_before back [] rest quiet more = more
quiet_before back (e ∷ es) rest quiet more = (
  quiet.0.1,
  (λ t. absurd (false≢true t)),
  subst (λ (b : Bool). AreReturned back b (es ++ rest)) (sym quiet.0.0) (quiet_before back es rest quiet.1 more),
)

ends_behind : (es rest : List Entry) → AreQuiet es → ends_dead (es ++ rest) ≡ ends_dead rest
ends_behind [] rest quiet = refl
ends_behind (e ∷ es) rest quiet =
    ap (λ (b : Bool). fold (λ died (x : Entry). is_died x.what) b (es ++ rest)) quiet.0.0 ∙ ends_behind es rest quiet.1

quiet_returned : (back : Option ℕ) (es : List Entry) → AreQuiet es → AreReturned back false es
quiet_returned back es quiet = subst (AreReturned back false) (append-nil es) (quiet_before back es [] quiet tt)

quiet_ends : (es : List Entry) → AreQuiet es → ends_dead es ≡ false
quiet_ends es quiet = sym (ap ends_dead (append-nil es)) ∙ ends_behind es [] quiet

-- a run does not come to a return that is in none of its beats
pub none_within : (beats : ℕ) (back : Option ℕ) → ((w : ℕ) → back ≡ Some w → beats ≤ w) → death_within beats back ≡ None
none_within beats None late = refl
none_within beats (Some w) late = let e : nat_lt w beats ≡ false = le-ltb w beats (late w refl) in rw e refl

module _ (beats : ℕ) (back : Option ℕ) where
  -- a journal without a death
  pub tells_none : (es : List Entry) → AreQuiet es → TellsReturn beats back es
  tells_none es quiet = record {
    behind = quiet_returned back es quiet;
    comes = λ t. let z : false ≡ true = sym (quiet_ends es quiet) ∙ t in absurd (false≢true z);
  }

  -- one that ends with it
  pub tells_death : (es : List Entry) (e : Entry) → AreQuiet es → e.what ≡ what.Died → death_within beats back ≡ None
      → TellsReturn beats back (es ++ e ∷ [])
  tells_death es e quiet is none = record {
    behind = quiet_before back es (e ∷ []) quiet (ap is_returned is, (λ t. absurd (false≢true t)), tt);
    comes = λ t. none;
  }

  -- and one that goes on with a return
  pub tells_return : (es : List Entry) (e r : Entry) (later : List Entry) → AreQuiet es → e.what ≡ what.Died → r.what ≡ what.Returned
      → back ≡ Some r.stamp.beat → AreQuiet later → TellsReturn beats back (es ++ e ∷ r ∷ later)
  tells_return es e r later quiet died returned in_beat behind =
      let alive : is_died r.what ≡ false = ap is_died returned in
      record {
        behind = quiet_before back es (e ∷ r ∷ later) quiet (
          ap is_returned is,
          (λ t. absurd (false≢true t)),
          (ap is_returned returned ∙ sym (ap is_died died), (λ t. in_beat), subst (λ (b : Bool). AreReturned back b later) (sym alive) (quiet_returned back later behind)),
        );
        comes = λ t.
            let z = sym (ends_behind es (e ∷ r ∷ later) quiet
            ∙ ap (λ (b : Bool). fold (λ died (x : Entry). is_died x.what) b later) alive ∙ quiet_ends later behind) ∙ t in
            absurd (false≢true z);
      }
    where
      is : e.what ≡ what.Died
      is = died
