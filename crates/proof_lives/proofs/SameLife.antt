-- Two inputs of one life are of one life by the facts too, and what the facts say of returns holds of what a cub keeps.
use Rattle.std.proofs.Common.{◌≡◌, ℕ, ◌+◌, ◌*◌, ◌<◌, ◌≤◌, true, Option, Some, None, refl, sym, ap, subst, ◌∙◌, arith, ⊎_elim}
use Rattle.std.proofs.lemmas.Bool.{cases_lt, leb-true, le-leb}
use Rattle.tiger_base.specs.declared.tenancy.Tenancy.{Tenancy}
use Rattle.tiger_base.specs.declared.message.Msg.{Msg}
use Rattle.slot_plan.specs.declared.params.Params.{Params}
use Rattle.slot_plan.specs.Times.{time_of}
use Rattle.node_kit.specs.declared.journal.What.TheVariants as what
use Rattle.node_kit.specs.declared.outbox.Out.TheVariants as out
use Rattle.node_kit.specs.Steps.{Input}
use Rattle.cub_rules.specs.declared.comeback.Comeback.{Comeback}
use Rattle.cub_rules.specs.Comebacks.{comeback_at, lets_in}
use Rattle.proof_schedule.specs.Facts.{Facts, IsFirstLife, IsSameLife, IsOpenTo, enters_from}
use Rattle.proof_lives.specs.Lives.{Lives, AreLives, BeganLate, store_at, beat_at, reading_at}
use Rattle.proof_lives.specs.FactsBy.{Beyond, facts_by}
use Rattle.proof_lives.specs.Facts.{DidAt}
use Rattle.cub_changes.proofs.Coming.{keep_comeback}
use Rattle.proof_lives.proofs.Cuts.{was_put_out}
use Rattle.proof_lives.proofs.FirstLife.{first_life, later_life, first_or_later}
use Rattle.proof_lives.proofs.Fitting.{Fits}
use Rattle.proof_lives.proofs.Order.{beats_rise}

module _ (p : Params) (lives : Lives) (beyond : Beyond) (are : AreLives p lives) (fits : Fits p lives beyond) where
  abbrev pub R : Facts
  R = facts_by p lives beyond

  -- Beats of two inputs of a life are of one life.
  pub same_life : (c i j : ℕ) → c < p.cubs → i < lives.count c → j < lives.count c
      → IsSameLife R c (beat_at (lives.input c) i) (beat_at (lives.input c) j)
  same_life c i j small low high w back le =
      let rise = beats_rise p (lives.count c) (lives.input c) (are c small) 0 i (omega arith) low in
      ⊎_elim (λ (l : beat_at (lives.input c) j < w). absurd (omega arith)) (λ b. let e = b.in_beat in omega arith) (fits.apart c j w small high back)

  -- A life that began late began with a return.
  pub returned : (c : ℕ) → c < p.cubs → 0 < lives.count c → 0 < beat_at (lives.input c) 0 → R.Returned c (beat_at (lives.input c) 0)
  returned c small some late = fits.began c _ (record { small = small; done = some; in_beat = refl; later = late })

  -- If the facts say of an input that it is of a first life, its life began in beat 0.
  pub begins_first : (c i : ℕ) → c < p.cubs → i < lives.count c → IsFirstLife R c (beat_at (lives.input c) i) → beat_at (lives.input c) 0 ≡ 0
  begins_first c i small low first =
      let rise = beats_rise p (lives.count c) (lives.input c) (are c small) 0 i (omega arith) low in
      ⊎_elim
      (λ (l : 0 < beat_at (lives.input c) 0). let f = first _ (returned c small (omega arith) l) in absurd (omega arith))
      (λ g. omega arith)
      (cases_lt 0 (beat_at (lives.input c) 0))

  -- So it has come back from nowhere.
  pub not_back : (c i k : ℕ) → c < p.cubs → i < lives.count c → IsFirstLife R c (beat_at (lives.input c) i)
      → (store_at p c (lives.input c) k).comeback ≡ None
  not_back c i k small low first = first_life p c (lives.input c) k (begins_first c i small low first)

  -- By an input of the life a cub came back in it, or not at all.
  pub back_in_life : (c i w : ℕ) → c < p.cubs → i < lives.count c → R.Returned c w → w ≤ beat_at (lives.input c) i
      → BeganLate p lives c w
  back_in_life c i w small low back le =
      ⊎_elim (λ (l : beat_at (lives.input c) i < w). absurd (omega arith)) (λ b. b) (fits.apart c i w small low back)

  -- What the facts say a cub is open to, it lets in along its life.
  pub lets_in_open : (c i k at : ℕ) → c < p.cubs → i < lives.count c → IsOpenTo p R c at (beat_at (lives.input c) i)
      → lets_in (store_at p c (lives.input c) k).comeback at ≡ true
  lets_in_open c i k at small low opens =
      let inputs : ℕ → Input Msg = lives.input c in
      let rise = beats_rise p (lives.count c) inputs (are c small) 0 i (omega arith) low in
      let reads = ((are c small).reads 0 (omega arith)).1 in
      ⊎_elim
      (λ (e : beat_at inputs 0 ≡ 0). ap (λ (o : Option Comeback). lets_in o at) (first_life p c inputs k e))
      (λ (late : 0 < beat_at inputs 0).
      let from = opens (beat_at inputs 0) (returned c small (omega arith) late) rise in
      ap (λ (o : Option Comeback). lets_in o at) (later_life p c inputs k late)
      ∙ le-leb (reading_at inputs 0 + p.max_lead + 3 * p.play + p.skew) at (omega arith))
      (first_or_later inputs)

  -- And what a cub lets in after a return is late enough after it.
  pub let_in_late : (c i k at w : ℕ) → c < p.cubs → i < lives.count c → lets_in (store_at p c (lives.input c) k).comeback at ≡ true
      → R.Returned c w → w ≤ beat_at (lives.input c) i → enters_from p (time_of p w) ≤ at
  let_in_late c i k at w small low lets back le =
      let inputs : ℕ → Input Msg = lives.input c in
      let b = back_in_life c i w small low back le in
      let late = b.later in
      let ew = b.in_beat in
      let reads = ((are c small).reads 0 b.done).0 in
      let tm : time_of p (beat_at inputs 0) ≡ time_of p w = ap (λ n. time_of p n) ew in
      let enters : (reading_at inputs 0 + p.max_lead + 3 * p.play + p.skew) ≤ at =
      leb-true _ _ (ap (λ (o : Option Comeback). lets_in o at) (sym (later_life p c inputs k (omega arith))) ∙ lets) in
      omega arith

  -- An input of a cub that has come back from nowhere is of a first life by the facts,
  pub first_by_store : (c i k : ℕ) → c < p.cubs → i < lives.count c → (store_at p c (lives.input c) k).comeback ≡ None
      → IsFirstLife R c (beat_at (lives.input c) i)
  first_by_store c i k small low none w back = ⊎_elim
      (λ (l : beat_at (lives.input c) i < w). l)
      (λ b.
      let late = b.later in
      let e = b.in_beat in
      let z : Some (comeback_at p (reading_at (lives.input c) 0)) ≡ None =
      sym (later_life p c (lives.input c) k (omega arith)) ∙ none in
      absurd (cc))
      (fits.apart c i w small low back)

  -- and so is each beat of a Put.
  pub put_in_first : {c x : ℕ} {t : Tenancy} → DidAt p lives c (out.Act (what.Put t)) x → IsFirstLife R c x
  put_in_first {c} {x} {t} d =
      let inputs : ℕ → Input Msg = lives.input c in
      let keeps = keep_comeback p c (inputs d.at) (store_at p c inputs d.at) in
      subst (λ (b : ℕ). IsFirstLife R c b) d.in_beat
      (first_by_store c d.at d.at d.small d.done (keeps.first_life t (was_put_out p lives c d.at (out.Act (what.Put t)) d.did)))
