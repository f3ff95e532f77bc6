-- What is added for one start.
use Rattle.std.proofs.Common.{◌≡◌, ◌≢◌, ℕ, ◌+◌, ◌%◌, List, [], ◌∷◌, ◌++◌, ap, ◌∙◌, refl, append_assoc}
use Rattle.std.proofs.lemmas.Bool.{eq-eqb, ne_eqb}
use Rattle.rand_pcg.specs.Lcg.{Lcg}
use Rattle.scenario_read.specs.declared.scenario.ScEvent.{ScEvent}
use Rattle.scenario_read.specs.declared.scenario.ScEvent.TheVariants.{Begin, Finish}
use Rattle.scenario_make.specs.Draws.{draw}
use Rattle.scenario_make.specs.Events.{draws_of, events_at}

-- a start and a stop
pub events-stopped : (g : Lcg) (n beat file stopped : ℕ) (old mid now : List ScEvent) → n % 5 ≡ 4 → file ≡ draw g 1 8 → stopped ≡ draw g 2 (n + 1)
    → mid ≡ old ++ Begin beat (record { 0 = file }) ∷ [] → now ≡ mid ++ Finish beat (record { 0 = stopped }) ∷ []
    → now ≡ old ++ events_at g n beat
unfolding events_at
events-stopped g n beat file stopped old mid now fifth e f first second =
    second
    ∙ ap (λ (es : List ScEvent). es ++ Finish beat (record { 0 = stopped }) ∷ []) first
    ∙ append_assoc old (Begin beat (record { 0 = file }) ∷ []) (Finish beat (record { 0 = stopped }) ∷ [])
    ∙ rw (e, f, eq-eqb (n % 5) 4 fifth) refl

-- a start alone
pub events-plain : (g : Lcg) (n beat file : ℕ) (old now : List ScEvent) → n % 5 ≢ 4 → file ≡ draw g 1 8
    → now ≡ old ++ Begin beat (record { 0 = file }) ∷ [] → now ≡ old ++ events_at g n beat
unfolding events_at
events-plain g n beat file old now other e first = first ∙ rw (e, ne_eqb (n % 5) 4 other) refl

pub draws_of-fifth : (n : ℕ) → n % 5 ≡ 4 → draws_of n ≡ 3
draws_of-fifth n fifth = rw (eq-eqb (n % 5) 4 fifth) refl

pub draws_of-other : (n : ℕ) → n % 5 ≢ 4 → draws_of n ≡ 2
draws_of-other n other = rw (ne_eqb (n % 5) 4 other) refl
