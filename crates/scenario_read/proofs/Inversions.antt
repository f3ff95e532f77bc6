-- What a meaning that is a value says of its parts.
use Rattle.std.proofs.Common.{◌≡◌, Bool, true, false, Option, Some, None, Result, Ok, Err, refl}
use Rattle.std.specs.Prelude.{⊤}
use Rattle.scenario_read.specs.declared.stop.ScenarioFault.{ScenarioFault}
use Rattle.scenario_read.specs.Fault.{◌>>=◌, keeps, found}

pub bind-ok : {A B : Type 0} (r : Result A ScenarioFault) (f : A → Result B ScenarioFault) (y : B) → (r >>= f) ≡ Ok y → (x : A) × (r ≡ Ok x) × (f x ≡ Ok y)
bind-ok (Ok x) f y e = (x, refl, e)
bind-ok (Err fault) f y e = absurd (cc)

-- a meaning that is this value
abbrev pub means : {A : Type 0} → A → Result A ScenarioFault
means x = Ok x

pub ok-same : {A : Type 0} (x y : A) → means x ≡ means y → x ≡ y
ok-same x y e = cc

pub found-ok : {A : Type 0} (o : Option A) (fault : ScenarioFault) (x : A) → found o fault ≡ Ok x → o ≡ Some x
found-ok (Some y) fault x e = cc
found-ok None fault x e = absurd (cc)

pub keeps-ok : (b : Bool) (fault : ScenarioFault) (t : ⊤) → keeps b fault ≡ Ok t → b ≡ true
keeps-ok true fault t e = refl
keeps-ok false fault t e = absurd (cc)
