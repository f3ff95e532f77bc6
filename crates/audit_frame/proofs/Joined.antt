-- What follows of two facts of an Ok, and of a fact of whatever comes.
use Rattle.std.specs.Prelude.{Result, OnOk}
use Rattle.std.specs.declared.result.Result.TheVariants.{Ok, Err}

pub both_ok : {A E : Type 0} (r : Result A E) (P Q R : Type 0) → (P → Q → R) → OnOk r P → OnOk r Q → OnOk r R
both_ok (Ok x) P Q R f p q = f p q
both_ok (Err e) P Q R f p q = tt

pub ok_always : {A E : Type 0} (r : Result A E) (P : Type 0) → P → OnOk r P
ok_always (Ok x) P p = p
ok_always (Err e) P p = tt
