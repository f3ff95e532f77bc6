-- Which asks are one.
use Rattle.std.proofs.Common.{◌≡◌, ◌&&◌, IsTrue, refl}
use Rattle.std.specs.Prelude.{◌==◌}
use Rattle.std.proofs.lemmas.Bool.{eqb-true, eq-eqb}
use Rattle.tiger_base.specs.declared.tenancy.Ask.{Ask}
use Rattle.run_model.proofs.Reflects.{and_both, and_left, and_right}
use Rattle.audit_frame.specs.Tables.{same_ask}

pub one_ask : (b a : Ask) → IsTrue (same_ask b a) → b ≡ a
one_ask b a h =
    let first = and_left ((b.instance.0 == a.instance.0) && (b.file.0 == a.file.0)) ((b.count == a.count) && (b.disk.0 == a.disk.0)) h in
    let second = and_right ((b.instance.0 == a.instance.0) && (b.file.0 == a.file.0)) ((b.count == a.count) && (b.disk.0 == a.disk.0)) h in
    let instance = eqb-true b.instance.0 a.instance.0 (and_left (b.instance.0 == a.instance.0) (b.file.0 == a.file.0) first) in
    let file = eqb-true b.file.0 a.file.0 (and_right (b.instance.0 == a.instance.0) (b.file.0 == a.file.0) first) in
    let count = eqb-true b.count a.count (and_left (b.count == a.count) (b.disk.0 == a.disk.0) second) in
    let disk = eqb-true b.disk.0 a.disk.0 (and_right (b.count == a.count) (b.disk.0 == a.disk.0) second) in
    λ i. record { instance = record { 0 = instance i }; file = record { 0 = file i }; count = count i; disk = record { 0 = disk i } }

pub same_itself : (a : Ask) → IsTrue (same_ask a a)
same_itself a =
    and_both ((a.instance.0 == a.instance.0) && (a.file.0 == a.file.0)) ((a.count == a.count) && (a.disk.0 == a.disk.0))
    (and_both (a.instance.0 == a.instance.0) (a.file.0 == a.file.0) (eq-eqb a.instance.0 a.instance.0 refl) (eq-eqb a.file.0 a.file.0 refl))
    (and_both (a.count == a.count) (a.disk.0 == a.disk.0) (eq-eqb a.count a.count refl) (eq-eqb a.disk.0 a.disk.0 refl))
