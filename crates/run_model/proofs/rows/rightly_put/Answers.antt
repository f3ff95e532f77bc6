use Rattle.std.proofs.Common.{◌≡◌, refl, ap, ⊎_elim, inl, inr, arith}
use Rattle.std.proofs.lemmas.Bool.{false≢true}
use Rattle.tiger_base.specs.declared.number.FileNo.{FileNo}
use Rattle.tiger_base.specs.declared.number.Instance.{Instance}
use Rattle.tiger_base.specs.declared.tenancy.Ask.{Ask}
use Rattle.run_model.specs.Samples.{seat, ask_for, ask}
use Rattle.run_model.proofs.OnSamples.{on_samples, only-order}
use Rattle.run_model.proofs.rows.rightly_put.Goals as goal

pub returns-clause-rightly : goal.returns-clause-rightly
unfolding on_samples
returns-clause-rightly c = (record { free = λ t e. absurd (cc); rightly = record { ask = ask; ordered = inl refl; asked = record { instance = refl; file = refl; count = omega arith; disk = refl }; slot = omega arith; window = refl; cub = inl refl; once = omega arith } }, tt)

pub returns-clause-held : goal.returns-clause-held
unfolding on_samples
returns-clause-held c h = let last = h.1.0.free (seat 1 0 0) refl in omega (arith, last)

pub returns-clause-late : goal.returns-clause-late
unfolding on_samples
returns-clause-late c h = false≢true h.0.rightly.window

pub returns-clause-early : goal.returns-clause-early
unfolding on_samples
returns-clause-early c h = false≢true h.0.rightly.window

pub returns-clause-no_slot : goal.returns-clause-no_slot
unfolding on_samples
returns-clause-no_slot c h = let slot = h.0.rightly.slot in omega (arith, slot)

pub returns-clause-not_ordered : goal.returns-clause-not_ordered
unfolding on_samples
returns-clause-not_ordered c h = h.0.rightly.ordered

pub returns-clause-other_instance : goal.returns-clause-other_instance
unfolding on_samples
returns-clause-other_instance c h = let e = only-order (ask_for 1 0 3 0) h.0.rightly.ask h.0.rightly.ordered in let of_ask : 1 ≡ h.0.rightly.ask.instance.0 = ap (λ (a : Ask). a.instance.0) e in let of_put : h.0.rightly.ask.instance.0 ≡ 0 = ap (λ (v : Instance). v.0) h.0.rightly.asked.instance in omega (arith, of_ask, of_put)

pub returns-clause-other_file : goal.returns-clause-other_file
unfolding on_samples
returns-clause-other_file c h = let e = only-order (ask_for 0 1 3 0) h.0.rightly.ask h.0.rightly.ordered in let of_ask : 1 ≡ h.0.rightly.ask.file.0 = ap (λ (a : Ask). a.file.0) e in let of_put : h.0.rightly.ask.file.0 ≡ 0 = ap (λ (f : FileNo). f.0) h.0.rightly.asked.file in omega (arith, of_ask, of_put)

pub returns-clause-other_disk : goal.returns-clause-other_disk
unfolding on_samples
returns-clause-other_disk c h = let e = only-order (ask_for 0 0 3 1) h.0.rightly.ask h.0.rightly.ordered in let of_ask : 1 ≡ h.0.rightly.ask.disk.0 = ap (λ (a : Ask). a.disk.0) e in let of_put = h.0.rightly.asked.disk in omega (arith, of_ask, of_put)

pub returns-clause-too_long : goal.returns-clause-too_long
unfolding on_samples
returns-clause-too_long c h = let e = only-order (ask) h.0.rightly.ask h.0.rightly.ordered in let of_ask : 3 ≡ h.0.rightly.ask.count = ap (λ (a : Ask). a.count) e in let of_put = h.0.rightly.asked.count in omega (arith, of_ask, of_put)

pub returns-clause-too_short : goal.returns-clause-too_short
unfolding on_samples
returns-clause-too_short c h = let e = only-order (ask) h.0.rightly.ask h.0.rightly.ordered in let of_ask : 3 ≡ h.0.rightly.ask.count = ap (λ (a : Ask). a.count) e in let of_put = h.0.rightly.asked.count in omega (arith, of_ask, of_put)

pub returns-clause-for_dead : goal.returns-clause-for_dead
unfolding on_samples
returns-clause-for_dead c = (tt, (record { free = λ t e. absurd (cc); rightly = record { ask = ask; ordered = inl refl; asked = record { instance = refl; file = refl; count = omega arith; disk = refl }; slot = omega arith; window = refl; cub = inr (refl, refl); once = omega arith } }, tt))

pub returns-clause-for_living : goal.returns-clause-for_living
unfolding on_samples
returns-clause-for_living c h = ⊎_elim (λ own. omega (arith, own)) (λ next. false≢true next.1) h.0.rightly.cub

pub returns-clause-by_next_but_one : goal.returns-clause-by_next_but_one
unfolding on_samples
returns-clause-by_next_but_one c h = ⊎_elim (λ own. omega (arith, own)) (λ next. let after = next.0 in omega (arith, after)) h.1.0.rightly.cub

pub returns-clause-believed_by_other : goal.returns-clause-believed_by_other
unfolding on_samples
returns-clause-believed_by_other c h = ⊎_elim (λ own. omega (arith, own)) (λ next. false≢true next.1) h.1.0.rightly.cub

pub returns-clause-twice : goal.returns-clause-twice
unfolding on_samples
returns-clause-twice c h = let once = h.0.rightly.once in omega (arith, once)
