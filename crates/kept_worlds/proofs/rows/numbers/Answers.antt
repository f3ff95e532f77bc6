use Rattle.std.proofs.Common.{◌≡◌, ℕ, List, [], ◌∷◌, None, refl, ap, sym, ◌∙◌, arith}
use Rattle.node_kit.specs.Life.{Lifetime, back_of, death_of}
use Rattle.run_facts.specs.Carried.{got_on}
use Rattle.run_facts.specs.Events.{Dated}
use Rattle.ring_world.specs.declared.event.Act.{Act}
use Rattle.ring_world.specs.declared.event.Act.TheVariants as act
use Rattle.kept_worlds.specs.Events.{gets_behind}
use Rattle.kept_worlds.specs.Samples.{got, get_in, none_lost}
use Rattle.kept_worlds.proofs.rows.numbers.Goals as goal

pub returns-clause-two_links : goal.returns-clause-two_links
unfolding got_on
returns-clause-two_links c course lives =
    let none : death_of course 3 ≡ None = ap (λ (q : Lifetime). q.death) lives in
    let back : back_of course 3 ≡ None = ap (λ (q : Lifetime). q.back) lives in rw (none, back) refl

pub returns-clause-behind : goal.returns-clause-behind
unfolding got_on
returns-clause-behind c course lives =
    let none : death_of course 3 ≡ None = ap (λ (q : Lifetime). q.death) lives in
    let back : back_of course 3 ≡ None = ap (λ (q : Lifetime). q.back) lives in rw (none, back) refl

-- the number of the second message
abbrev number_of : Act → ℕ
number_of (act.Get link number) = number
number_of other = 0

abbrev second : List (Dated Act) → ℕ
second (a ∷ b ∷ rest) = number_of b.item
second other = 0

pub returns-clause-first : goal.returns-clause-first
unfolding got_on
returns-clause-first c course lives e =
    let none : death_of course 3 ≡ None = ap (λ (q : Lifetime). q.death) lives in
    let back : back_of course 3 ≡ None = ap (λ (q : Lifetime). q.back) lives in
    let two : gets_behind course 3 none_lost [] (got 0 5 ∷ got 1 5 ∷ []) ≡ get_in 0 5 0 ∷ get_in 1 5 1 ∷ [] = rw (none, back) refl in
    let one : 1 ≡ 0 = ap second (sym two ∙ e) in
    omega (arith, one)
