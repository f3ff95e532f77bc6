use Rattle.std.proofs.Common.{◌≡◌, ℕ, ◌≤◌, List, [], ◌∷◌, length, ap, sym, ◌∙◌, subst, arith}
use Rattle.std.specs.Prelude.{All}
use Rattle.std.specs.List.{AllByRecursion}
use Rattle.std.proofs.lemmas.List.Elements.{All-nil, All-cons}
use Rattle.link_timing.specs.Clock.{FixedIsWithin}
use Rattle.node_kit.specs.declared.course.Course.{Course}
use Rattle.tests_of_rings.proofs.Whole.{AreWhole, none-whole}
use Rattle.tests_of_rings.proofs.toys.toy_course.Goals as goal

offsets : List ℕ
offsets = 300 ∷ 0 ∷ 0 ∷ 0 ∷ 0 ∷ 0 ∷ 0 ∷ 0 ∷ 7 ∷ []

all-from : {A : Type 0} (P : A → Type 0) (xs : List A) → AllByRecursion P xs → All P xs
all-from P [] h = All-nil P
all-from P (x ∷ xs) h = All-cons P x xs h.0 (all-from P xs h.1)

are_skewed : (skew : ℕ) → skew ≡ 4000 → All (λ o. o ≤ skew) offsets
unfolding offsets
are_skewed skew e = all-from (λ o. o ≤ skew) offsets (omega (arith, e), (omega (arith, e), (omega (arith, e), (omega (arith, e), (omega (arith, e), (omega (arith, e), (omega (arith, e), (omega (arith, e), (omega (arith, e), tt)))))))))

abbrev course : (c : goal.After-new-4) → Course
course c = record {
  plan = c.args.plan;
  beats = c.args.beats;
  offsets = c.new.result;
  deaths = c.new-2.result;
  cuts = c.in_ok-of_none.field-0;
  backs = c.in_ok-of_none-2.field-0;
  faults = c.new-4.result;
  delay = c.args.delay;
}

whole : (c : goal.After-new-4) → AreWhole (course c)
whole c = none-whole (course c) 8 c.requires.cubs c.in_ok-of_none.ensures c.in_ok-of_none-2.ensures

pub returns-clause-course : goal.returns-clause-course
unfolding offsets
returns-clause-course c =
    let given : c.new.result ≡ offsets = c.new.ensures ∙ c.in_ok-offsets.ensures.items in
    let cubs = c.requires.cubs in
    record {
      beats = c.requires.beats;
      offsets = ap length given ∙ omega (arith, cubs);
      skewed = subst (All (λ o. o ≤ c.args.plan.params.skew)) (sym given) (are_skewed c.args.plan.params.skew c.requires.skew);
      deaths = ap length (c.new-2.ensures ∙ c.in_ok-deaths.ensures.items) ∙ omega (arith, cubs);
      cuts = (whole c).cuts;
      backs = (whole c).backs;
      cut_deaths = (whole c).cut_deaths;
      returns_later = (whole c).returns_later;
      delay = subst (FixedIsWithin c.args.delay) (sym c.requires.most) c.requires.delay;
    }
