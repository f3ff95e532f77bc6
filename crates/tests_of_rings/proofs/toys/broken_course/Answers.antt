use Rattle.std.proofs.Common.{◌≡◌, ℕ, List, [], ◌∷◌, Option, Some, None, length, ap, ◌∙◌, arith}
use Rattle.slot_plan.specs.declared.params.Params.{Params}
use Rattle.node_kit.specs.declared.course.Course.{Course}
use Rattle.node_kit.specs.Courses.{CutsDeath, ReturnsLater}
use Rattle.node_kit.specs.Life.{of_cub}
use Rattle.tests_of_rings.proofs.Broken.{of-paired, Paired}
use Rattle.tests_of_rings.proofs.toys.broken_course.Goals as goal

abbrev deaths : List (Option ℕ)
deaths = Some 5 ∷ Some 2 ∷ Some 6 ∷ None ∷ None ∷ None ∷ None ∷ None ∷ []

abbrev cuts : ℕ → List (Option ℕ)
cuts left = Some left ∷ None ∷ None ∷ None ∷ None ∷ None ∷ None ∷ None ∷ []

abbrev backs : List (Option ℕ)
backs = None ∷ Some 4 ∷ None ∷ None ∷ None ∷ None ∷ None ∷ None ∷ []

cut : (left : ℕ) → Paired CutsDeath deaths (cuts left)
cut left = (tt, (tt, (tt, (tt, (tt, (tt, (tt, (tt, tt))))))))

back : Paired ReturnsLater deaths backs
back = (tt, (omega arith, (tt, (tt, (tt, (tt, (tt, (tt, tt))))))))

cut_in : (c : Course) (left : ℕ) (ds ks : List (Option ℕ)) → ds ≡ deaths → ks ≡ cuts left → (n : ℕ) → CutsDeath (of_cub c ds n) (of_cub c ks n)
cut_in c left ds ks d k n = rw (d, k) (of-paired CutsDeath tt c deaths (cuts left) (cut left) n)

back_in : (c : Course) (ds bs : List (Option ℕ)) → ds ≡ deaths → bs ≡ backs → (n : ℕ) → ReturnsLater (of_cub c ds n) (of_cub c bs n)
back_in c ds bs d b n = rw (d, b) (of-paired ReturnsLater tt c deaths backs back n)

pub returns-clause-course : goal.returns-clause-course
returns-clause-course c =
    let was = c.in_ok-course.ensures.course in
    let d : c.new.result ≡ deaths = c.new.ensures ∙ c.in_ok-deaths.ensures.items in
    let k : c.new-2.result ≡ cuts c.args.left = c.new-2.ensures ∙ c.in_ok-cuts.ensures.items in
    let b : c.new-3.result ≡ backs = c.new-3.ensures ∙ c.in_ok-backs.ensures.items in
    let cubs : c.in_ok-course.course.plan.params.cubs ≡ 8 = ap (λ (p : Params). p.cubs) c.in_ok-course.ensures.params ∙ c.requires.cubs in
    record {
      beats = was.beats;
      offsets = was.offsets;
      skewed = was.skewed;
      deaths = ap length d ∙ omega (arith, cubs);
      cuts = ap length k ∙ omega (arith, cubs);
      backs = ap length b ∙ omega (arith, cubs);
      cut_deaths = cut_in c.in_ok-course.course c.args.left _ _ d k;
      returns_later = back_in c.in_ok-course.course _ _ d b;
      delay = was.delay;
    }
