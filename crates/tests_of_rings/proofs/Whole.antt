-- A course whose two rows on cuts and returns say nothing has such rows as a course needs.
use Rattle.std.proofs.Common.{◌≡◌, ℕ, ◌<◌, nat_lt, Bool, true, false, List, length, Option, None, refl, sym, subst, arith, ap, ◌∙◌}
use Rattle.std.specs.Prelude.{replicate}
use Rattle.std.proofs.lemmas.Bool.Decides.{nat_tests}
use Rattle.std.proofs.lemmas.List.{length-replicate, get_or-replicate}
use Rattle.std.proofs.lemmas.Option.{slice_get-get_or}
use Rattle.node_kit.specs.declared.course.Course.{Course}
use Rattle.node_kit.specs.Courses.{CutsDeath, ReturnsLater}
use Rattle.node_kit.specs.Life.{of_cub, death_of, cut_of, back_of}

none_in : (c : Course) (cubs n : ℕ) → c.plan.params.cubs ≡ cubs → of_cub c (replicate {A = Option ℕ} cubs None) n ≡ None
none_in c cubs n count = by (nat_lt n c.plan.params.cubs) refl
  where
    by : (b : Bool) → nat_lt n c.plan.params.cubs ≡ b → of_cub c (replicate {A = Option ℕ} cubs None) n ≡ None
    by false e = rw e refl
    by true e =
        let low : n < cubs = grind (arith, nat_tests, e, count) in
        let inside : n < length (replicate {A = Option ℕ} cubs None) = rw (length-replicate {A = Option ℕ} cubs None) low in
        rw (e, slice_get-get_or (replicate {A = Option ℕ} cubs None) n None inside, get_or-replicate {A = Option ℕ} cubs n None None low) refl

-- what a course has of such rows
pub record AreWhole (c : Course) : Type 0 where
  pub cuts : length c.cuts ≡ c.plan.params.cubs
  pub backs : length c.backs ≡ c.plan.params.cubs
  pub cut_deaths : (n : ℕ) → CutsDeath (death_of c n) (cut_of c n)
  pub returns_later : (n : ℕ) → ReturnsLater (death_of c n) (back_of c n)

pub none-whole : (c : Course) (cubs : ℕ) → c.plan.params.cubs ≡ cubs → c.cuts ≡ replicate cubs None → c.backs ≡ replicate cubs None → AreWhole c
none-whole c cubs count cut back = record {
  cuts = ap length cut ∙ length-replicate {A = Option ℕ} cubs None ∙ sym count;
  backs = ap length back ∙ length-replicate {A = Option ℕ} cubs None ∙ sym count;
  cut_deaths = λ n. rw (no_cut n) tt;
  returns_later = λ n. rw (no_back n) tt;
}
  where
    no_cut : (n : ℕ) → cut_of c n ≡ None
    no_cut n = subst (λ (row : List (Option ℕ)). of_cub c row n ≡ None) (sym cut) (none_in c cubs n count)

    no_back : (n : ℕ) → back_of c n ≡ None
    no_back n = subst (λ (row : List (Option ℕ)). of_cub c row n ≡ None) (sym back) (none_in c cubs n count)
