-- Links that are closed one after another.
use Rattle.std.proofs.Common.{◌≡◌, ℕ, ◌+◌, ◌<◌, ◌≤◌, List, Bool, true, Option, ap, ◌∙◌, subst, arith, ⊎_elim}
use Rattle.std.proofs.lemmas.Bool.{cases_lt}
use Rattle.ring_links.specs.Ends.{End}
use Rattle.ring_workers.specs.Ends.{AreLeft, AreLined, HasClosed}

module _ {M : Type 0} where
  pub closed-on : (between : ℕ → Bool) (n : ℕ) (was_out was_in outs ins : List (Option (End M))) → AreLeft was_out outs → AreLeft was_in ins
      → ((l : ℕ) → l < n → between l ≡ true → HasClosed was_out was_in l) → (between n ≡ true → HasClosed outs ins n)
      → (l : ℕ) → l < n + 1 → between l ≡ true → HasClosed was_out was_in l
  closed-on between n was_out was_in outs ins left_out left_in h closes l low is = ⊎_elim
      (λ (below : l < n). h l below is)
      (λ (not_below : n ≤ l).
      let same : n ≡ l = omega (arith, low, not_below) in
      let new = closes (ap between same ∙ is) in
      subst (λ k. HasClosed was_out was_in k) same (record {
        out = new.out;
        into = new.into;
        out_there = left_out n new.out new.out_there;
        into_there = left_in n new.into new.into_there;
        front = new.front;
        ordered = new.ordered;
      }))
      (cases_lt l n)

  pub lined-left : (was_out was_in outs ins : List (Option (End M))) → AreLeft was_out outs → AreLeft was_in ins → AreLined was_out was_in → AreLined outs ins
  lined-left was_out was_in outs ins left_out left_in h l out into ho hi = h l out into (left_out l out ho) (left_in l into hi)
