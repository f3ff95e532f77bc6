-- The pieces and blocks of each of two lives are of one life of the facts of both.
use Rattle.std.proofs.Common.{◌≡◌, ℕ, arith, inl, inr}
use Rattle.proof_schedule.specs.Facts.{Facts, IsFirstLife}
use Rattle.proof_pieces.specs.PieceFacts.{PieceFacts}
use Rattle.proof_service.specs.ServiceFacts.{ServiceFacts}
use Rattle.proof_two_lives.specs.TwoLives.{ArePiecesOfTwoLives, AreBlocksOfTwoLives, BesideFacts, CameBackBefore, CameBackBy, beside_blocks, joined_facts, joined_blocks, joined_pieces, with_beside}
use Rattle.proof_two_lives.proofs.Joined.{keep_first, keep_later}
use Rattle.proof_two_lives.proofs.PiecesOf.{AreBlocksOfOne, ArePiecesOfOne}

module _ {r : Facts} (s : Facts) (x : BesideFacts) {q o : PieceFacts}
    (two : ArePiecesOfTwoLives r q o) where
  pub first_pieces : ArePiecesOfOne q (with_beside (joined_pieces q o) x) (joined_facts r s)
      (IsFirstLife r)
  first_pieces = record {
    split = λ a. inl a;
    mirrored = λ a. inl a;
    kill = λ a. inl (inl a);
    mirror = λ a. inl (inl a);
    asks = λ a. inl a;
    serves = λ a. inl a;
    lives = two.firsts;
    kept_split = λ {c} {n} {y} {b} {t} here le k.
        keep_first r s here le (two.laters.split c t n y) k;
    kept_mirrored = λ {c} {n} {i} {y} {b} {t} here le k.
        keep_first r s here le (two.laters.mirrored c t n i y) k;
  }

  pub later_pieces : ArePiecesOfOne o (with_beside (joined_pieces q o) x) (joined_facts r s)
      (CameBackBy r)
  later_pieces = record {
    split = λ a. inr a;
    mirrored = λ a. inr a;
    kill = λ a. inl (inr a);
    mirror = λ a. inl (inr a);
    asks = λ a. inr a;
    serves = λ a. inr a;
    lives = two.laters;
    kept_split = λ {c} {n} {y} {b} {t} here le k.
        keep_later r s here (two.firsts.split c t n y) k;
    kept_mirrored = λ {c} {n} {i} {y} {b} {t} here le k.
        keep_later r s here (two.firsts.mirrored c t n i y) k;
  }

module _ {r : Facts} (s : Facts) {w u : ServiceFacts} (two : AreBlocksOfTwoLives r w u)
    (once : (c x y : ℕ) → r.Returned c x → r.Returned c y → y ≡ x) where
  came_back : {c b : ℕ} → CameBackBefore r c b → CameBackBy r c b
  came_back h =
      let before = h.before in
      record { beat = h.beat; returned = h.returned; by = omega arith }

  pub first_blocks : AreBlocksOfOne w (joined_blocks w u) (joined_facts r s) (IsFirstLife r)
  first_blocks = record {
    stored = λ a. inl a;
    failed = λ a. inl a;
    killed = λ a. inl a;
    told = λ a. inl a;
    behind = λ {c} {n} {i} {b} {t} a back.
        let after = two.firsts.stored c t n i b a b back in
        absurd (omega arith);
    kept_stored = λ {c} {n} {i} {y} {b} {t} here le k.
        keep_first r s here le (λ a. came_back (two.laters.stored c t n i y a)) k;
  }

  pub later_blocks : AreBlocksOfOne (beside_blocks w u) (joined_blocks w u) (joined_facts r s)
      (CameBackBy r)
  later_blocks = record {
    stored = λ a. inr a;
    failed = λ a. inr a;
    killed = λ a. inr a;
    told = λ a. inr a;
    behind = λ {c} {n} {i} {b} {t} a back.
        let h = two.laters.stored c t n i b a in
        let before = h.before in
        let same = once c h.beat b h.returned back in
        absurd (omega arith);
    kept_stored = λ {c} {n} {i} {y} {b} {t} here le k.
        keep_later r s here (two.firsts.stored c t n i y) k;
  }
