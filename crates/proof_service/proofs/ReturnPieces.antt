-- The facts of the worked run with a return meet the laws of mirror pieces: nothing is split in it.
use Rattle.std.proofs.Common.{◌≡◌, ℕ, ◌+◌, refl, sym, arith, ⊎_elim, inl, inr}
use Rattle.std.specs.Prelude.{◌⊎◌}
use Rattle.std.specs.List.{AllByRecursion, Contains}
use Rattle.std.proofs.lemmas.List.Elements.{All-from_recursion, All-contains}
use Rattle.slot_plan.specs.Times.{first_due, due}
use Rattle.proof_pieces.specs.PieceFacts.{PieceFacts, leave}
use Rattle.proof_pieces.specs.PieceLaws.{PieceLaws}
use Rattle.proof_pieces.specs.PieceLogs.{PieceFact, pieces_in, Split, Spared, MirrorSent, Mirrored, KillSent, Asks, Serves}
use Rattle.proof_service.specs.Example.{plan}
use Rattle.proof_service.specs.ReturnExample.{viewer, one_run, its_pieces, its_blocks}
use Rattle.proof_service.specs.ServiceFacts.{ServiceFacts}
use Rattle.proof_service.specs.ServiceLogs.{service_in}
use Rattle.proof_service.proofs.ExampleLives.{same_since}
use Rattle.proof_service.proofs.ExampleParts.{IsSent, ArePartsOf, asks_there, serves_there, was_asked, rising}
use Rattle.proof_service.proofs.ExampleSchedule.{inserted_in, took_in}
use Rattle.proof_service.proofs.ReturnLog.{r, worked, timed}

-- Cub 0 sends the block of visit 16 in beat 1650, and cub 1 that of visit 17 in beat 1750.
abbrev pub IsPart : ℕ → ℕ → ℕ → ℕ → Type 0
IsPart c n j s = ((c ≡ 0) × (n ≡ 16) × (j ≡ 0) × (s ≡ 1650))
    ⊎ ((c ≡ 1) × (n ≡ 17) × (j ≡ 0) × (s ≡ 1750))

-- Each fact about pieces is one of these.
abbrev pub IsPiece : PieceFact → Type 0
IsPiece (Split c t n b) = ⊥
IsPiece (Spared c t n b) = ⊥
IsPiece (MirrorSent a k t n j b) = ⊥
IsPiece (Mirrored c t n j b) = ⊥
IsPiece (KillSent a k v s n b) = ⊥
IsPiece (Asks c t n j b) = (t ≡ viewer) × IsPart c n j (b + 10)
IsPiece (Serves c t n j b) = (t ≡ viewer) × IsPart c n j b

-- Each fact of the list is one of them.
list_is : AllByRecursion IsPiece its_pieces
list_is = (
  (refl, inl (refl, refl, refl, refl)),
  (
    (refl, inl (refl, refl, refl, refl)),
    (
      (refl, inr (refl, refl, refl, refl)),
      ((refl, inr (refl, refl, refl, refl)), tt),
    ),
  ),
)

-- So each that the list has is.
pub is_piece : (f : PieceFact) → Contains its_pieces f → IsPiece f
is_piece f h = All-contains IsPiece its_pieces f (All-from_recursion IsPiece its_pieces list_is) h

abbrev pub q : PieceFacts
q = pieces_in its_pieces

abbrev pub w : ServiceFacts
w = service_in its_blocks

-- When the blocks leave.
first_leaves : leave plan viewer 16 0 ≡ 16500000
unfolding due first_due
first_leaves = refl

second_leaves : leave plan viewer 17 0 ≡ 17500000
unfolding due first_due
second_leaves = refl

-- So each is sent when it leaves, long after its record came.
sent : {c n j s : ℕ} → IsPart c n j s → IsSent 16 1950 60 one_run timed worked q c n j s
sent k = ⊎_elim
    (λ a. rw (a.0, a.1, a.2, a.3) (record {
      here = sym timed.first_cub;
      small = omega arith;
      few = omega arith;
      leaves = first_leaves;
      beat = 1601;
      arises = inl (refl, inr (inserted_in 16 1950 60 one_run timed worked));
      before = omega arith;
      life = same_since 16 1950 60 one_run timed worked 0 1601 1650 (omega arith);
      up = λ b low high. inl (inr (λ e. omega arith, omega arith));
    }))
    (λ a. rw (a.0, a.1, a.2, a.3) (record {
      here = sym timed.second_cub;
      small = omega arith;
      few = omega arith;
      leaves = second_leaves;
      beat = 1602;
      arises = inl (refl, inl (took_in 16 1950 60 one_run timed worked (inr (inl (refl, refl)))));
      before = omega arith;
      life = same_since 16 1950 60 one_run timed worked 1 1602 1750 (omega arith);
      up = λ b low high. inr (refl, omega arith, omega arith);
    }))
    k

-- Each part is asked for, stored and sent.
pub parts : ArePartsOf 16 1950 60 one_run timed worked q w IsPart
parts = record {
  sent = λ {c} {n} {j} {s} k. sent k;
  asked = λ {c} {n} {j} {s} k. ⊎_elim
      (λ a. rw (a.0, a.1, a.2, a.3) (0, omega arith, refl))
      (λ a. rw (a.0, a.1, a.2, a.3) (2, omega arith, refl))
      k;
  stored = λ {c} {n} {j} {s} k. ⊎_elim
      (λ a. rw (a.0, a.1, a.2, a.3) (0, omega arith, refl))
      (λ a. rw (a.0, a.1, a.2, a.3) (2, omega arith, refl))
      k;
  served = λ {c} {n} {j} {s} k. ⊎_elim
      (λ a. rw (a.0, a.1, a.2, a.3) (1, omega arith, refl))
      (λ a. rw (a.0, a.1, a.2, a.3) (3, omega arith, refl))
      k;
}

-- So all laws of pieces are met.
pub pieces : PieceLaws plan r q
pieces = record {
  splits = λ {c} {t} {n} {b} h. absurd (is_piece (Split c t n b) h);
  spares = λ {c} {t} {n} {b} h. absurd (is_piece (Spared c t n b) h);
  mirrors = λ {a} {k = s} {t} {n} {j} {b} h. absurd (is_piece (MirrorSent a s t n j b) h);
  mirrored = λ {c} {t} {n} {j} {y} h. absurd (is_piece (Mirrored c t n j y) h);
  late = λ {c} {t} {n} {j} {y} {w} h again le. absurd (is_piece (Mirrored c t n j y) h);
  asks = λ {c} {t} {n} {j} {b} h.
      let k = is_piece (Asks c t n j b) h in
      rw k.0 (asks_there 16 1950 60 one_run timed worked q w IsPart parts k.1);
  serves = λ {c} {t} {n} {j} {b} h.
      let k = is_piece (Serves c t n j b) h in
      rw k.0 (serves_there 16 1950 60 one_run timed worked q w IsPart parts k.1);
  asked = λ {c} {t} {n} {j} {b} h.
      let k = is_piece (Serves c t n j b) h in
      rw k.0 (was_asked 16 1950 60 one_run timed worked q w IsPart parts k.1);
  rising = λ {c} {a} {b} {l} {m} h k le. rising 16 1950 60 one_run timed worked h k le;
  kills = λ {a} {t} {n} {x} {y} {b} h k l came le same. absurd (is_piece (Split a t n x) h);
  spare_kills = λ {a} {t} {n} {x} {y} h k l. absurd (is_piece (Spared a t n x) h);
  spare_killed = λ {a} {k = s} {c} {t} {n} {x} {y} {b} h kill to e u.
      absurd (is_piece (Spared a t n x) h);
  killed = λ {a} {k = s} {c} {t} {n} {j} {x} {y} {b} h kill to e u le.
      absurd (is_piece (KillSent a s t.instance.0 t.slot.0 n y) kill);
}
