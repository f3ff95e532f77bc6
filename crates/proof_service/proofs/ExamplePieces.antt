-- The facts of the worked run meet the laws of mirror pieces.
use Rattle.std.proofs.Common.{◌≡◌, ◌≢◌, ℕ, ◌+◌, ◌*◌, ◌<◌, ◌≤◌, refl, sym, arith, ⊎_elim, inl, inr}
use Rattle.std.specs.Prelude.{◌⊎◌}
use Rattle.std.specs.List.{AllByRecursion, Contains}
use Rattle.std.proofs.lemmas.List.Elements.{All-from_recursion, All-contains}
use Rattle.slot_plan.specs.Times.{first_due, due, cub_of}
use Rattle.mirror_pieces.specs.Pieces.{leaving}
use Rattle.proof_pieces.specs.PieceFacts.{PieceFacts, leave, Arises}
use Rattle.proof_pieces.specs.PieceLaws.{PieceLaws, IsSplit}
use Rattle.proof_pieces.specs.PieceLogs.{PieceFact, pieces_in, Split, Spared, MirrorSent, Mirrored, KillSent, Asks, Serves}
use Rattle.proof_service.specs.Example.{plan, viewer, one_run, its_pieces, its_blocks}
use Rattle.proof_service.specs.ServiceFacts.{ServiceFacts}
use Rattle.proof_service.specs.ServiceLogs.{service_in}
use Rattle.proof_service.proofs.ExampleFacts.{IsOn}
use Rattle.proof_service.proofs.ExampleLives.{same_since, back_is}
use Rattle.proof_service.proofs.ExampleLog.{r, worked, timed}
use Rattle.proof_service.proofs.ExampleParts.{IsSent, ArePartsOf, rising, believed_by, asks_there, serves_there, was_asked}
use Rattle.proof_service.proofs.ExamplePlan.{time_is, due_is, cub_2}
use Rattle.proof_service.proofs.ExampleSchedule.{inserted_in, took_in, none}

-- Cub 0 sends block 0 in beat 50, cub 2 piece 1 of block 1 in beat 150, and cub 3 piece 2 in beat
-- 200.
abbrev pub IsPart : ℕ → ℕ → ℕ → ℕ → Type 0
IsPart c n j s = ((c ≡ 0) × (n ≡ 0) × (j ≡ 0) × (s ≡ 50))
    ⊎ (((c ≡ 2) × (n ≡ 1) × (j ≡ 1) × (s ≡ 150)) ⊎ ((c ≡ 3) × (n ≡ 1) × (j ≡ 2) × (s ≡ 200)))

-- Each fact about pieces is one of these.
abbrev pub IsPiece : PieceFact → Type 0
IsPiece (Split c t n b) = (c ≡ 2) × (t ≡ viewer) × (n ≡ 1) × (b ≡ 121)
IsPiece (Spared c t n b) = ⊥
IsPiece (MirrorSent a k t n j b) = (a ≡ 2) × (k ≡ 1) × (t ≡ viewer) × (n ≡ 1) × (j ≡ 2) × (b ≡ 121)
IsPiece (Mirrored c t n j b) = (c ≡ 3) × (t ≡ viewer) × (n ≡ 1) × (j ≡ 2) × (b ≡ 122)
IsPiece (KillSent a k v s n b) = ⊥
IsPiece (Asks c t n j b) = (t ≡ viewer) × IsPart c n j (b + 10)
IsPiece (Serves c t n j b) = (t ≡ viewer) × IsPart c n j b

-- Each fact of the list is one of them.
list_is : AllByRecursion IsPiece its_pieces
list_is = (
  (refl, inl (refl, refl, refl, refl)),
  (
    (refl, inl (refl, refl, refl, refl)),
    (
      (refl, refl, refl, refl),
      (
        (refl, refl, refl, refl, refl, refl),
        (
          (refl, refl, refl, refl, refl),
          (
            (refl, inr (inl (refl, refl, refl, refl))),
            (
              (refl, inr (inl (refl, refl, refl, refl))),
              (
                (refl, inr (inr (refl, refl, refl, refl))),
                ((refl, inr (inr (refl, refl, refl, refl))), tt),
              ),
            ),
          ),
        ),
      ),
    ),
  ),
)

-- So each that the list has is.
pub is_piece : (f : PieceFact) → Contains its_pieces f → IsPiece f
is_piece f h = All-contains IsPiece its_pieces f (All-from_recursion IsPiece its_pieces list_is) h

abbrev pub q : PieceFacts
q = pieces_in its_pieces

abbrev pub w : ServiceFacts
w = service_in its_blocks

-- The facts, one by one.
pub split_in : q.Split 2 viewer 1 121
split_in = (2, omega arith, refl)

pub mirror_in : q.MirrorSent 2 1 viewer 1 2 121
mirror_in = (3, omega arith, refl)

pub mirrored_in : q.Mirrored 3 viewer 1 2 122
mirrored_in = (4, omega arith, refl)

pub serves_in : {c n j b : ℕ} → IsPart c n j b → q.Serves c viewer n j b
serves_in k = ⊎_elim
    (λ a. rw (a.0, a.1, a.2, a.3) (1, omega arith, refl))
    (λ o. ⊎_elim
    (λ a. rw (a.0, a.1, a.2, a.3) (6, omega arith, refl))
    (λ a. rw (a.0, a.1, a.2, a.3) (8, omega arith, refl))
    o)
    k

-- The third cub after cub 0.
pub cub_3 : cub_of plan 3 ≡ 3
unfolding cub_of
cub_3 = refl

-- When the block and the pieces leave.
whole_leaves : leave plan viewer 0 0 ≡ 500000
unfolding due first_due
whole_leaves = refl

first_leaves : leave plan viewer 1 1 ≡ 1500000
unfolding due first_due leaving
first_leaves = refl

second_leaves : leave plan viewer 1 2 ≡ 2000000
unfolding due first_due leaving
second_leaves = refl

-- A part is sent when it leaves, long after its record came, by a cub that is up all along.
sent_by : {c n j s : ℕ} (e : ℕ) → c ≡ cub_of plan (n + j) → c < 8 → c ≢ 1 → j ≤ 2
    → leave plan viewer n j ≡ s * 10000 → Arises r q c viewer n j e → e + 10 < s → s < 350
    → IsSent 0 350 350 one_run timed worked q c n j s
sent_by {c} {n} {j} {s} e here small other few leaves arises before high = record {
  here = here;
  small = small;
  few = few;
  leaves = leaves;
  beat = e;
  arises = arises;
  before = before;
  life = same_since 0 350 350 one_run timed worked c e s (omega arith);
  up = λ b low le. inl (inr (other, omega arith));
}

-- So is each of the three.
sent : {c n j s : ℕ} → IsPart c n j s → IsSent 0 350 350 one_run timed worked q c n j s
sent k = ⊎_elim
    (λ a. rw (a.0, a.1, a.2, a.3)
    (sent_by 1 (sym timed.first_cub) (omega arith) (λ e. omega arith) (omega arith) whole_leaves
    (inl (refl, inr (inserted_in 0 350 350 one_run timed worked))) (omega arith) (omega arith)))
    (λ o. ⊎_elim
    (λ a. rw (a.0, a.1, a.2, a.3)
    (sent_by 121 (sym cub_2) (omega arith) (λ e. omega arith) (omega arith) first_leaves
    (inr (inl (refl, split_in))) (omega arith) (omega arith)))
    (λ a. rw (a.0, a.1, a.2, a.3)
    (sent_by 122 (sym cub_3) (omega arith) (λ e. omega arith) (omega arith) second_leaves
    (inr (inr mirrored_in)) (omega arith) (omega arith)))
    o)
    k

-- So each part is asked for, stored and sent.
pub parts : ArePartsOf 0 350 350 one_run timed worked q w IsPart
parts = record {
  sent = λ {c} {n} {j} {s} k. sent k;
  asked = λ {c} {n} {j} {s} k. ⊎_elim
      (λ a. rw (a.0, a.1, a.2, a.3) (0, omega arith, refl))
      (λ o. ⊎_elim
      (λ a. rw (a.0, a.1, a.2, a.3) (5, omega arith, refl))
      (λ a. rw (a.0, a.1, a.2, a.3) (7, omega arith, refl))
      o)
      k;
  stored = λ {c} {n} {j} {s} k. ⊎_elim
      (λ a. rw (a.0, a.1, a.2, a.3) (0, omega arith, refl))
      (λ o. ⊎_elim
      (λ a. rw (a.0, a.1, a.2, a.3) (2, omega arith, refl))
      (λ a. rw (a.0, a.1, a.2, a.3) (4, omega arith, refl))
      o)
      k;
  served = λ {c} {n} {j} {s} k. serves_in k;
}

-- Nobody returns.
pub nobody : {c x : ℕ} → r.Returned c x → ⊥
nobody back = let early = (back_is 0 350 350 one_run timed worked back).2 in omega arith

-- Cub 2 splits visit 1 in the beat in which it believes cub 1 dead.
split_is : IsSplit plan r 2 viewer 1 121
split_is =
    let on : IsOn 350 350 2 121 = inl (inr (λ e. omega arith, omega arith)) in
    let time = time_is 121 in
    let way = time_is 2 in
    let visit = due_is 1 in
    record {
      reading = 1210000;
      tick = record {
        came = worked.came 2 121 (omega arith) on;
        low = omega arith;
        high = omega arith;
      };
      next = sym cub_2;
      believed = believed_by 0 350 350 one_run timed worked 121 (omega arith);
      beat = 2;
      entered = inl (took_in 0 350 350 one_run timed worked (inr (inr (refl, refl))));
      by = omega arith;
      since = λ x h le same. absurd ((none 0 350 350 one_run timed worked).reached 2 0 x h);
      soon = omega arith;
    }

-- So all laws of pieces are met.
pub pieces : PieceLaws plan r q
pieces = record {
  splits = λ {c} {t} {n} {b} h.
      let k = is_piece (Split c t n b) h in
      rw (k.0, k.1, k.2, k.3) split_is;
  spares = λ {c} {t} {n} {b} h. absurd (is_piece (Spared c t n b) h);
  mirrors = λ {a} {k = s} {t} {n} {j} {b} h.
      let k = is_piece (MirrorSent a s t n j b) h in
      rw (k.0, k.1, k.2, k.3, k.4, k.5) (inl (record { split = split_in; piece = refl; some = omega arith }));
  mirrored = λ {c} {t} {n} {j} {y} h.
      let k = is_piece (Mirrored c t n j y) h in
      rw (k.0, k.1, k.2, k.3, k.4) (record {
        from = 2;
        ahead = 1;
        beat = 121;
        sent = mirror_in;
        to = sym cub_3;
        later = omega arith;
        soon = omega arith;
      });
  late = λ {c} {t} {n} {j} {y} {w} h again le. absurd (nobody again);
  asks = λ {c} {t} {n} {j} {b} h.
      let k = is_piece (Asks c t n j b) h in
      rw k.0 (asks_there 0 350 350 one_run timed worked q w IsPart parts k.1);
  serves = λ {c} {t} {n} {j} {b} h.
      let k = is_piece (Serves c t n j b) h in
      rw k.0 (serves_there 0 350 350 one_run timed worked q w IsPart parts k.1);
  asked = λ {c} {t} {n} {j} {b} h.
      let k = is_piece (Serves c t n j b) h in
      rw k.0 (was_asked 0 350 350 one_run timed worked q w IsPart parts k.1);
  rising = λ {c} {a} {b} {l} {m} h k le. rising 0 350 350 one_run timed worked h k le;
  kills = λ {a} {t} {n} {x} {y} {b} h k l came le same.
      absurd ((none 0 350 350 one_run timed worked).reached a t.instance.0 y k);
  spare_kills = λ {a} {t} {n} {x} {y} h k l. absurd (is_piece (Spared a t n x) h);
  spare_killed = λ {a} {k = s} {c} {t} {n} {x} {y} {b} h kill to e u.
      absurd (is_piece (Spared a t n x) h);
  killed = λ {a} {k = s} {c} {t} {n} {j} {x} {y} {b} h kill to e u le.
      absurd (is_piece (KillSent a s t.instance.0 t.slot.0 n y) kill);
}
