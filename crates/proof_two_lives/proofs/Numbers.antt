-- What cubs ask for and serve of whole blocks and of pieces they ask for and serve of all.
use Rattle.std.proofs.Common.{◌≡◌, ℕ, zero, suc, ◌≤◌, refl, arith}
use Rattle.slot_plan.specs.declared.params.Params.{Params}
use Rattle.stripe_layout.specs.declared.catalogue.Catalogue.{Catalogue}
use Rattle.proof_schedule.specs.Facts.{Facts}
use Rattle.proof_pieces.specs.PieceFacts.{PieceFacts}
use Rattle.proof_service.specs.ServiceFacts.{ServiceFacts}
use Rattle.proof_two_lives.specs.Laws.{ReadLaws}

-- A number is that of the whole block, or of a mirror piece.
either : {A : Type 0} (j : ℕ) → (j ≡ 0 → A) → (1 ≤ j → A) → A
either zero whole piece = whole refl
either (suc j) whole piece = piece (omega arith)

module _ {p : Params} {catalogue : Catalogue} {r : Facts} {q : PieceFacts} {w : ServiceFacts}
    {Here : ℕ → ℕ → Type 0} (whole : ReadLaws p catalogue r q w Here (λ j. j ≡ 0))
    (piece : ReadLaws p catalogue r q w Here (λ j. 1 ≤ j)) where
  pub all_reads : ReadLaws p catalogue r q w Here (λ j. Unit)
  all_reads = record {
    asks = λ {c} {t} {n} {j} {b} any a.
        either j (λ is. whole.asks is a) (λ is. piece.asks is a);
    serves = λ {c} {t} {n} {j} {b} any a.
        either j (λ is. whole.serves is a) (λ is. piece.serves is a);
    asked = λ {c} {t} {n} {j} {b} any a.
        either j (λ is. whole.asked is a) (λ is. piece.asked is a);
    may_serve = λ {c} {t} {n} {j} {b} any a.
        either j (λ is. whole.may_serve is a) (λ is. piece.may_serve is a);
    asks_due = λ {c} {t} {n} {j} {b} {l} any a here tick early soon may.
        either j
        (λ is. whole.asks_due is a here tick early soon may)
        (λ is. piece.asks_due is a here tick early soon may);
    answers = λ {c} {t} {n} {j} {b} {e} any a came late.
        either j
        (λ is. whole.answers is a came late)
        (λ is. piece.answers is a came late);
    serves_due = λ {c} {t} {n} {j} {y} {b} {l} any a by tick may past fresh undue.
        either j
        (λ is. whole.serves_due is a by tick may past fresh undue)
        (λ is. piece.serves_due is a by tick may past fresh undue);
    failed = λ {k} {t} {n} {j} {y} any a.
        either j (λ is. whole.failed is a) (λ is. piece.failed is a);
    refused = λ {k} {t} {n} {j} {y} any a.
        either j (λ is. whole.refused is a) (λ is. piece.refused is a);
    sends = λ {k} {t} {n} {j} {y} {part} any a.
        either j (λ is. whole.sends is a) (λ is. piece.sends is a);
  }
