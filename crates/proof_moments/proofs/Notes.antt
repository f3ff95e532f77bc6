-- Notes that carry a part of a block, and entries that send, get or ask for one.
use Rattle.std.proofs.Common.{◌≡◌, ℕ, ◌≤◌, true, false, refl, sym, ap, arith, ⊎_elim, inl, inr}
use Rattle.std.specs.Prelude.{◌==◌, ◌&&◌, ◌⊎◌}
use Rattle.std.proofs.lemmas.Bool.{cases_Bool, eqb-true, eq-eqb, ne_eqb}
use Rattle.tiger_base.specs.declared.number.LinkNo.{LinkNo}
use Rattle.tiger_base.specs.declared.part.Span.{Span}
use Rattle.tiger_base.specs.declared.tenancy.Want.{Want}
use Rattle.tiger_base.specs.declared.message.Note.{Note}
use Rattle.tiger_base.specs.declared.message.Note.TheVariants as note
use Rattle.node_kit.specs.declared.journal.What.{What}
use Rattle.node_kit.specs.declared.journal.What.TheVariants as what
use Rattle.run_facts.specs.Events.{Dated}
use Rattle.run_claims.specs.Deliveries.{carried_by, sent_by, got_by}
use Rattle.run_claims.specs.Visits.{asks_same}
use Rattle.run_model.proofs.Reflects.{and_left, and_right}
use Rattle.lists.specs.Elements.{In}
use Rattle.proof_moments.specs.ParcelTies.{parcel}

-- a note carries what is wanted, whole or as a piece
pub record IsPart (m : Note) (want : Want) : Type 0 where
  pub sent : ℕ
  pub part : Span
  pub is : (m ≡ note.Whole want sent part) ⊎ (m ≡ note.Piece want sent part)

pub whole_parcel : (want : Want) (sent : ℕ) (part : Span) → want.piece ≡ 0 → parcel want sent part ≡ note.Whole want
    sent part
whole_parcel want sent part e = let t : (want.piece == 0) ≡ true = eq-eqb _ _ e in rw t refl

pub piece_parcel : (want : Want) (sent : ℕ) (part : Span) → 1 ≤ want.piece → parcel want sent part ≡ note.Piece want
    sent part
piece_parcel want sent part l = let f : (want.piece == 0) ≡ false = ne_eqb _ _ (λ e. absurd (omega arith)) in rw f refl

pub numbered_parcel : (want : Want) (sent : ℕ) (part : Span) → (want.piece == 0) ≡ false
    → parcel want sent part ≡ note.Piece want sent part
numbered_parcel want sent part f = rw f refl

-- a parcel is such a note
pub parcel_is : (want : Want) (sent : ℕ) (part : Span) → IsPart (parcel want sent part) want
parcel_is want sent part = record {
  sent = sent;
  part = part;
  is = ⊎_elim
      (λ (t : (want.piece == 0) ≡ true). inl (whole_parcel want sent part (eqb-true _ _ t)))
      (λ (f : (want.piece == 0) ≡ false). inr (rw f refl))
      (cases_Bool (want.piece == 0));
}

-- what a note carries, with its beat
carried_is : (b : ℕ) (m : Note) (x : Dated Want) → In x (carried_by b m) → (x.beat ≡ b) × IsPart m x.item
carried_is b (note.Whole want sent part) x i = ⊎_elim
    (λ e. (
      ap (λ (d : Dated Want). d.beat) e,
      record {
        sent = sent;
        part = part;
        is = inl
            (ap (λ (d : Dated Want). note.Whole d.item sent part) (sym e));
      },
    ))
    (λ k. absurd k)
    i
carried_is b (note.Piece want sent part) x i = ⊎_elim
    (λ e. (
      ap (λ (d : Dated Want). d.beat) e,
      record {
        sent = sent;
        part = part;
        is = inr
            (ap (λ (d : Dated Want). note.Piece d.item sent part) (sym e));
      },
    ))
    (λ k. absurd k)
    i
carried_is b other x i = absurd i

-- what an entry sends, or gets, of what is carried
pub record IsPassage (Says : LinkNo → Note → Type 0) (want : Want) : Type 0 where
  pub link : LinkNo
  pub note : Note
  pub says : Says link note
  pub carries : IsPart note want

pub sent_is : (b : ℕ) (v : What) (x : Dated Want) → In x (sent_by b v) → (x.beat ≡ b)
    × IsPassage (λ link m. v ≡ what.Sent link m) x.item
sent_is b (what.Sent link m) x i = let k = carried_is b m x i in
    (k.0, record { link = link; note = m; says = refl; carries = k.1 })
sent_is b other x i = absurd i

pub got_is : (b : ℕ) (v : What) (x : Dated Want) → In x (got_by b v) → (x.beat ≡ b)
    × IsPassage (λ link m. v ≡ what.Got link m) x.item
got_is b (what.Got link m) x i = let k = carried_is b m x i in
    (k.0, record { link = link; note = m; says = refl; carries = k.1 })
got_is b other x i = absurd i

-- an entry that asks for the same piece of a visit of a slot
pub record AsksSame (want : Want) (v : What) : Type 0 where
  pub link : LinkNo
  pub other : Want
  pub is : v ≡ what.Sent link (note.ReadAsk other)
  pub slot : other.slot.0 ≡ want.slot.0
  pub visit : other.visit ≡ want.visit
  pub piece : other.piece ≡ want.piece

pub asks_same_is : (want : Want) (v : What) → asks_same want v ≡ true → AsksSame want v
asks_same_is want (what.Sent link (note.ReadAsk w)) e =
    let two = and_left ((w.slot.0 == want.slot.0) && (w.visit == want.visit)) (w.piece == want.piece) e in
    record {
      link = link;
      other = w;
      is = refl;
      slot = eqb-true _ _ (and_left (w.slot.0 == want.slot.0) (w.visit == want.visit) two);
      visit = eqb-true _ _ (and_right (w.slot.0 == want.slot.0) (w.visit == want.visit) two);
      piece = eqb-true _ _ (and_right ((w.slot.0 == want.slot.0) && (w.visit == want.visit)) (w.piece == want.piece) e);
    }
asks_same_is want (what.Sent link other) e = absurd (cc)
asks_same_is want other e = absurd (cc)
