-- The facts of the worked run with a return meet the laws of blocks: so all laws can be met.
use Rattle.std.proofs.Common.{◌≡◌, ℕ, ◌+◌, ◌-◌, ◌*◌, ◌<◌, ◌≤◌, refl, sym, ap, subst, ◌∙◌, arith, ⊎_elim, inl, inr}
use Rattle.std.specs.List.{AllByRecursion, Contains}
use Rattle.std.proofs.lemmas.List.Elements.{All-from_recursion, All-contains}
use Rattle.tiger_base.specs.declared.tenancy.Tenancy.{Tenancy}
use Rattle.slot_plan.specs.Times.{due, cub_of}
use Rattle.proof_schedule.specs.Facts.{BelievedBy, EnteredBy, Entered}
use Rattle.proof_schedule.specs.Logs.{Inserted, Took, Believed}
use Rattle.proof_pieces.specs.PieceFacts.{leave}
use Rattle.proof_pieces.specs.PieceLogs.{Split, Spared, MirrorSent, Mirrored, Asks, Serves}
use Rattle.proof_service.specs.Blocks.{LeftInTime}
use Rattle.proof_service.specs.Example.{plan}
use Rattle.proof_service.specs.ReturnExample.{viewer, one_run, its_blocks, IsAwaited, IsMetWithReturn, LawsCanBeMet}
use Rattle.proof_service.specs.ServiceFacts.{ArisesBy, AsksInLife, IsLeftTo, serves_from}
use Rattle.proof_service.specs.ServiceLaws.{ServiceLaws}
use Rattle.proof_service.specs.ServiceLogs.{ServiceFact, Stored, Failed, Sends, Struck, Killed, TookBack}
use Rattle.proof_service.proofs.Example.{met_with_death}
use Rattle.proof_service.proofs.ExampleLives.{back_is, same_since, goes_on}
use Rattle.proof_service.proofs.ExampleParts.{tick_is, back_ended, watches, heard_from, answered, sent_then, left_in_time}
use Rattle.proof_service.proofs.ExamplePlan.{time_is, due_is, cub_2, one_before}
use Rattle.proof_service.proofs.ExampleSchedule.{entered_its, none, put_in, laws}
use Rattle.proof_service.proofs.ReturnLog.{r, worked, timed}
use Rattle.proof_service.proofs.ReturnPieces.{IsPart, is_piece, q, w, parts, pieces}

-- Each fact about blocks is one of these.
abbrev IsBlock : ServiceFact → Type 0
IsBlock (Stored c t n j b) = (t ≡ viewer) × IsPart c n j (b + 8)
IsBlock (Failed c t n j b) = ⊥
IsBlock (Sends c t n j b part) = (t ≡ viewer) × IsPart c n j b
IsBlock (Struck disk b) = ⊥
IsBlock (Killed c v n b) = ⊥
IsBlock (TookBack c from b) = (c ≡ 2) × (from ≡ 10600000) × (b ≡ 61)

-- Each fact of the list is one of them.
list_is : AllByRecursion IsBlock its_blocks
list_is = (
  (refl, inl (refl, refl, refl, refl)),
  (
    (refl, inl (refl, refl, refl, refl)),
    (
      (refl, inr (refl, refl, refl, refl)),
      (
        (refl, inr (refl, refl, refl, refl)),
        ((refl, refl, refl), tt),
      ),
    ),
  ),
)

-- So each that the list has is.
is_block : (f : ServiceFact) → Contains its_blocks f → IsBlock f
is_block f h = All-contains IsBlock its_blocks f (All-from_recursion IsBlock its_blocks list_is) h

-- Cub 2 was told that cub 1 is back,
took_in : w.TookBack 2 10600000 61
took_in = (4, omega arith, refl)

-- and that is.
returned_in : r.Returned 1 60
returned_in = worked.returned (omega arith)

-- Cub 1 came back in beat 60, at a reading of 600000.
back_at : {c x l : ℕ} → r.Returned c x → r.Ticked c x l
    → (c ≡ 1) × (x ≡ 60) × (serves_from plan l ≡ 10600000)
back_at {c} {x} {l} back h =
    let k = back_is 16 1950 60 one_run timed worked back in
    let when = k.1 in
    let reading = (tick_is 16 1950 60 one_run timed worked h).2 in
    (k.0, k.1, omega arith)

-- A record of a visit at the next cub, if that believes, is of visit 17, at cub 2: it is not left
-- to that, since cub 1 is back.
not_left : {c n b : ℕ} {t : Tenancy} → BelievedBy r c b → EnteredBy r c t n b
    → c ≡ cub_of plan (n + 1) → IsLeftTo plan w c t n b → ⊥
not_left {c} {n} {b} {t} believed h next left =
    let two = (worked.its (Believed c believed.beat) believed.believed).0 in
    let same = entered_its 16 1950 60 one_run timed worked h.entered in
    let by = h.by in
    let at : (n ≡ 17) × (h.beat ≡ 1602) = ⊎_elim
    (λ e.
    let o = worked.its (Took c t n h.beat) e in
    let which = ⊎_elim
    (λ u. let one = u.0 in absurd (omega arith))
    (λ u. ⊎_elim (λ v. v.1) (λ v. v.1) u)
    o.2 in
    (which, o.1))
    (λ e. let zero_cub = (worked.its (Inserted c t n h.beat) e).0 in absurd (omega arith))
    h.entered in
    let visit = at.0 in
    let when = at.1 in
    let due_then = due_is 17 in
    let first : t.first ≡ 16 = ap (λ (x : Tenancy). x.first) same in
    let slot : due plan t.slot.0 n ≡ due plan 1 17 =
    ap (λ (x : Tenancy). due plan x.slot.0 n) same ∙ ap (λ x. due plan 1 x) visit in
    ⊎_elim
    (λ early. omega arith)
    (λ e. omega arith)
    (left 10600000 61 (subst (λ x. w.TookBack x 10600000 61) (sym two) took_in) (omega arith))

-- What is there and leaves within the read lead was asked for in the first beat in which it did.
asks_due : {c n j b l : ℕ} {t : Tenancy} → ArisesBy r q c t n j b → c ≡ cub_of plan (n + j)
    → r.Ticked c b l → leave plan t n j ≤ l + 100000 → AsksInLife r q c t n j b
asks_due {c} {n} {j} {b} {l} {t} h here up soon = ⊎_elim
    (λ a.
    let reading = (tick_is 16 1950 60 one_run timed worked up).2 in
    let same = entered_its 16 1950 60 one_run timed worked a.1 in
    let sum : n + j ≡ n = (let z = a.0 in omega arith) in
    let own = here ∙ ap (λ v. cub_of plan v) sum in
    let k = its_part (subst (λ v. Entered r c v n h.beat) same a.1) own in
    let leaves = (parts.sent k.1).leaves in
    let whole : leave plan viewer n 0 ≤ b * 10000 + 100000 =
    subst (λ v. leave plan viewer n v ≤ b * 10000 + 100000) a.0
    (subst (λ v. leave plan v n j ≤ b * 10000 + 100000) same (omega arith)) in
    let late = k.2 in
    rw (same, a.0) (record {
      beat = k.0 - 10;
      asks = parts.asked k.1;
      by = omega arith;
      life = same_since 16 1950 60 one_run timed worked c (k.0 - 10) b (omega arith);
    }))
    (λ o. absurd (⊎_elim
    (λ a. is_piece (Split c t n h.beat) a.1)
    (λ a. is_piece (Mirrored c t n j h.beat) a)
    o))
    h.arises
  where
    -- Each own record is that of a block that is sent.
    its_part : {c n e : ℕ} → Entered r c viewer n e → c ≡ cub_of plan n
        → (s : ℕ) × IsPart c n 0 s × (1650 ≤ s)
    its_part {c} {n} {e} h own = ⊎_elim
        (λ k. ⊎_elim
        (λ a.
        let zero_cub : c ≡ 0 = own ∙ ap (λ v. cub_of plan v) a.1 ∙ timed.first_cub in
        let one = a.0 in
        absurd (omega arith))
        (λ o. ⊎_elim
        (λ a. (1750, inr (a.0, a.1, refl, refl), omega arith))
        (λ a.
        let one_cub : c ≡ 1 = own ∙ ap (λ v. cub_of plan v) a.1 ∙ timed.second_cub in
        let two = a.0 in
        absurd (omega arith))
        o)
        (worked.its (Took c viewer n e) k).2)
        (λ k.
        let o = worked.its (Inserted c viewer n e) k in
        (1650, inl (o.0, o.2, refl, refl), omega arith))
        h

-- So all laws of blocks are met.
blocks : ServiceLaws plan r q w 1949
blocks = record {
  ends = λ {c} {b} l small. goes_on 16 1950 60 one_run timed worked c b small (omega arith);
  returns_once = λ {c} {x} {y} h k.
      let o = (back_is 16 1950 60 one_run timed worked h).1 in
      let u = (back_is 16 1950 60 one_run timed worked k).1 in
      omega arith;
  returns_ended = λ {c} {x} h.
      let when = (back_is 16 1950 60 one_run timed worked h).1 in
      back_ended 16 1950 60 one_run timed worked h (omega arith) (omega arith);
  stays = λ {c} {x} {b} h low l.
      back_ended 16 1950 60 one_run timed worked h low (omega arith);
  back_arrives = λ {d} {x} {l} c b h tick next came same late.
      let o = back_at h tick in
      let when = o.1 in
      let two : c ≡ 2 = next ∙ ap (λ y. cub_of plan (y + 1)) o.0 ∙ cub_2 in
      record { beat = 61; took = rw (two, o.2) took_in; by = omega arith };
  back_from = λ {c} {d} {from} {y} h small next.
      let k = is_block (TookBack c from y) h in
      let when = k.2 in
      let one : 1 ≡ d = one_before 1 d (omega arith) small (cub_2 ∙ sym k.0 ∙ next) in
      let low : 60 ≤ 60 = omega arith in
      let o = back_ended 16 1950 60 one_run timed worked returned_in low (omega arith) in
      rw (sym one, k.1) (record {
        beat = 60;
        returned = returned_in;
        reading = o.reading;
        ticked = o.ticked;
        is_from = sym (back_at returned_in o.ticked).2;
        later = omega arith;
      });
  left = λ {c} {t} {n} {b} h. absurd (is_piece (Split c t n b) h);
  may_serve = λ {c} {t} {n} {j} {b} h x l back tick le whole.
      let k = is_piece (Serves c t n j b) h in
      let o = back_at back tick in
      let one = o.0 in
      let from = o.2 in
      let visit = due_is 17 in
      let at : n ≡ 17 = ⊎_elim (λ e. let z = e.0 in absurd (omega arith)) (λ e. e.1) k.1 in
      let due_then : due plan t.slot.0 n ≡ due plan 1 17 =
      ap (λ (x : Tenancy). due plan x.slot.0 n) k.0 ∙ ap (λ x. due plan 1 x) at in
      omega arith;
  unread = λ {c} {d} {t} {n} {x} {b} h k. absurd (is_piece (Spared c t n x) h);
  watches = λ {c} {b} {l} h always. watches 16 1950 60 one_run timed worked h;
  heard_from = λ {c} {d} {y} h small next.
      heard_from 16 1950 60 one_run timed worked h small next;
  split_due = λ {c} {t} {n} {b} {l} believed h next up always left soon.
      absurd (not_left believed h next left);
  mirrors_due = λ {c} {t} {n} {b} {l} m h up some few. absurd (is_piece (Split c t n b) h);
  mirror_arrives = λ {a} {k = m} {t} {n} {j} {x} c b h to here up same lets late.
      absurd (is_piece (MirrorSent a m t n j x) h);
  asks_due = λ {c} {t} {n} {j} {b} {l} h here up undue soon may. inl (asks_due h here up soon);
  answers = λ {c} {t} {n} {j} {b} {e} h up same late.
      let k = is_piece (Asks c t n j b) h in
      rw k.0 (answered 16 1950 60 one_run timed worked q w IsPart parts k.1);
  serves_due = λ {c} {t} {n} {j} {y} {b} {l} h le up same may past short u.
      let k = is_block (Stored c t n j y) h in
      let then = sent_then 16 1950 60 one_run timed worked q w IsPart parts in
      inl (rw k.0 (then k.1 up (rw (sym k.0) past) (rw (sym k.0) u)));
  killed = λ {c} {v} {n} {y} h. absurd (is_block (Killed c v n y) h);
}

-- Both visits are settled, and no instance was stopped.
awaited : (n : ℕ) → n ≤ 17 → IsAwaited n
awaited n few =
    let visit = due_is n in
    let time = time_is 1950 in
    record {
      settled = omega arith;
      unstopped = λ z h. absurd ((none 16 1950 60 one_run timed worked).gone 0 z h);
    }

-- Each block comes in time.
left : {c n j s : ℕ} → IsPart c n j s → s + 2 < 1949 → LeftInTime plan q 1949 c viewer n j
left k before = left_in_time 16 1950 60 one_run timed worked q w IsPart parts 1949 k before

-- So the laws can be met with a return,
met_with_return : IsMetWithReturn
met_with_return = record {
  laws = laws 16 1950 60 one_run timed worked;
  pieces = pieces;
  blocks = blocks;
  put = put_in 16 1950 60 one_run timed worked;
  returned = returned_in;
  awaited = awaited;
  first_block = left {s = 1650} (inl (refl, refl, refl, refl)) (omega arith);
  second_block = left {s = 1750} (inr (refl, refl, refl, refl)) (omega arith);
}

-- and with a death.
pub laws_met : LawsCanBeMet
laws_met = record { with_death = met_with_death; with_return = met_with_return }
