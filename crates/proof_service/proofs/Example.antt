-- The facts of the worked run with a death meet the laws of blocks.
use Rattle.std.proofs.Common.{◌≡◌, ℕ, ◌+◌, ◌-◌, ◌*◌, ◌<◌, ◌≤◌, refl, sym, ap, subst, ◌∙◌, arith, ⊎_elim, inl, inr}
use Rattle.std.specs.Prelude.{◌⊎◌}
use Rattle.std.specs.List.{AllByRecursion, Contains}
use Rattle.std.proofs.lemmas.List.Elements.{All-from_recursion, All-contains}
use Rattle.tiger_base.specs.declared.part.Span.{Span}
use Rattle.tiger_base.specs.declared.tenancy.Tenancy.{Tenancy}
use Rattle.slot_plan.specs.Times.{due, cub_of}
use Rattle.proof_schedule.specs.Facts.{BelievedBy, EnteredBy, Entered, IsSameLife}
use Rattle.proof_schedule.specs.Logs.{Inserted, Took, Believed}
use Rattle.proof_pieces.specs.PieceFacts.{leave, Arises}
use Rattle.proof_pieces.specs.PieceLogs.{Split, Spared, MirrorSent, Mirrored, Asks}
use Rattle.proof_service.specs.Blocks.{LeftInTime}
use Rattle.proof_service.specs.Example.{plan, viewer, bytes, one_run, its_blocks, IsAwaited, IsMetWithDeath}
use Rattle.proof_service.specs.ServiceFacts.{ArisesBy, AsksInLife, SplitBy}
use Rattle.proof_service.specs.ServiceLaws.{ServiceLaws}
use Rattle.proof_service.specs.ServiceLogs.{ServiceFact, Stored, Failed, Sends, Struck, Killed, TookBack}
use Rattle.proof_service.proofs.ExampleFacts.{IsOn}
use Rattle.proof_service.proofs.ExampleLives.{goes_on}
use Rattle.proof_service.proofs.ExampleLog.{r, worked, timed}
use Rattle.proof_service.proofs.ExampleParts.{tick_is, watches, heard_from, answered, sent_then, left_in_time}
use Rattle.proof_service.proofs.ExamplePieces.{IsPart, is_piece, q, w, split_in, mirror_in, mirrored_in, cub_3, nobody, parts, pieces}
use Rattle.proof_service.proofs.ExamplePlan.{plan_is, time_is, due_is}
use Rattle.proof_service.proofs.ExampleSchedule.{entered_its, none, put_in, laws}

-- What is sent of block 0, and of the pieces of block 1, and which bytes.
abbrev pub IsSent : ℕ → ℕ → ℕ → ℕ → Span → Type 0
IsSent c n j b part = ((c ≡ 0) × (n ≡ 0) × (j ≡ 0) × (b ≡ 50) × (part ≡ bytes 0 4))
    ⊎ (((c ≡ 2) × (n ≡ 1) × (j ≡ 1) × (b ≡ 150) × (part ≡ bytes 4 2))
    ⊎ ((c ≡ 3) × (n ≡ 1) × (j ≡ 2) × (b ≡ 200) × (part ≡ bytes 6 2)))

-- Each fact about blocks is one of these.
abbrev pub IsBlock : ServiceFact → Type 0
IsBlock (Stored c t n j b) = (t ≡ viewer) × IsPart c n j (b + 8)
IsBlock (Failed c t n j b) = ⊥
IsBlock (Sends c t n j b part) = (t ≡ viewer) × IsSent c n j b part
IsBlock (Struck disk b) = ⊥
IsBlock (Killed c v n b) = ⊥
IsBlock (TookBack c from b) = ⊥

-- Each fact of the list is one of them.
list_is : AllByRecursion IsBlock its_blocks
list_is = (
  (refl, inl (refl, refl, refl, refl)),
  (
    (refl, inl (refl, refl, refl, refl, refl)),
    (
      (refl, inr (inl (refl, refl, refl, refl))),
      (
        (refl, inr (inl (refl, refl, refl, refl, refl))),
        (
          (refl, inr (inr (refl, refl, refl, refl))),
          ((refl, inr (inr (refl, refl, refl, refl, refl))), tt),
        ),
      ),
    ),
  ),
)

-- So each that the list has is.
pub is_block : (f : ServiceFact) → Contains its_blocks f → IsBlock f
is_block f h = All-contains IsBlock its_blocks f (All-from_recursion IsBlock its_blocks list_is) h

-- A record of a visit at the next cub is of visit 1, at cub 2, if that believes.
split_due : {c n b : ℕ} {t : Tenancy} → BelievedBy r c b → EnteredBy r c t n b
    → c ≡ cub_of plan (n + 1) → SplitBy q c t n b
split_due {c} {n} {b} {t} believed h next =
    let k = worked.its (Believed c believed.beat) believed.believed in
    let two = k.0 in
    let when = k.1 in
    let by = believed.by in
    let same = entered_its 0 350 350 one_run timed worked h.entered in
    let late : 121 ≤ b = omega arith in
    let visit : n ≡ 1 = ⊎_elim
    (λ e. ⊎_elim
    (λ u. let one = u.0 in absurd (omega arith))
    (λ o. ⊎_elim (λ u. u.1) (λ u. u.1) o)
    (worked.its (Took c t n h.beat) e).2)
    (λ e. let zero_cub = (worked.its (Inserted c t n h.beat) e).0 in absurd (omega arith))
    h.entered in
    rw (two, same, visit) (record { beat = 121; split = split_in; by = late })

-- All beats are of a cub's one life.
same_life : (c x b : ℕ) → IsSameLife r c x b
same_life c x b = λ y back le. absurd (nobody back)

-- What is there and leaves within the read lead was asked for in the first beat in which it did.
asks_due : {c n j b l : ℕ} {t : Tenancy} → ArisesBy r q c t n j b → c ≡ cub_of plan (n + j)
    → r.Ticked c b l → leave plan t n j ≤ l + 100000 → AsksInLife r q c t n j b
asks_due {c} {n} {j} {b} {l} {t} h here up soon =
    let tick = tick_is 0 350 350 one_run timed worked up in
    let reading = tick.2 in
    let k = its_part tick.1 (omega arith) h.arises here in
    let leaves = (parts.sent k.2).leaves in
    let late = k.3 in
    let whole = subst (λ v. leave plan v n j ≤ b * 10000 + 100000) k.0 (omega arith) in
    rw k.0 (record {
      beat = k.1 - 10;
      asks = parts.asked k.2;
      by = omega arith;
      life = same_life c (k.1 - 10) b;
    })
  where
    -- Each record that is there is that of a part that is sent, unless its cub died.
    its_part : {c n j b e : ℕ} {t : Tenancy} → IsOn 350 350 c b
        → leave plan t n j ≤ b * 10000 + 100000 → Arises r q c t n j e → c ≡ cub_of plan (n + j)
        → (t ≡ viewer) × (s : ℕ) × IsPart c n j s × (50 ≤ s)
    its_part {c} {n} {j} {b} {e} {t} on soon arises here = ⊎_elim
        (λ a.
        let same = entered_its 0 350 350 one_run timed worked a.1 in
        let sum : n + j ≡ n = (let z = a.0 in omega arith) in
        let own = here ∙ ap (λ v. cub_of plan v) sum in
        let whole : due plan 1 n ≤ b * 10000 + 100000 =
        subst (λ v. leave plan viewer n v ≤ b * 10000 + 100000) a.0
        (subst (λ v. leave plan v n j ≤ b * 10000 + 100000) same soon) in
        let entered = subst (λ v. Entered r c v n e) same a.1 in
        let k = own_part on whole entered own in
        (same, k.0, subst (λ v. IsPart c n v k.0) (sym a.0) k.1, k.2))
        (λ o. ⊎_elim
        (λ a.
        let k = is_piece (Split c t n e) a.1 in
        (k.1, 150, inr (inl (k.0, k.2, a.0, refl)), omega arith))
        (λ a.
        let k = is_piece (Mirrored c t n j e) a in
        (k.1, 200, inr (inr (k.0, k.2, k.3, refl)), omega arith))
        o)
        arises
      where
        -- Of the own records cub 1's is not used, since it is dead.
        own_part : {c n b e : ℕ} → IsOn 350 350 c b → due plan 1 n ≤ b * 10000 + 100000
            → Entered r c viewer n e → c ≡ cub_of plan n
            → (s : ℕ) × IsPart c n 0 s × (50 ≤ s)
        own_part {c} {n} {b} {e} on soon h own = ⊎_elim
            (λ k. ⊎_elim
            (λ a.
            let zero_cub : c ≡ 0 = own ∙ ap (λ v. cub_of plan v) a.1 ∙ timed.first_cub in
            let one = a.0 in
            absurd (omega arith))
            (λ o. ⊎_elim
            (λ a.
            let visit = due_is n in
            let one = a.0 in
            let second = a.1 in
            absurd (⊎_elim
            (λ f. ⊎_elim (λ u. let l = u.1 in omega arith) (λ u. u.0 one) f)
            (λ u. let low = u.1 in let high = u.2 in omega arith)
            on))
            (λ a.
            let one_cub : c ≡ 1 = own ∙ ap (λ v. cub_of plan v) a.1 ∙ timed.second_cub in
            let two = a.0 in
            absurd (omega arith))
            o)
            (worked.its (Took c viewer n e) k).2)
            (λ k.
            let o = worked.its (Inserted c viewer n e) k in
            (50, inl (o.0, o.2, refl, refl), omega arith))
            h

-- So all laws of blocks are met.
blocks : ServiceLaws plan r q w 349
blocks = record {
  ends = λ {c} {b} l small. goes_on 0 350 350 one_run timed worked c b small (omega arith);
  returns_once = λ {c} {x} {y} h k. absurd (nobody h);
  returns_ended = λ {c} {x} h. absurd (nobody h);
  stays = λ {c} {x} {b} h low l. absurd (nobody h);
  back_arrives = λ {d} {x} {l} c b h tick next came same late. absurd (nobody h);
  back_from = λ {c} {d} {from} {y} h small next. absurd (is_block (TookBack c from y) h);
  left = λ {c} {t} {n} {b} h from y took le. absurd (is_block (TookBack c from y) took);
  may_serve = λ {c} {t} {n} {j} {b} h x l back tick le whole. absurd (nobody back);
  unread = λ {c} {d} {t} {n} {x} {b} h k. absurd (is_piece (Spared c t n x) h);
  watches = λ {c} {b} {l} h always. watches 0 350 350 one_run timed worked h;
  heard_from = λ {c} {d} {y} h small next. heard_from 0 350 350 one_run timed worked h small next;
  split_due = λ {c} {t} {n} {b} {l} believed h next up always left soon.
      inl (split_due believed h next);
  mirrors_due = λ {c} {t} {n} {b} {l} m h up some few.
      let k = is_piece (Split c t n b) h in
      let one : m ≡ 1 = omega arith in
      rw (k.0, k.1, k.2, k.3, one) mirror_in;
  mirror_arrives = λ {a} {k = m} {t} {n} {j} {x} c b h to here up same lets late.
      let k = is_piece (MirrorSent a m t n j x) h in
      let when = k.5 in
      let sum : a + m ≡ 3 = (let two = k.0 in let one = k.1 in omega arith) in
      let three : c ≡ 3 = to ∙ ap (λ v. cub_of plan v) sum ∙ cub_3 in
      inl (rw (three, k.2, k.3, k.4) (record {
        beat = 122;
        arises = inr (inr mirrored_in);
        by = omega arith;
        life = same_life 3 122 (x + 2);
      }));
  asks_due = λ {c} {t} {n} {j} {b} {l} h here up undue soon may. inl (asks_due h here up soon);
  answers = λ {c} {t} {n} {j} {b} {e} h up same late.
      let k = is_piece (Asks c t n j b) h in
      rw k.0 (answered 0 350 350 one_run timed worked q w IsPart parts k.1);
  serves_due = λ {c} {t} {n} {j} {y} {b} {l} h le up same may past short u.
      let k = is_block (Stored c t n j y) h in
      let then = sent_then 0 350 350 one_run timed worked q w IsPart parts in
      inl (rw k.0 (then k.1 up (rw (sym k.0) past) (rw (sym k.0) u)));
  killed = λ {c} {v} {n} {y} h. absurd (is_block (Killed c v n y) h);
}

-- Both visits are settled, and no instance was stopped.
awaited : (n : ℕ) → n ≤ 1 → IsAwaited n
awaited n few =
    let visit = due_is n in
    let time = time_is 350 in
    record {
      settled = omega arith;
      unstopped = λ z h. absurd ((none 0 350 350 one_run timed worked).gone 0 z h);
    }

-- Each part comes in time.
left : {c n j s : ℕ} → IsPart c n j s → s + 2 < 349 → LeftInTime plan q 349 c viewer n j
left k before = left_in_time 0 350 350 one_run timed worked q w IsPart parts 349 k before

-- So the laws are met with a death.
pub met_with_death : IsMetWithDeath
met_with_death = record {
  plan_is = plan_is;
  laws = laws 0 350 350 one_run timed worked;
  pieces = pieces;
  blocks = blocks;
  put = put_in 0 350 350 one_run timed worked;
  awaited = awaited;
  whole = left {s = 50} (inl (refl, refl, refl, refl)) (omega arith);
  first_piece = left {s = 150} (inr (inl (refl, refl, refl, refl))) (omega arith);
  second_piece = left {s = 200} (inr (inr (refl, refl, refl, refl))) (omega arith);
}
