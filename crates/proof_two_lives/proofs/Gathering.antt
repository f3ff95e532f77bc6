-- The laws of single nodes and links of all lives, gathered from those of first lives and of later ones.
use Rattle.std.proofs.Common.{◌≡◌, ℕ, ◌+◌, ◌≤◌, sym, ◌∙◌, arith, ⊎_elim, inl, inr}
use Rattle.std.specs.Prelude.{◌⊎◌}
use Rattle.tiger_base.specs.declared.tenancy.Tenancy.{Tenancy}
use Rattle.slot_plan.specs.declared.params.Params.{Params}
use Rattle.slot_plan.specs.Conditions.{IsPlan}
use Rattle.slot_plan.specs.Times.{cub_of}
use Rattle.slot_plan.proofs.Times.{cub_below, cub_ahead}
use Rattle.stripe_layout.specs.declared.catalogue.Catalogue.{Catalogue}
use Rattle.proof_schedule.specs.Facts.{Facts, BelievedBy, EnteredBy, IsFirstLife}
use Rattle.proof_schedule.specs.Laws.{Laws}
use Rattle.proof_pieces.specs.PieceFacts.{PieceFacts}
use Rattle.proof_pieces.specs.PieceLaws.{PieceLaws, IsSpareMirror, MirrorSince}
use Rattle.proof_service.specs.Disks.{DiskLaws, IsRefused}
use Rattle.proof_service.specs.Files.{AreOfFiles}
use Rattle.proof_service.specs.ServiceFacts.{ServiceFacts, IsLeftTo}
use Rattle.proof_service.specs.ServiceLaws.{ServiceLaws, WasReached}
use Rattle.proof_two_lives.specs.Laws.{CubLaws, KillBefore, ReadLaws}
use Rattle.proof_two_lives.specs.Statements.{AreUp, LawsOfParts, ScheduleOfLives, ServiceOfLives}
use Rattle.proof_two_lives.specs.TwoLives.{BesideFacts, CameBackBy, beside, beside_blocks, joined_facts, joined_blocks, joined_pieces, with_beside}
use Rattle.proof_two_lives.proofs.Cubs.{cub_laws, laws_of}
use Rattle.proof_two_lives.proofs.Forward.{reached_of}
use Rattle.proof_two_lives.proofs.Joined.{first_life, later_life}
use Rattle.proof_two_lives.proofs.JoinedPieces.{first_blocks, first_pieces, later_blocks, later_pieces}
use Rattle.proof_two_lives.proofs.Numbers.{all_reads}
use Rattle.proof_two_lives.proofs.OneLife.{IsOneLife, in_first_life, kept_entered}
use Rattle.proof_two_lives.proofs.PiecesOf.{AreBlocksOfOne, ArePiecesOfOne, left_to_of, split_by_of}
use Rattle.proof_two_lives.proofs.Serving as serving

module _ {p : Params} {r s : Facts} {First Later : ℕ → ℕ → Type 0}
    (given : ScheduleOfLives p r s First Later) where
  pub cubs : CubLaws p (joined_facts r s)
  cubs = cub_laws p r s given.two.firsts given.two.laters given.first given.later

  pub schedule : Laws p (joined_facts r s)
  schedule = laws_of given.ring cubs

  -- Who came to a tick in its first life came in that one, and so in its later one.
  in_first : (c b : ℕ) → r.Came c b → IsFirstLife r c b → First c b
  in_first c b came here = ⊎_elim
      (λ a. a)
      (λ a.
      let k = given.two.in_later c b a in
      let by = k.by in
      let after = here k.beat k.returned in
      absurd (omega arith))
      (given.two.came c b came)

  in_later : (c b : ℕ) → r.Came c b → CameBackBy r c b → Later c b
  in_later c b came here = ⊎_elim
      (λ a.
      let by = here.by in
      let after = given.two.in_first c b a here.beat here.returned in
      absurd (omega arith))
      (λ a. a)
      (given.two.came c b came)

module _ {p : Params} {catalogue : Catalogue} {r s : Facts} {q o : PieceFacts}
    {w u : ServiceFacts} {x : BesideFacts} {First Later : ℕ → ℕ → Type 0}
    (given : ServiceOfLives p catalogue r s q o w u x First Later) where
  abbrev J : Facts
  J = joined_facts r s

  abbrev K : PieceFacts
  K = with_beside (joined_pieces q o) x

  abbrev Z : ServiceFacts
  Z = joined_blocks w u

  abbrev f : IsOneLife r J (IsFirstLife r)
  f = first_life given.schedule.two.firsts given.schedule.two.laters

  abbrev g : IsOneLife s J (CameBackBy r)
  g = later_life given.schedule.two.firsts given.schedule.two.laters

  abbrev fq : ArePiecesOfOne q K J (IsFirstLife r)
  fq = first_pieces s x given.pieces

  abbrev gq : ArePiecesOfOne o K J (CameBackBy r)
  gq = later_pieces s x given.pieces

  once : (c x y : ℕ) → r.Returned c x → r.Returned c y → y ≡ x
  once c x y a b = given.returns.returns_once a b

  abbrev fw : AreBlocksOfOne w Z J (IsFirstLife r)
  fw = first_blocks s given.blocks once

  abbrev gw : AreBlocksOfOne (beside_blocks w u) Z J (CameBackBy r)
  gw = later_blocks s given.blocks once

  abbrev at_first : (c b : ℕ) → J.Came c b → IsFirstLife r c b → First c b
  at_first c b came here = in_first given.schedule c b came here

  abbrev at_later : (c b : ℕ) → J.Came c b → CameBackBy r c b → Later c b
  at_later c b came here = in_later given.schedule c b came here

  abbrev fr : ReadLaws p catalogue r q w First (λ j. Unit)
  fr = all_reads given.first.whole given.first.parts

  abbrev gr : ReadLaws p catalogue (beside r s) o (beside_blocks w u) Later (λ j. Unit)
  gr = all_reads given.later.whole given.later.parts

  -- ---- pieces

  killed : (a k c n j e y b : ℕ) (t : Tenancy) → K.Split a t n e
      → K.KillSent a k t.instance.0 t.slot.0 n y → c ≡ cub_of p (a + k) → j ≡ k + 1
      → (q.Asks c t n j b ⊎ o.Asks c t n j b) ⊎ (q.Serves c t n j b ⊎ o.Serves c t n j b)
      → y + p.delay ≤ b → MirrorSince K a k t n j y
  killed a k c n j e y b t split sent to piece used late =
      let first = given.first.splits in
      let later = given.later.splits in
      ⊎_elim
      (λ m. ⊎_elim
      (λ h. first.killed split sent to piece (inl h) late)
      (λ h. later.killed split sent to piece (inl h) late)
      m)
      (λ m. ⊎_elim
      (λ h. first.killed split sent to piece (inr h) late)
      (λ h. later.killed split sent to piece (inr h) late)
      m)
      used

  -- What is split of a cub's own is told beside the cubs' rules.
  spared : {c n b : ℕ} {t : Tenancy} → K.Spared c t n b → x.Spared c t n b
  spared {c} {n} {b} {t} k = ⊎_elim
      (λ h. absurd (⊎_elim
      (λ m. given.first.splits.nothing_spared c t n b m)
      (λ m. given.later.splits.nothing_spared c t n b m)
      h))
      (λ h. h)
      k

  spare_mirror : {a i n j b : ℕ} {t : Tenancy} → x.MirrorSent a i t n j b
      → IsSpareMirror K a i t n j b
  spare_mirror h =
      let m = given.beside.mirrors h in
      record { spared = inr m.0; piece = m.1.0; some = m.1.1 }

  pub pieces : PieceLaws p J K
  pieces = record {
    splits = λ k. ⊎_elim
        (λ h. serving.splits f at_first fq given.first.splits h)
        (λ h. serving.splits g at_later gq given.later.splits h)
        k;
    spares = λ k. given.beside.spares (spared k);
    mirrors = λ k. ⊎_elim
        (λ m. inl (⊎_elim
        (λ h. serving.mirrors f at_first fq given.first.splits h)
        (λ h. serving.mirrors g at_later gq given.later.splits h)
        m))
        (λ h. inr (spare_mirror h))
        k;
    mirrored = λ k. ⊎_elim
        (λ h. given.first.splits.mirrored h)
        (λ h. given.later.splits.mirrored h)
        k;
    late = λ k back le. ⊎_elim
        (λ h. given.first.splits.late h back le)
        (λ h. given.later.splits.late h back le)
        k;
    asks = λ k. ⊎_elim
        (λ h. serving.asks f at_first fq fr h)
        (λ h. serving.asks g at_later gq gr h)
        k;
    serves = λ k. ⊎_elim
        (λ h. serving.serves f at_first fq fr h)
        (λ h. serving.serves g at_later gq gr h)
        k;
    asked = λ k. ⊎_elim
        (λ h. serving.asked f at_first fq fr h)
        (λ h. serving.asked g at_later gq gr h)
        k;
    rising = λ {c} {a} {b} {l} {m} tick then le. given.rising c a b l m tick then le;
    kills = λ k reached before came le same. ⊎_elim
        (λ h. serving.kills f at_first fq given.first.splits h reached before came le same)
        (λ h. serving.kills g at_later gq given.later.splits h reached before came le same)
        k;
    spare_kills = λ k reached before. given.beside.kills (spared k) reached before;
    spare_killed = λ k sent to used late. given.beside.killed (spared k) sent to used late;
    killed = λ {a} {k} {c} {t} {n} {j} {x = e} {y} {b} split sent to piece used late.
        killed a k c n j e y b t split sent to piece used late;
  }

  -- ---- blocks

  -- Of two neighbours one comes back at most, so a cub that came back is told of no return.
  untold : (c n from y b x : ℕ) → IsPlan p → Z.TookBack c from y → c ≡ cub_of p (n + 1)
      → r.Returned c x → ⊥
  untold c n from y b x plan told next back =
      let before = next ∙ sym (cub_ahead p n 1) in
      let k = given.returns.back_from told (cub_below p n plan.ranges) before in
      let run = given.schedule.ring.run in
      let a = run.returned k.returned in
      let d = run.returned back in
      run.apart a.died d.died before

  left : (c n b : ℕ) (t : Tenancy) → IsPlan p → q.Split c t n b ⊎ o.Split c t n b
      → IsLeftTo p Z c t n b
  left c n b t plan k from y told le = ⊎_elim
      (λ h. ⊎_elim
      (λ m. given.first.splits.left h from y m le)
      (λ m.
      let back = given.blocks.laters.told c from y m in
      let before = back.before in
      let after = given.pieces.firsts.split c t n b h back.beat back.returned in
      absurd (omega arith))
      told)
      (λ h.
      let here = given.pieces.laters.split c t n b h in
      absurd (untold c n from y b here.beat plan told (given.later.splits.splits h).next
      here.returned))
      k

  -- Before a cub of one life sent word to drop pieces a deschedule had reached it.
  was_reached : {v n y : ℕ} → KillBefore K v n y → WasReached J v y
  was_reached h =
      let reached = ⊎_elim
      (λ k. ⊎_elim
      (λ m. inl (given.first.splits.kill_reached m))
      (λ m. inr (given.later.splits.kill_reached m))
      k)
      (λ m. given.beside.kill_reached m)
      h.sent in
      record { cub = h.from; beat = h.beat; reached = reached; earlier = h.before }

  first_belief : {c b : ℕ} → IsFirstLife r c b → BelievedBy J c b → BelievedBy r c b
  first_belief here h =
      let by = h.by in
      record {
        beat = h.beat;
        believed = in_first_life here (f.kept.believed here by h.believed);
        by = by;
      }

  first_entered : {c n b : ℕ} {t : Tenancy} → IsFirstLife r c b → EnteredBy J c t n b
      → EnteredBy r c t n b
  first_entered here h =
      let by = h.by in
      record {
        beat = h.beat;
        entered = in_first_life here (kept_entered f here by h.entered);
        by = by;
        life = h.life;
      }

  first_tick : {c b l : ℕ} → IsFirstLife r c b → J.Ticked c b l → r.Ticked c b l
  first_tick {c} {b} {l} here tick =
      let le : b ≤ b = omega arith in
      in_first_life here (f.kept.ticked here le tick)

  -- Laws of blocks, if each cub has ended each beat below the end, or died by then.
  pub service : (end : ℕ) → IsPlan p → AreUp p J end → ServiceLaws p J K Z end
  service end plan up = record {
    ends = λ {c} {b} low small. up.ends c b low small;
    returns_once = λ back again. given.returns.returns_once back again;
    returns_ended = λ back. given.returns.returns_ended back;
    stays = λ {c} {x} {b} back le low. up.stays c x b back le low;
    back_arrives = λ c b back tick next came life late.
        given.returns.back_arrives c b back tick next came life late;
    back_from = λ told small next. given.returns.back_from told small next;
    left = λ {c} {t} {n} {b} k. left c n b t plan k;
    may_serve = λ k. ⊎_elim
        (λ h. serving.may_serve f at_first fq fr once h)
        (λ h. serving.may_serve g at_later gq gr once h)
        k;
    unread = λ k sent. given.beside.unread (spared k) sent;
    watches = λ tick here. (cubs given.schedule).rest.watches tick here;
    heard_from = λ heard small next. given.schedule.ring.heard_from heard small next;
    split_due = λ {c} {t} {n} {b} {l} believed entered next tick here left soon.
        ⊎_elim
        (λ h. inl (split_by_of fq h))
        (λ h. inr (reached_of f.facts h))
        (given.first.splits.split_due (first_belief here believed) (first_entered here entered)
        next (first_tick here tick) here (left_to_of f fw p c t n b left) soon);
    mirrors_due = λ m k tick low high. ⊎_elim
        (λ h. serving.mirrors_due f at_first fq given.first.splits m h tick low high)
        (λ h. serving.mirrors_due g at_later gq given.later.splits m h tick low high)
        k;
    mirror_arrives = λ c b sent to at came same let_in late. ⊎_elim
        (λ h.
        serving.mirror_arrives f at_first fq given.first.splits c b sent to at h same let_in late)
        (λ h.
        serving.mirror_arrives g at_later gq given.later.splits c b sent to at h same let_in late)
        (given.schedule.two.came c b came);
    asks_due = λ k to tick early soon may. ⊎_elim
        (λ h. serving.asks_due f at_first fq fr fw k to h early soon may)
        (λ h. serving.asks_due g at_later gq gr gw k to h early soon may)
        tick;
    answers = λ k came same late. ⊎_elim
        (λ h. serving.answers f at_first fq fr fw h came same late)
        (λ h. serving.answers g at_later gq gr gw h came same late)
        k;
    serves_due = λ k le tick same may past fresh undue. ⊎_elim
        (λ h. serving.serves_due f at_first fq fr fw k le h same may past fresh undue)
        (λ h. serving.serves_due g at_later gq gr gw k le h same may past fresh undue)
        tick;
    killed = λ k. ⊎_elim
        (λ h. was_reached (given.first.splits.dropped h))
        (λ h. was_reached (given.later.splits.dropped h))
        k;
  }

  -- ---- disks

  refused_first : {n i y : ℕ} {t : Tenancy} → IsRefused p catalogue w t n i y
      → IsRefused p catalogue Z t n i y
  refused_first h = record { beat = h.beat; before = h.before; why = h.why }

  refused_later : {n i y : ℕ} {t : Tenancy} → IsRefused p catalogue (beside_blocks w u) t n i y
      → IsRefused p catalogue Z t n i y
  refused_later h = record { beat = h.beat; before = h.before; why = h.why }

  -- The laws of disks, if orders are for files of the catalogue.
  pub disks : AreOfFiles p catalogue J → DiskLaws p catalogue J K Z
  disks files = record {
    files = files;
    failed = λ k. ⊎_elim
        (λ h. serving.failed f at_first fq fr h)
        (λ h. serving.failed g at_later gq gr h)
        k;
    refused = λ k. ⊎_elim
        (λ h. refused_first (fr.refused tt h))
        (λ h. refused_later (gr.refused tt h))
        k;
    sends = λ k. ⊎_elim
        (λ h. serving.sends f at_first fq fr h)
        (λ h. serving.sends g at_later gq gr h)
        k;
  }

  pub parts : IsPlan p → LawsOfParts p catalogue J K Z
  parts plan = record {
    pieces = pieces;
    blocks = λ end up. service end plan up;
    disks = disks;
  }
