-- Each piece of a visit that is split leaves in time, or its read fails, or its cub dies.
use Rattle.std.proofs.Common.{◌≡◌, ℕ, zero, suc, ◌+◌, ◌<◌, ◌≤◌, refl, sym, ap, subst, ◌∙◌, arith, ⊎_elim, inl, inr, eq-or-lt_of_le}
use Rattle.std.specs.Prelude.{◌⊎◌}
use Rattle.std.proofs.lemmas.Bool.{cases_lt}
use Rattle.tiger_base.specs.declared.tenancy.Tenancy.{Tenancy}
use Rattle.slot_plan.specs.declared.params.Params.{Params}
use Rattle.slot_plan.specs.Times.{time_of, due, cub_of}
use Rattle.slot_plan.proofs.Times.{time_below, time_mono, cub_below, cub_ahead}
use Rattle.proof_schedule.specs.Facts.{Facts, enters_from}
use Rattle.proof_schedule.proofs.Room.{way, soon_after}
use Rattle.proof_pieces.specs.PieceFacts.{PieceFacts, Arises, leave}
use Rattle.proof_pieces.proofs.Entries.{Splits, divides}
use Rattle.proof_pieces.proofs.Leaving.{leave_after, leave_until}
use Rattle.proof_service.specs.Blocks.{LeftInTime, DiedBeforeLeaving, PieceIsLost}
use Rattle.proof_service.specs.ServiceFacts.{ServiceFacts, ArisesBy, LetsIn}
use Rattle.proof_service.proofs.Back.{first_life, second_life, one_return, first_lets_in, piece_may_serve, split_near}
use Rattle.proof_service.proofs.Lives.{Lives, in_life, since_life}
use Rattle.proof_service.proofs.Service.{Service}
use Rattle.proof_service.proofs.Serving.{Awaited, LeftOrFailed, in_run, not_reached, there_left}
use Rattle.proof_service.proofs.Ticks.{turn}

module _ (p : Params) (r : Facts) (q : PieceFacts) (w : ServiceFacts) (end : ℕ) (s : Service p r q w end) where
  -- A visit is split so early that its pieces can still be sent ahead and read.
  pub split_soon : {gap c n b : ℕ} {t : Tenancy} → Splits q gap c t n b
      → time_of p b + p.read_lead + p.skew + way p + p.beat ≤ due p t.slot.0 n
  split_soon k =
      let o = divides p r s.setting q s.pieces k in
      let soon = o.soon in
      let low = o.tick.low in
      omega arith

-- The mirror state of piece j of visit n went out to the piece's cub in beat b.
pub record GoesOut (p : Params) (q : PieceFacts) (t : Tenancy) (n j b : ℕ) : Type 0 where
  pub from : ℕ
  pub ahead : ℕ
  pub sent : q.MirrorSent from ahead t n j b
  pub to : cub_of p (n + j) ≡ cub_of p (from + ahead)

-- Of an awaited visit n of t, which was split in beat b: each piece's record arose with the split,
-- or its mirror state went out.
module _ (p : Params) (r : Facts) (q : PieceFacts) (w : ServiceFacts) (end : ℕ) (s : Service p r q w end)
    (t : Tenancy) (n : ℕ) (v : Awaited p r end t n) (b gap splitter : ℕ)
    (split : Splits q gap splitter t n b)
    (out : (j : ℕ) → 1 ≤ j → j ≤ p.pieces → Arises r q (cub_of p (n + j)) t n j b ⊎ GoesOut p q t n j b) where
  -- The record of a piece comes with its mirror state, if its cub lives from the split on and lets
  -- the piece in.
  mirror_comes : {j from f : ℕ} → GoesOut p q t n j b → Lives r (cub_of p (n + j)) from f
      → from ≤ b → LetsIn p r (cub_of p (n + j)) (leave p t n j) f
      → due p t.slot.0 n ≤ time_of p f
      → ArisesBy r q (cub_of p (n + j)) t n j f
  mirror_comes {j} {from} {f} sent lives low lets late =
      let early = split_soon p r q w end s split in
      let room = s.setting.room in
      let soon = soon_after p b (b + p.delay) (omega arith) in
      let before = time_below p (b + p.delay) f (omega (arith, room)) in
      let there = lives.ended (b + p.delay) (omega arith) (omega arith) in
      let c : ℕ = cub_of p (n + j) in
      let came = s.setting.law.run.came there.ticked in
      let since = in_life lives b (b + p.delay) low (omega arith) in
      let then : LetsIn p r c (leave p t n j) (b + p.delay) =
      λ x l back tick le. lets x l back tick (omega arith) in
      ⊎_elim
      (λ h.
      let by = h.by in
      let after = since_life lives h.beat (b + p.delay) (omega arith) h.life in
      let same = in_life lives h.beat f after (omega arith) in
      record { beat = h.beat; arises = h.arises; by = omega arith; life = same })
      (λ h. absurd (not_reached p r q w end s t n v h (omega (arith, room))))
      (s.laws.mirror_arrives c (b + p.delay) sent.sent sent.to refl came since then (omega arith))

  -- So the record of each piece is there in time, if its cub lives from the split on and lets the
  -- piece in.
  piece_comes : {from f : ℕ} (j : ℕ) → 1 ≤ j → j ≤ p.pieces → Lives r (cub_of p (n + j)) from f
      → from ≤ b → LetsIn p r (cub_of p (n + j)) (leave p t n j) f
      → due p t.slot.0 n ≤ time_of p f
      → ArisesBy r q (cub_of p (n + j)) t n j f
  piece_comes {from} {f} j some few lives low lets late = ⊎_elim
      (λ arises.
      let early = split_soon p r q w end s split in
      let before = time_below p b f (omega (arith, s.setting.room)) in
      let same = in_life lives b f low (omega arith) in
      record { beat = b; arises = arises; by = omega arith; life = same })
      (λ sent. mirror_comes sent lives low lets late)
      (out j some few)

  -- What is split is due soon, so if a cub that came back lets a piece in, that was split after its
  -- return.
  let_in_after : {d : ℕ} (j y l : ℕ) → j ≤ p.pieces → r.Ticked d y l
      → enters_from p l ≤ leave p t n j → y ≤ b
  let_in_after j y l few tick late = ⊎_elim
      (λ (before : b < y).
      let low = (s.setting.law.run.reads tick).0 in
      let until = leave_until p s.setting.ok t n j few in
      let near = split_near p r q w end s split in
      let m = time_mono p b y (omega arith) in
      let some = s.setting.room.beat in
      absurd (omega (arith, s.setting.room)))
      (λ (fine : y ≤ b). fine)
      (cases_lt b y)

  -- A piece leaves from a cub that lives from the split on and lets it in, or its read fails.
  lives_left : {from f : ℕ} (j : ℕ) → 1 ≤ j → j ≤ p.pieces → Lives r (cub_of p (n + j)) from f
      → from ≤ b → LetsIn p r (cub_of p (n + j)) (leave p t n j) f → leave p t n j ≤ time_of p f
      → LeftOrFailed p q w end (cub_of p (n + j)) t n j
  lives_left {from} {f} j some few lives low lets late =
      let after = leave_after p t n j in
      let early = split_soon p r q w end s split in
      let before = time_below p b f (omega (arith, s.setting.room)) in
      let k = piece_comes j some few lives low lets (omega arith) in
      let since = since_life lives k.beat f (omega arith) k.life in
      let may = piece_may_serve p r (cub_of p (n + j)) t n j f some in
      there_left p r q w end s t n v {j = j} {from = from} {f = f} k.beat few k.arises
      since lives may late

  -- So each piece leaves or its read fails, or its cub died and did not come back in time.
  piece_left : (j : ℕ) → 1 ≤ j → j ≤ p.pieces
      → LeftOrFailed p q w end (cub_of p (n + j)) t n j ⊎ DiedBeforeLeaving p r end (cub_of p (n + j)) t n j
  piece_left j some few =
      let after = leave_after p t n j in
      let until = leave_until p s.setting.ok t n j few in
      let early = split_soon p r q w end s split in
      let beat = s.setting.room.beat in
      let o = turn p beat (leave p t n j) (omega arith) in
      let f : ℕ = o.0 in
      let meets = o.1.meets in
      let only_now = o.1.only_now in
      let far = in_run p r q w end s t n v f (omega arith) in
      let c : ℕ = cub_of p (n + j) in
      ⊎_elim
      (λ h.
      let lives = first_life p r q w end s (n + j) h in
      let lets = first_lets_in p r c (leave p t n j) f h.first in
      inl (lives_left j some few lives (omega arith) lets meets))
      (λ h.
      let by = h.by in
      let m = time_mono p h.beat f by in
      ⊎_elim
      (λ first. inr (record {
        beat = h.beat;
        died = h.died;
        before = omega arith;
        early = omega arith;
        away = λ y l back tick.
            let g = first y back in
            let low = (s.setting.law.run.reads tick).0 in
            let mono = time_mono p f y (omega arith) in
            omega (arith, s.setting.room);
      }))
      (λ k.
      let e = s.laws.returns_ended k.returned in
      ⊎_elim
      (λ (early : leave p t n j < enters_from p e.reading). inr (record {
        beat = h.beat;
        died = h.died;
        before = omega arith;
        early = omega arith;
        away = λ y l back tick.
            let same = one_return p r q w end s k.returned e.ticked back tick in
            omega arith;
      }))
      (λ (late : enters_from p e.reading ≤ leave p t n j).
      let lives = second_life p r q w end s k.returned (omega arith) in
      let after = let_in_after j k.beat e.reading few e.ticked late in
      let lets : LetsIn p r c (leave p t n j) f = λ y l back tick le.
      let same = one_return p r q w end s k.returned e.ticked back tick in
      omega arith in
      inl (lives_left j some few lives after lets meets))
      (cases_lt (leave p t n j) (enters_from p e.reading)))
      (s.setting.law.run.returns c f))
      (s.laws.ends (omega arith) (cub_below p (n + j) s.setting.ok.ranges))

  -- One of the first so many pieces was lost.
  pub record OneLost (most : ℕ) : Type 0 where
    pub piece : ℕ
    pub low : 1 ≤ piece
    pub high : piece ≤ most
    pub lost : PieceIsLost p r w end t n piece

  -- All of them left in time.
  abbrev pub AllLeft : ℕ → Type 0
  AllLeft most = (j : ℕ) → 1 ≤ j → j ≤ most → LeftInTime p q end (cub_of p (n + j)) t n j

  -- So all pieces leave in time, or one is lost.
  pub all_or_one : (most : ℕ) → most ≤ p.pieces → AllLeft most ⊎ OneLost most
  all_or_one zero few = inl (λ j low high. absurd (omega arith))
  all_or_one (suc m) few = ⊎_elim
      (λ (all : AllLeft m). ⊎_elim
      (λ k. ⊎_elim
      (λ (left : LeftInTime p q end (cub_of p (n + suc m)) t n (suc m)).
      inl (λ j low high. ⊎_elim
      (λ (same : j ≡ suc m). subst (λ i. LeftInTime p q end (cub_of p (n + i)) t n i) (sym same) left)
      (λ (l : j < suc m). all j low (omega arith))
      (eq-or-lt_of_le high)))
      (λ failed. inr (record { piece = suc m; low = omega arith; high = omega arith; lost = inl failed }))
      k)
      (λ gone. inr (record { piece = suc m; low = omega arith; high = omega arith; lost = inr gone }))
      (piece_left (suc m) (omega arith) few))
      (λ (one : OneLost m). let high = one.high in inr (record { piece = one.piece; low = one.low; high = omega arith; lost = one.lost }))
      (all_or_one m (omega arith))
