-- The induction on the beat: from all lower beats follow a beat's messages, and then its ticks.
use Rattle.std.proofs.Common.{ℕ, ◌<◌, arith, ⊎_elim, inl, inr}
use Rattle.slot_plan.specs.declared.params.Params.{Params}
use Rattle.slot_plan.specs.Conditions.{IsPlan}
use Rattle.proof_schedule.specs.Facts.{Facts}
use Rattle.proof_schedule.specs.Laws.{Laws}
use Rattle.proof_schedule.proofs.Beats.{by_beats}
use Rattle.proof_schedule.proofs.Conflicts.{no_conflict}
use Rattle.proof_schedule.proofs.Early.{early_at}
use Rattle.proof_schedule.proofs.Prefix.{prefix, prefix_laws, prefix_gone, prefix_cut, prefix_sends, prefix_takes, run_takes}
use Rattle.proof_schedule.proofs.Once.{once_at}
use Rattle.proof_schedule.proofs.Puts.{free_at, sent_at}
use Rattle.proof_schedule.proofs.Room.{room_of, stop_room_of}
use Rattle.proof_schedule.proofs.Invariant.{Setting, NoConflictAt, OnceAt, FreeAt, SentAt}

module _ (p : Params) (r : Facts) (ok : IsPlan p) (law : Laws p r) where
  -- The invariant of beat b.
  record InvariantAt (b : ℕ) : Type 0 where
    clean : NoConflictAt p r b
    once : OnceAt p r b
    free : FreeAt p r b
    sent : SentAt p r b

  -- If it holds in all beats below b, the prefix of the run up to the middle of beat b has it in
  -- every beat.
  setting_below : (b : ℕ) → ((y : ℕ) → y < b → InvariantAt y) → Setting p (prefix r b)
  setting_below b below =
      let room = room_of p ok in
      record {
        ok = ok;
        room = room;
        turn = stop_room_of p ok room;
        law = prefix_laws p room r b law;
        once = λ x c d y t u le i j same. (below x i.1).once c d y t u le i.0 j.0 same;
        free = λ x c d y t u le i j slot ne. let l = i.1 in ⊎_elim
            (λ k. inl k)
            (λ k. inr (prefix_gone p room r b (omega arith) k.0, prefix_cut p room r b (omega arith) k.1))
            ((below x i.1).free c d y t u le i.0 j.0 slot ne);
        sent = λ y c x l n t i low more may w first. let wl = w.1 in ⊎_elim
            (λ k. inl (prefix_sends p room r b wl k))
            (λ k. inr (prefix_cut p room r b (omega arith) k))
            ((below y w.1).sent c x l n t i.0 low more may w.0 first);
        clean = λ d e y w le c m n t got given let_in.
            let wl = w.1 in
            let clean = (below y (omega arith)).clean in
            prefix_takes p room r b (omega arith) (clean c m n t got.0 given let_in);
        early = λ z c d x t stop put. let l = stop.1 in early_at p ok room r law z
            (λ y low. (below y (omega arith)).clean) c d x t stop.0 put.0;
      }

  -- Then it holds in beat b. There is no conflict in the prefix, so there is none in the run; and
  -- what that gives of the messages gives the ticks.
  holds_at : (b : ℕ) → ((y : ℕ) → y < b → InvariantAt y) → InvariantAt b
  holds_at b below =
      let g = setting_below b below in
      record {
        clean = λ c m n t got given let_in.
            let clean = no_conflict p (prefix r b) g b in
            run_takes p r b (clean c m n t (got, omega arith) given let_in);
        once = once_at p r b law g;
        free = free_at p r b law g;
        sent = sent_at p r b law g;
      }

  -- So it holds in every beat.
  always : (b : ℕ) → InvariantAt b
  always b = by_beats InvariantAt holds_at b

  -- So a run of a plan that meets the laws has the invariant in every beat.
  pub setting : Setting p r
  setting = record {
    ok = ok;
    room = room_of p ok;
    turn = stop_room_of p ok (room_of p ok);
    law = law;
    once = λ b. (always b).once;
    free = λ b. (always b).free;
    sent = λ b. (always b).sent;
    clean = λ d e y w le. (always y).clean;
    early = λ z. early_at p ok (room_of p ok) r law z (λ y low. (always y).clean);
  }
