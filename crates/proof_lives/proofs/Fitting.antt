-- What is known beyond one life of each cub fits these lives: which ticks they came to, which of them a death cut off, when
-- they came back, and what they sent.
use Rattle.std.proofs.Common.{◌≡◌, ℕ, ◌<◌, ◌≤◌, Option, Some, None, refl, ap, inl, inr}
use Rattle.std.specs.Prelude.{◌⊎◌}
use Rattle.tiger_base.specs.declared.number.LinkNo.{LinkNo}
use Rattle.tiger_base.specs.declared.tenancy.Tenancy.{Tenancy}
use Rattle.tiger_base.specs.declared.message.Msg.{Msg}
use Rattle.slot_plan.specs.declared.params.Params.{Params}
use Rattle.node_kit.specs.declared.outbox.Out.TheVariants as out
use Rattle.node_kit.specs.Steps.{Input, stamp_of}
use Rattle.proof_lives.specs.Lives.{Lives, BeganLate, beat_at, cut_in}
use Rattle.proof_lives.specs.Facts.{TickAt, TickedAt, DiedIn, DidAt, SentAt}
use Rattle.proof_lives.specs.FactsBy.{Beyond, CameToTick, IsInOneLife, cubs_alone}
use Rattle.proof_lives.specs.StopFactsOf.{ToldAt}

-- A cub came to the ticks of its life, and of those that it came to since an input without coming back in between each is of
-- that life; it died where its life is cut off; a life that began with a return began so, and each other return is later than
-- the whole life; and what it sent in its life it sent.
pub record Fits (p : Params) (lives : Lives) (beyond : Beyond) : Type 0 where
  pub came : (c b l : ℕ) → TickAt p lives c b l → beyond.Came c b
  pub ticks : (c i b : ℕ) → c < p.cubs → i < lives.count c → beyond.Came c b → beat_at (lives.input c) i ≤ b
      → IsInOneLife beyond c (beat_at (lives.input c) i) b → CameToTick p lives c b
  pub died : (c b : ℕ) → DiedIn p lives c b → beyond.Died c b
  pub began : (c w : ℕ) → BeganLate p lives c w → beyond.Returned c w
  pub apart : (c i w : ℕ) → c < p.cubs → i < lives.count c → beyond.Returned c w
      → (beat_at (lives.input c) i < w) ⊎ BeganLate p lives c w
  pub sends : (a : ℕ) (link : LinkNo) (m : Msg) (b : ℕ) → DidAt p lives a (out.Send link m) b → beyond.Sends a link m b
  pub sent : (a k : ℕ) (t : Tenancy) (m b : ℕ) → SentAt p lives a k t m b → beyond.Sent a k t m b
  pub told : (a k v s q b : ℕ) → ToldAt p lives a k v s q b → beyond.Told a k v s q b

-- So it is if nothing is known but of one life of each cub.
pub alone_fits : (p : Params) (lives : Lives) → Fits p lives (cubs_alone p lives)
alone_fits p lives = record {
  came = λ c b l tick. record { reading = l; tick = tick };
  ticks = λ c i b small low w le one. w;
  died = λ c b d. d;
  began = λ c w late. late;
  apart = λ c i w small low late. inr late;
  sends = λ a link m b did. did;
  sent = λ a k t m b did. did;
  told = λ a k v s q b did. did;
}

-- A whole tick is one that a cub came to.
abbrev pub as_tick : {p : Params} {lives : Lives} {c b l : ℕ} → TickedAt p lives c b l → TickAt p lives c b l
as_tick t = record { small = t.small; at = t.at; done = t.done; is = t.is }

-- A tick that a cub came to is whole, or it died there.
pub whole_or_died : {p : Params} {lives : Lives} {c b l : ℕ} → TickAt p lives c b l
    → TickedAt p lives c b l ⊎ DiedIn p lives c b
whole_or_died {p} {lives} {c} {b} {l} t = by_cut (cut_in lives c t.at) refl
  where
    by_cut : (cut : Option ℕ) → cut_in lives c t.at ≡ cut → TickedAt p lives c b l ⊎ DiedIn p lives c b
    by_cut None e = inl (record { small = t.small; at = t.at; done = t.done; is = t.is; whole = e })
    by_cut (Some sends) e = inr (record {
      small = t.small;
      at = t.at;
      done = t.done;
      in_beat = ap (λ (k : Input Msg). (stamp_of k).beat) t.is;
      sends = sends;
      cut = e;
    })
