-- How many visits of the Puts of a log are settled at the end of a run, and of how many of them the instance was stopped, or
-- what else may excuse them.
use Rattle.std.specs.Prelude.{◌≡◌, ℕ, ◌+◌, ◌-◌, ◌<◌, ◌≤◌, Bool, true, false, not, ◌&&◌, List, length, filter}
use Rattle.std.specs.List.{fold, range_with_len}
use Rattle.tiger_base.specs.declared.tenancy.Tenancy.{Tenancy}
use Rattle.slot_plan.specs.Times.{cub_of}
use Rattle.node_kit.specs.declared.course.Kept.{Kept}
use Rattle.node_kit.specs.declared.journal.What.{What}
use Rattle.node_kit.specs.declared.journal.What.TheVariants as what
use Rattle.run_facts.specs.Order.{Noted}
use Rattle.run_model.specs.Served.{journal_at}
use Rattle.run_model.specs.Tests.{read_failed, lost_in_pieces, lost_in_death, is_unserved_back, was_stopped}
use Rattle.audit_blocks.specs.Serving.{is_settled_at}
use Rattle.audit_blocks.specs.declared.shares.Share.{Share}
use Rattle.audit_blocks.specs.declared.shares.Share.TheVariants as share
use Rattle.audit_blocks.specs.declared.shares.Shares.{Shares}

-- the visits of a tenancy that are settled at the end of a run, in their order
abbrev pub settled_visits : Kept → Tenancy → List ℕ
settled_visits k t = filter (is_settled_at k t) (range_with_len t.first (t.last + 1 - t.first))

-- whether the instance of a tenancy was stopped before a visit was over
abbrev pub is_stopped_at : Kept → Tenancy → ℕ → Bool
is_stopped_at k t n = was_stopped k.course.plan.params k.journals t n

-- whether a visit of a tenancy has this excuse: the read of its block failed at its cub; or its cub was not back in time, and
-- a piece was lost behind its death, or it died about that time
abbrev pub is_excused_by : Kept → Share → Tenancy → ℕ → Bool
is_excused_by k share.Read t n = read_failed t.instance.0 n 0 (journal_at k.journals (cub_of k.course.plan.params n))
is_excused_by k share.Piece t n = lost_in_pieces k.course.plan.params k.journals t n
is_excused_by k share.Dead t n =
    lost_in_death k.course.plan.params k.journals t n && is_unserved_back k.course.plan.params k.journals t n
is_excused_by k other t n = true

-- whether it belongs to a share of the settled visits: to all, to those of stopped instances, or to those of the others
-- that have an excuse
abbrev pub is_in_share : Kept → Share → Tenancy → ℕ → Bool
is_in_share k share.All t n = true
is_in_share k share.Stopped t n = is_stopped_at k t n
is_in_share k other t n = not (is_stopped_at k t n) && is_excused_by k other t n

-- how many visits a share has of a tenancy, of the one that an entry puts, and of all those that a log puts
abbrev pub share_of_put : Kept → Share → Tenancy → ℕ
share_of_put k s t = length (filter (is_in_share k s t) (settled_visits k t))

abbrev pub share_of_entry : Kept → Share → What → ℕ
share_of_entry k s (what.Put t) = share_of_put k s t
share_of_entry k s other = 0

abbrev pub share_of_log : Kept → Share → List Noted → ℕ
share_of_log k s log = fold (λ (n : ℕ) (x : Noted). n + share_of_entry k s x.entry.what) 0 log

-- how many each share has of a log
pub record AreSharesOf (k : Kept) (log : List Noted) (c : Shares) : Type 0 where
  pub settled : c.settled ≡ share_of_log k share.All log
  pub read : c.read ≡ share_of_log k share.Read log
  pub piece : c.piece ≡ share_of_log k share.Piece log
  pub dead : c.dead ≡ share_of_log k share.Dead log
  pub stopped : c.stopped ≡ share_of_log k share.Stopped log

-- each number is what a function says of its share; and so of the shares of a tenancy
pub record AreCountedBy (count : Share → ℕ) (c : Shares) : Type 0 where
  pub settled : c.settled ≡ count share.All
  pub read : c.read ≡ count share.Read
  pub piece : c.piece ≡ count share.Piece
  pub dead : c.dead ≡ count share.Dead
  pub stopped : c.stopped ≡ count share.Stopped

abbrev pub AreSharesOfPut : Kept → Tenancy → Shares → Type 0
AreSharesOfPut k t = AreCountedBy (λ s. share_of_put k s t)

-- ---- along the visits of a tenancy

-- whether a visit is not settled, or one before whose end the instance was stopped: either is so of all later ones too
abbrev pub lies_past : Kept → Bool → Tenancy → ℕ → Bool
lies_past k true t n = is_stopped_at k t n
lies_past k false t n = not (is_settled_at k t n)

-- The visits of a tenancy that are settled end at one number, and those of them before whose end the instance was not yet
-- stopped end at another.
pub record IsParted (k : Kept) (t : Tenancy) (asked settled : ℕ) : Type 0 where
  pub first : t.first ≤ asked
  pub order : asked ≤ settled
  pub last : settled ≤ t.last + 1
  pub is_settled : (n : ℕ) → t.first ≤ n → n < settled → lies_past k false t n ≡ false
  pub not_settled : (n : ℕ) → settled ≤ n → n < t.last + 1 → lies_past k false t n ≡ true
  pub not_stopped : (n : ℕ) → t.first ≤ n → n < asked → lies_past k true t n ≡ false
  pub is_stopped : (n : ℕ) → asked ≤ n → n < settled → lies_past k true t n ≡ true
