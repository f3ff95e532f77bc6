-- How much there is in a kept run.
use Rattle.std.specs.Prelude.{◌≡◌, ℕ, Bool, true, false, ◌&&◌, ◌==◌, List, length, filter}
use Rattle.tiger_base.specs.declared.message.Note.TheVariants as note
use Rattle.node_kit.specs.declared.course.Kept.{Kept}
use Rattle.node_kit.specs.declared.journal.What.{What}
use Rattle.node_kit.specs.declared.journal.What.TheVariants as what
use Rattle.node_kit.specs.Links.{links_of, viewers_of}
use Rattle.run_facts.specs.Commanded.{is_gone}
use Rattle.run_facts.specs.Order.{Noted}
use Rattle.run_facts.specs.Timed.{is_died}
use Rattle.run_model.specs.Runs.{order_in}
use Rattle.audit_blocks.specs.Shares.{AreSharesOf}
pub use Rattle.audit_blocks.specs.declared.shares.Shares.{Shares}
use Rattle.audit_verdict.specs.declared.counts.Counts.{Counts}
use Rattle.audit_verdict.specs.declared.counts.EntryCounts.{EntryCounts}

-- whether an entry puts a tenancy
abbrev pub is_any_put : What → Bool
is_any_put (what.Put t) = true
is_any_put other = false

-- whether it gets a whole block, or a piece
abbrev pub gets_whole : What → Bool
gets_whole (what.Got link (note.Whole want sent part)) = true
gets_whole other = false

abbrev pub gets_piece : What → Bool
gets_piece (what.Got link (note.Piece want sent part)) = true
gets_piece other = false

-- how many entries of a log pass a test
abbrev pub passing : (Noted → Bool) → List Noted → ℕ
passing test log = length (filter test log)

-- whether an entry is the viewers' own, and passes a test
abbrev pub is_viewed : ℕ → (What → Bool) → Noted → Bool
is_viewed viewers test x = (x.node == viewers) && test x.entry.what

-- what a log has of each, if the viewers are this node
pub record AreCountsIn (viewers : ℕ) (log : List Noted) (c : EntryCounts) : Type 0 where
  pub all : c.all ≡ length log
  pub puts : c.puts ≡ passing (λ x. is_any_put x.entry.what) log
  pub stops : c.stops ≡ passing (λ x. is_gone x.entry.what) log
  pub deaths : c.deaths ≡ passing (λ x. is_died x.entry.what) log
  pub blocks : c.blocks ≡ passing (is_viewed viewers gets_whole) log
  pub pieces : c.pieces ≡ passing (is_viewed viewers gets_piece) log

-- and what a kept run has: all entries of its beats are counted, and all visits of what they put
pub record AreCountsOf (k : Kept) (c : Counts) : Type 0 where
  pub entries : AreCountsIn (viewers_of (links_of k.course.plan.params)) (order_in k) c.entries
  pub visits : AreSharesOf k (order_in k) c.visits
