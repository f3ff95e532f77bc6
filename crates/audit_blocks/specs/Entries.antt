-- The entries of all journals, each with its node, and what each of them tells of blocks.
use Rattle.std.specs.Prelude.{ℕ, ◌+◌, Bool, ◌==◌, ◌&&◌, nat_lt, List, [], ◌∷◌, ◌++◌, map, if◌then◌else◌}
use Rattle.tiger_base.specs.declared.tenancy.Tenancy.{Tenancy}
use Rattle.tiger_base.specs.declared.tenancy.Want.{Want}
use Rattle.slot_plan.specs.declared.params.Params.{Params}
use Rattle.slot_plan.specs.Times.{cub_of, time_of}
use Rattle.node_kit.specs.declared.journal.Entry.{Entry}
use Rattle.node_kit.specs.declared.journal.What.{What}
use Rattle.node_kit.specs.declared.journal.What.TheVariants as what
use Rattle.run_facts.specs.Commanded.{is_gone_of}
use Rattle.run_facts.specs.Order.{Noted, beat_of}
use Rattle.run_facts.specs.Timed.{is_died, is_returned}
use Rattle.run_model.specs.Tests.{is_failed_read}
use Rattle.audit_frame.specs.Lines.{noted_by}

-- the entries of a node's journal; and those of all journals, if the first is that of node n
abbrev pub journal_noted : ℕ → List Entry → List Noted
journal_noted n journal = map (noted_by n) journal

abbrev pub journals_noted : ℕ → List (List Entry) → List Noted
journals_noted n [] = []
journals_noted n (journal ∷ rest) = journal_noted n journal ++ journals_noted (n + 1) rest

-- ---- what an entry tells

-- the tenancy that it puts for an instance
abbrev pub put_for : ℕ → What → List Tenancy
put_for v (what.Put t) = if t.instance.0 == v then t ∷ [] else []
put_for v other = []

abbrev pub puts_for : ℕ → Noted → List Tenancy
puts_for v x = put_for v x.entry.what

-- the beat in which a node died
abbrev pub death_of_node : ℕ → Noted → List ℕ
death_of_node n x = if (x.node == n) && is_died x.entry.what then beat_of x ∷ [] else []

-- the reading at which a node came back
abbrev pub return_of_node : ℕ → Noted → List ℕ
return_of_node n x = if (x.node == n) && is_returned x.entry.what then x.entry.stamp.reading ∷ [] else []

-- whether an instance is stopped below a time
abbrev pub stops_below : Params → ℕ → ℕ → Noted → Bool
stops_below p v time x = is_gone_of v x.entry.what && nat_lt (time_of p (beat_of x)) time

-- whether a read failed, and whether one of a whole block did at the visit's cub
abbrev pub fails_reading : ℕ → ℕ → ℕ → Noted → Bool
fails_reading v visit piece x = is_failed_read v visit piece x.entry.what

abbrev pub fails_at_cub : Params → ℕ → ℕ → Noted → Bool
fails_at_cub p v visit x = (x.node == cub_of p visit) && is_failed_read v visit 0 x.entry.what

-- whether it is the whole block of a visit that is wanted, and a node is the visit's cub
abbrev pub is_at_cub : Params → ℕ → Want → Bool
is_at_cub p node want = (node == cub_of p want.visit) && (want.piece == 0)

abbrev pub is_whole_of : Params → ℕ → ℕ → ℕ → Want → Bool
is_whole_of p node v visit want =
    (node == cub_of p visit) && ((want.instance.0 == v) && (want.visit == visit) && (want.piece == 0))
