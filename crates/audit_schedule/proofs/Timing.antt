-- Entries, what is sent and what is got before an entry are of no later beat than it, in a log whose beats do not fall.
use Rattle.std.proofs.Common.{◌≡◌, ℕ, ◌<◌, ◌≤◌, Bool, true, false, cond, List, [], ◌∷◌, length, take, sym, subst}
use Rattle.std.specs.Prelude.{◌==◌, slice_index_or}
use Rattle.std.specs.List.{AllByRecursion}
use Rattle.tiger_base.specs.declared.message.Note.{Note}
use Rattle.tiger_base.specs.declared.message.Note.TheVariants as note
use Rattle.slot_plan.specs.declared.params.Params.{Params}
use Rattle.node_kit.specs.declared.journal.What.{What}
use Rattle.node_kit.specs.declared.journal.What.TheVariants as what
use Rattle.node_kit.specs.Links.{links_of, viewers_of}
use Rattle.run_facts.specs.Accounts.{Rising}
use Rattle.run_facts.specs.Order.{Noted, beat_of}
use Rattle.run_facts.proofs.Rows.{all-append}
use Rattle.run_claims.specs.Deliveries.{carried_by, sent_by, got_by, sent_in, got_in}
use Rattle.audit_frame.specs.Lines.{noted_line, told_by}
use Rattle.audit_frame.specs.declared.lines.Line.{Line}
use Rattle.audit_frame.proofs.Rising.{early_lines}
use Rattle.audit_schedule.specs.Turns.{sent_here, got_here, with_entry}
use Rattle.audit_schedule.proofs.Turning.{front_is}
use Rattle.audit_frame.proofs.Walking.{state_at}

pub early_front : (lines : List Line) (i : ℕ) (x : Line) → i < length lines → ((d : Line) → slice_index_or lines i d ≡ x)
    → Rising beat_of (told_by lines)
    → AllByRecursion (λ y. beat_of y ≤ beat_of (noted_line x)) (state_at with_entry [] lines i)
early_front lines i x low is rising =
    subst (λ (front : List Noted). AllByRecursion (λ y. beat_of y ≤ beat_of (noted_line x)) front) (sym (front_is [] (take i (told_by lines))))
    (early_lines lines i x low is rising)

-- ---- so is what they send and get

carried_early : (beat most : ℕ) (n : Note) → beat ≤ most → AllByRecursion (λ d. d.beat ≤ most) (carried_by beat n)
carried_early beat most (note.Whole want sent part) le = (le, tt)
carried_early beat most (note.Piece want sent part) le = (le, tt)
carried_early beat most other le = tt

sent_early_here : (beat most : ℕ) (w : What) → beat ≤ most → AllByRecursion (λ d. d.beat ≤ most) (sent_by beat w)
sent_early_here beat most (what.Sent link n) le = carried_early beat most n le
sent_early_here beat most other le = tt

got_early_here : (b : Bool) (beat most : ℕ) (w : What) → beat ≤ most → AllByRecursion (λ d. d.beat ≤ most) (cond b (got_by beat w) [])
got_early_here true beat most (what.Got link n) le = carried_early beat most n le
got_early_here true beat most other le = tt
got_early_here false beat most w le = tt

pub sent_early : (most : ℕ) (front : List Noted) → AllByRecursion (λ y. beat_of y ≤ most) front
    → AllByRecursion (λ d. d.beat ≤ most) (sent_in front)
sent_early most [] h = tt
sent_early most (y ∷ ys) h = all-append (λ d. d.beat ≤ most) (sent_here y) (sent_in ys)
    (sent_early_here (beat_of y) most y.entry.what h.0) (sent_early most ys h.1)

pub got_early : (p : Params) (most : ℕ) (front : List Noted) → AllByRecursion (λ y. beat_of y ≤ most) front
    → AllByRecursion (λ d. d.beat ≤ most) (got_in p front)
got_early p most [] h = tt
got_early p most (y ∷ ys) h = all-append (λ d. d.beat ≤ most) (got_here p y) (got_in p ys)
    (got_early_here (y.node == viewers_of (links_of p)) (beat_of y) most y.entry.what h.0) (got_early p most ys h.1)
