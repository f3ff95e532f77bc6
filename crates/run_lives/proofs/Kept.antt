-- A run of nodes of any lives that has come to its end: its history, that this keeps its course, and what its
-- journals are.
use Rattle.std.proofs.Common.{◌≡◌, ℕ, ◌+◌, ◌<◌, List, length, Some, refl, ap, sym, ◌∙◌}
use Rattle.std.specs.Prelude.{slice_get}
use Rattle.tiger_base.specs.declared.message.Note.{Note}
use Rattle.link_timing.specs.Clock.{new_clock}
use Rattle.node_kit.specs.declared.course.Course.{Course}
use Rattle.node_kit.specs.Courses.{IsCourse, stamp_in}
use Rattle.node_kit.specs.Life.{lifetime_of}
use Rattle.node_kit.specs.Links.{links_of, viewers_of}
use Rattle.node_kit.specs.Steps.{Input, Deed}
use Rattle.node_kit.proofs.Rows.{get-below}
use Rattle.run_facts.specs.Accounts.{history_of, AreAccounted}
use Rattle.run_facts.specs.Beats.{opening_of}
use Rattle.run_facts.specs.Carried.{AreCarried}
use Rattle.run_facts.specs.Events.{Past, written}
use Rattle.run_facts.specs.Histories.{HaveHistory, last_of}
use Rattle.run_facts.specs.Kept.{HaveKept}
use Rattle.run_facts.specs.Paced.{ArePaced}
use Rattle.run_facts.specs.Rings.{Ring}
use Rattle.run_facts.specs.Timed.{AreTimed}
use Rattle.run_facts.proofs.Along.{journal-after}
use Rattle.run_facts.proofs.Indexed.{last-all}
use Rattle.run_facts.proofs.Keeping.{accounts-keep}
use Rattle.run_facts.proofs.Rows.{same-element}
use Rattle.run_lives.proofs.Journals.{paced-lives, timed-journals, carried-lives}
use Rattle.run_lives.proofs.Accounted.{accounts-run, accounts-complete}
use Rattle.run_lives.proofs.Progress.{Progress, lost_of, progress-accounts}

module _ {M S : Type 0} (note : M → Note) (step : S → Input M → Deed M S) (c : Course) (given : List S)
    (first : ℕ → S) (r : Ring M S) (course : IsCourse c) (size : length given ≡ viewers_of (links_of c.plan.params) + 1)
    (st : Progress note step c (length given) first c.beats 0 r) where
  abbrev pub lost : ℕ → ℕ
  lost = lost_of note step c (length given) first r st

  pub accounts : AreAccounted note step c.plan.params (stamp_in c) (lifetime_of c)
      (λ l. new_clock l c.delay c.plan.params.delay) (length given) c.beats first lost st.events
  accounts = progress-accounts note step c (length given) first r st course size

  theirs : (n : ℕ) → n < length given
      → slice_get r.journals n ≡ Some (written note step (st.events n) (opening_of c n (first n)))
  theirs n low = (st.here n low).journal ∙ ap Some (journal-after note step (st.events n) (opening_of c n (first n)))

  pub paced-run : ArePaced c r.journals
  paced-run = paced-lives note step c (length given) first lost st.events course accounts r.journals st.size theirs

  pub timed-run : AreTimed c.plan.params c.beats (lifetime_of c) r.journals
  timed-run = timed-journals note step c (length given) first lost st.events course accounts r.journals st.size theirs

  pub carried-run : AreCarried c.plan.params c.beats (lifetime_of c) r.journals
  carried-run = carried-lives note step c (length given) first lost st.events course accounts r.journals st.size theirs

  abbrev pub history-run : ((k : ℕ) → k < length given → slice_get given k ≡ Some (first k))
      → HaveHistory {M = M} note step c.plan.params (lifetime_of c) c.beats given r.nodes r.journals
  history-run all =
      let last : (n : ℕ) → last_of note step (history_of first (lifetime_of c) lost st.events) n ≡ _ =
      last-all note step first (lifetime_of c) lost st.events in
      record {
        history = history_of first (lifetime_of c) lost st.events;
        theirs = record {
          opens = λ n s e. (same-element given n (first n) s (all n (get-below given n s e)) e, refl);
          writes = λ n low. (st.here n low).journal ∙ ap (λ (s : Past S). Some s.journal) (sym (last n));
          ends = λ n low. (st.here n low).state ∙ ap (λ (s : Past S). Some s.state) (sym (last n));
        };
        run = accounts-run M S note step c (length given) first lost st.events course accounts;
        complete = accounts-complete M S note step c (length given) first lost st.events course accounts;
      }

  -- and what it gives keeps the course
  pub kept-run : ((k : ℕ) → k < length given → slice_get given k ≡ Some (first k)) → length r.nodes ≡ length given
      → HaveKept {M = M} note step c given r.nodes r.journals
  kept-run all back = record {
    lived = history-run all;
    keeps = accounts-keep M S note step c (stamp_in c) (length given) first lost st.events (λ n b. refl) accounts;
    each_has_journal = st.size;
    each_is_back = back;
  }
