-- A course has one history: what the events of all nodes make of their histories, their journals and their ends.
use Rattle.std.proofs.Common.{◌≡◌, ℕ, ◌<◌, List, length, Some, refl, ap, sym, ◌∙◌, arith}
use Rattle.std.specs.Prelude.{slice_get}
use Rattle.tiger_base.specs.declared.message.Note.{Note}
use Rattle.node_kit.specs.declared.course.Course.{Course}
use Rattle.node_kit.specs.declared.journal.Entry.{Entry}
use Rattle.node_kit.specs.Life.{lifetime_of}
use Rattle.node_kit.specs.Steps.{Input, Deed}
use Rattle.run_facts.specs.Events.{NodeEvent, Past, opening, after_all}
use Rattle.run_facts.specs.Histories.{History, HaveHistory, last_of}
use Rattle.proof_answer.specs.Answers.{AreSame, RunsAreOne}
use Rattle.proof_answer.proofs.Beats.{all-same}
use Rattle.run_facts.proofs.Listed.{events_of, listed-last, listed-length, listed-get}
use Rattle.proof_answer.proofs.Lists.{some-same, element-of, each-same}
use Rattle.proof_answer.proofs.Lived.{have-lived}

-- events that are the same in lists are so by number
same-by_number : {M S : Type 0} (nodes : ℕ) (g h : History M S)
    → ((n : ℕ) → n < nodes → events_of g n ≡ events_of h n) → AreSame nodes g h
same-by_number {M} nodes g h same = record {
  counts = counts;
  events = λ n i low at.
      let within : i < h.count n = (let count = counts n low in omega (arith, at, count)) in
      some-same (g.event n i) (h.event n i)
      (sym (listed-get g n 0 (g.count n) i i (omega arith) at)
      ∙ ap (λ (es : List (NodeEvent M)). slice_get es i) (same n low)
      ∙ listed-get h n 0 (h.count n) i i (omega arith) within);
}
  where
    counts : (n : ℕ) → n < nodes → g.count n ≡ h.count n
    counts n low = sym (listed-length g n 0 (g.count n)) ∙ ap length (same n low) ∙ listed-length h n 0 (h.count n)

-- nodes that begin alike and have the same events end alike
same-last : {M S : Type 0} (note : M → Note) (step : S → Input M → Deed M S) (g h : History M S) (n : ℕ)
    → g.first n ≡ h.first n → g.life n ≡ h.life n → events_of g n ≡ events_of h n
    → last_of note step g n ≡ last_of note step h n
same-last {M} {S} note step g h n first life same =
    let opens : ◌≡◌ {A = Past S} (opening (g.first n) (g.life n)) (opening (h.first n) (h.life n)) =
    rw (first, life) refl in
    listed-last note step g n
    ∙ ap (after_all note step (events_of g n)) opens
    ∙ ap (λ (es : List (NodeEvent M)). after_all note step es (opening (h.first n) (h.life n))) same
    ∙ sym (listed-last note step h n)

-- each node begins as given, with the life of the course
opens-as : {M S : Type 0} (note : M → Note) (step : S → Input M → Deed M S) (c : Course)
    (given nodes : List S) (journals : List (List Entry))
    (lived : HaveHistory note step c.plan.params (lifetime_of c) c.beats given nodes journals) (n : ℕ)
    → n < length given
    → (s : S) × (slice_get given n ≡ Some s) × (lived.history.first n ≡ s) × (lived.history.life n ≡ lifetime_of c n)
opens-as note step c given nodes journals lived n low =
    let s = element-of given n low in
    let opens = lived.theirs.opens n s.0 s.1 in
    (s.0, s.1, opens.0, opens.1)

pub runs-are-one : (M S : Type 0) → RunsAreOne M S
runs-are-one M S note step c given nodes others journals books course one two =
    let count = length given in
    let g = one.lived.history in
    let h = two.lived.history in
    let opens_g = opens-as note step c given nodes journals one.lived in
    let opens_h = opens-as note step c given others books two.lived in
    let life_g : (n : ℕ) → n < count → g.life n ≡ lifetime_of c n = λ n low. (opens_g n low).3 in
    let life_h : (n : ℕ) → n < count → h.life n ≡ lifetime_of c n = λ n low. (opens_h n low).3 in
    let first : (n : ℕ) → n < count → h.first n ≡ g.first n = λ n low.
    let s = opens_g n low in
    let t = opens_h n low in
    t.2 ∙ some-same t.0 s.0 (sym t.1 ∙ s.1) ∙ sym s.2 in
    let lived_g = have-lived note step c count g life_g one.lived.run one.lived.complete one.keeps g.first
    (λ n low. refl) in
    let lived_h = have-lived note step c count h life_h two.lived.run two.lived.complete two.keeps g.first first in
    let same = all-same note step c course count g.first (events_of g) (events_of h) lived_g lived_h in
    let last : (n : ℕ) → n < count → ◌≡◌ {A = Past S} (last_of note step g n) (last_of note step h n) =
    λ n low. same-last note step g h n (sym (first n low)) (life_g n low ∙ sym (life_h n low)) (same n low) in
    let all_journals = one.each_has_journal in
    let all_nodes = one.each_is_back in (
      same-by_number count g h same,
      each-same journals books (one.each_has_journal ∙ sym two.each_has_journal) (λ k at.
          let low : k < count = omega (arith, at, all_journals) in
          one.lived.theirs.writes k low
          ∙ ap (λ (s : Past S). Some s.journal) (last k low)
          ∙ sym (two.lived.theirs.writes k low)),
      each-same nodes others (one.each_is_back ∙ sym two.each_is_back) (λ k at.
          let low : k < count = omega (arith, at, all_nodes) in
          one.lived.theirs.ends k low
          ∙ ap (λ (s : Past S). Some s.state) (last k low)
          ∙ sym (two.lived.theirs.ends k low)),
    )
