use Rattle.std.proofs.Common.{◌+◌, ◌++◌, [], drop, sym, ap, subst, ◌∙◌, List, append_assoc, append-nil}
use Rattle.node_kit.specs.declared.journal.Entry.{Entry}
use Rattle.run_facts.specs.Order.{Noted, in_beat}
use Rattle.run_model.specs.Slots.{Walks, beat_entries}
use Rattle.run_model.proofs.Walking.{walks_on, walks_none, journals_more, journals_end}
use Rattle.run_model.proofs.slots.Walk.beat.Goals as goal

pub loop-journal-init : goal.loop-journal-init
loop-journal-init c = record {
  done = [];
  rest = ap (λ (js : List (List Entry)). in_beat c.args.beat 0 js) (sym c.as_slice-journal-items.ensures);
  walks = walks_none c.args.self.now;
}

pub loop-journal-preserved : goal.loop-journal-preserved
loop-journal-preserved c =
    let beat = c.args.beat in
    let i = c.loop-journal.journal-index in
    let js = c.as_slice-journal-items.result.now in
    let done = c.loop-journal.invariant.done in
    let here = beat_entries beat i c.as_slice.result.now in
    let far = in_beat beat (i + 1) (drop (i + 1) js) in
    record {
      done = done ++ here;
      rest =
          c.loop-journal.invariant.rest
          ∙ ap (λ (xs : List Noted). done ++ xs)
          (journals_more beat i js c.journal-item.result c.loop-journal-test.true
          ∙ ap (λ (es : List Entry). beat_entries beat i es ++ far) (sym c.journal-item.is ∙ sym c.as_slice.ensures))
          ∙ sym (append_assoc done here far);
      walks = walks_on c.args.self.now c.loop-journal.self c.journal.new.self done here c.loop-journal.invariant.walks (c.in_ok-journal.ensures i);
    }

pub returns : goal.returns
returns c =
    let end = journals_end c.args.beat c.loop-journal.journal-index c.loop-journal.journal-index c.as_slice-journal-items.result.now c.loop-journal-test.false in
    let all = c.loop-journal.invariant.rest ∙ rw end (append-nil c.loop-journal.invariant.done) in
    subst (λ (xs : List Noted). Walks c.args.self.now c.loop-journal.self xs) (sym all) c.loop-journal.invariant.walks
