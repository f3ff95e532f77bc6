use Rattle.std.proofs.Common.{◌≡◌, ◌∙◌, ap, sym, arith, length, Option}
use Rattle.partial_view.specs.declared.line.Line.{Line}
use Rattle.partial_view.specs.Adding.{answer_at}
use Rattle.partial_view.specs.Lines.{visit_of}
use Rattle.partial_view.specs.Views.{Seen, IsGapAt}
use Rattle.partial_view.proofs.Calls.{record_of, line-gap, with_record-known}
use Rattle.partial_view.proofs.Places.{place_most}
use Rattle.partial_view.proofs.Rows.{row-told, row-line, row-other, row-none, row-added, row-added-walk}
use Rattle.partial_view.proofs.bucket.Bucket.add.Goals as goal
use Rattle.partial_view.proofs.bucket.Bucket.add.Goals.{in-Some+else-eq, in_default}

pub returns-then-eq-clause-answer : goal.returns-then-eq-clause-answer
returns-then-eq-clause-answer c =
    let r = row-told c.self.inside.lines c.args.self.now c.lines.result.now c.dues.result.now (visit_of c.args.rec) c.args.due c.place_near-row.result c.self.view_is c.lines.ensures.lines c.dues.ensures c.self.invariant c.requires.due c.place_near-row.ensures in
    c.known.ensures ∙ ap (λ (o : Option Line). answer_at c.args.rec.tenancy.instance o) (row-line c.args.self.now c.lines.result.now c.lines-2.result.now (visit_of c.args.rec) c.place_near-row.result r (c.lines-2.ensures.lines ∙ ap (λ (s : Seen). s.lines) c.self.view_is) c.in-Some.there.now c.in-Some.ensures.lookup.0 c.in-Some.ensures.lookup.1 c.key.result c.key.ensures c.eq.ensures c.if-eq.true)

pub returns-then-eq-clause-ok : goal.returns-then-eq-clause-ok
returns-then-eq-clause-ok c =
    let r = row-told c.self.inside.lines c.args.self.now c.lines.result.now c.dues.result.now (visit_of c.args.rec) c.args.due c.place_near-row.result c.self.view_is c.lines.ensures.lines c.dues.ensures c.self.invariant c.requires.due c.place_near-row.ensures in
    c.self.view_is ∙ sym (ap (record_of c.args.self.now.params) (with_record-known c.args.self.now.params c.args.rec c.args.self.now.lines c.in-Some.there.now
    (sym (row-line c.args.self.now c.lines.result.now c.lines-2.result.now (visit_of c.args.rec) c.place_near-row.result r (c.lines-2.ensures.lines ∙ ap (λ (s : Seen). s.lines) c.self.view_is) c.in-Some.there.now c.in-Some.ensures.lookup.0 c.in-Some.ensures.lookup.1 c.key.result c.key.ensures c.eq.ensures c.if-eq.true))))

pub insert-requires-clause-place : goal.insert-requires-clause-place
insert-requires-clause-place c =
    let r = row-told c.self.inside.lines c.args.self.now c.lines.result.now c.dues.result.now (visit_of c.args.rec) c.args.due c.place_near-row.result c.self.view_is c.lines.ensures.lines c.dues.ensures c.self.invariant c.requires.due c.place_near-row.ensures in
    let same : c.match-get.self-inside.lines ≡ c.args.self.now = elim c.match-get.branch [
      | in-Some+else-eq w ↦ ap (λ x. x.lines) w.self-inside-is ∙ c.self.view_is
      | in_default w ↦ ap (λ x. x.lines) w.self-inside-is ∙ c.self.view_is
    ] in
    omega (arith, r.row, place_most c.args.self.now.params (visit_of c.args.rec) c.args.self.now.lines, ap (λ (s : Seen). length s.lines) same)

pub invariant_of-self-2 : goal.invariant_of-self-2
invariant_of-self-2 c =
    let r = row-told c.self.inside.lines c.args.self.now c.lines.result.now c.dues.result.now (visit_of c.args.rec) c.args.due c.place_near-row.result c.self.view_is c.lines.ensures.lines c.dues.ensures c.self.invariant c.requires.due c.place_near-row.ensures in
    let gap : IsGapAt c.args.self.now.params (visit_of c.args.rec) c.args.self.now.lines c.place_near-row.result = elim c.match-get.branch [
      | in-Some+else-eq w ↦ row-other c.args.self.now c.lines.result.now c.lines-2.result.now (visit_of c.args.rec) c.place_near-row.result r (c.lines-2.ensures.lines ∙ ap (λ (s : Seen). s.lines) c.self.view_is) w.in-Some.there.now w.in-Some.ensures.lookup.1 w.key.result w.key.ensures w.eq.ensures w.if-eq.false
      | in_default w ↦ row-none c.args.self.now c.lines.result.now c.lines-2.result.now (visit_of c.args.rec) c.place_near-row.result r (c.lines-2.ensures.lines ∙ ap (λ (s : Seen). s.lines) c.self.view_is) w.in_default.ensures.lookup.0
    ] in
    let same : c.match-get.self-inside.lines ≡ c.args.self.now = elim c.match-get.branch [
      | in-Some+else-eq w ↦ ap (λ x. x.lines) w.self-inside-is ∙ c.self.view_is
      | in_default w ↦ ap (λ x. x.lines) w.self-inside-is ∙ c.self.view_is
    ] in
    row-added-walk c.match-get.self-inside.lines c.args.self.now c.insert.new.self c.args.rec c.place_near-row.result same r.walk c.requires.key gap c.in_ok-insert.ensures.ok

pub returns-clause-answer : goal.returns-clause-answer
returns-clause-answer c =
    let r = row-told c.self.inside.lines c.args.self.now c.lines.result.now c.dues.result.now (visit_of c.args.rec) c.args.due c.place_near-row.result c.self.view_is c.lines.ensures.lines c.dues.ensures c.self.invariant c.requires.due c.place_near-row.ensures in
    let gap : IsGapAt c.args.self.now.params (visit_of c.args.rec) c.args.self.now.lines c.place_near-row.result = elim c.match-get.branch [
      | in-Some+else-eq w ↦ row-other c.args.self.now c.lines.result.now c.lines-2.result.now (visit_of c.args.rec) c.place_near-row.result r (c.lines-2.ensures.lines ∙ ap (λ (s : Seen). s.lines) c.self.view_is) w.in-Some.there.now w.in-Some.ensures.lookup.1 w.key.result w.key.ensures w.eq.ensures w.if-eq.false
      | in_default w ↦ row-none c.args.self.now c.lines.result.now c.lines-2.result.now (visit_of c.args.rec) c.place_near-row.result r (c.lines-2.ensures.lines ∙ ap (λ (s : Seen). s.lines) c.self.view_is) w.in_default.ensures.lookup.0
    ] in
    ap (λ (o : Option Line). answer_at c.args.rec.tenancy.instance o) (sym (line-gap c.args.self.now.params (visit_of c.args.rec) c.args.self.now.lines c.place_near-row.result r.walk gap))

pub returns-clause-ok : goal.returns-clause-ok
returns-clause-ok c =
    let r = row-told c.self.inside.lines c.args.self.now c.lines.result.now c.dues.result.now (visit_of c.args.rec) c.args.due c.place_near-row.result c.self.view_is c.lines.ensures.lines c.dues.ensures c.self.invariant c.requires.due c.place_near-row.ensures in
    let gap : IsGapAt c.args.self.now.params (visit_of c.args.rec) c.args.self.now.lines c.place_near-row.result = elim c.match-get.branch [
      | in-Some+else-eq w ↦ row-other c.args.self.now c.lines.result.now c.lines-2.result.now (visit_of c.args.rec) c.place_near-row.result r (c.lines-2.ensures.lines ∙ ap (λ (s : Seen). s.lines) c.self.view_is) w.in-Some.there.now w.in-Some.ensures.lookup.1 w.key.result w.key.ensures w.eq.ensures w.if-eq.false
      | in_default w ↦ row-none c.args.self.now c.lines.result.now c.lines-2.result.now (visit_of c.args.rec) c.place_near-row.result r (c.lines-2.ensures.lines ∙ ap (λ (s : Seen). s.lines) c.self.view_is) w.in_default.ensures.lookup.0
    ] in
    let same : c.match-get.self-inside.lines ≡ c.args.self.now = elim c.match-get.branch [
      | in-Some+else-eq w ↦ ap (λ x. x.lines) w.self-inside-is ∙ c.self.view_is
      | in_default w ↦ ap (λ x. x.lines) w.self-inside-is ∙ c.self.view_is
    ] in
    row-added c.match-get.self-inside.lines c.args.self.now c.insert.new.self c.args.rec c.place_near-row.result same r.walk gap c.in_ok-insert.ensures.ok
