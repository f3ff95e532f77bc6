use Rattle.std.proofs.Common.{ap, ◌∙◌, ◌||◌, Option}
use Rattle.std.proofs.lemmas.Result.{on_ok_weaker}
use Rattle.run_facts.specs.Order.{Noted}
use Rattle.audit_frame.specs.Lines.{noted_line}
use Rattle.audit_blocks.specs.declared.cargo.Cargo.{Cargo}
use Rattle.audit_blocks.specs.Cargo.{cargo_got, whole_for, numbered_for}
use Rattle.audit_blocks.specs.Entries.{puts_for, death_of_node, return_of_node, stops_below, fails_reading, fails_at_cub}
use Rattle.audit_blocks.specs.Parts.{has_part}
use Rattle.audit_blocks.specs.Told.{is_some_piece, sends_cargo}
use Rattle.audit_blocks.proofs.Adding.{grown, noticed, came_grown}
use Rattle.audit_blocks.proofs.tables.Tables.take.Goals as goal

pub returns : goal.returns
returns c =
    let x = noted_line c.args.line.now in
    let p = c.args.plan.now.params in
    on_ok_weaker c.keep_visit.result (λ kept log told. record {
      put = λ v. grown (puts_for v) log x _ _ (c.in_ok-keep_put.ensures v) (told.put v);
      died = λ n. grown (death_of_node n) log x _ _ (c.in_ok-keep_death.ensures n) (told.died n);
      returned = λ n. grown (return_of_node n) log x _ _ (c.in_ok-keep_return.ensures n) (told.returned n);
      stopped = λ v time. noticed (stops_below p v time) log x _ _ (c.in_ok-keep_stop.ensures p v time) (told.stopped v time);
      failed = λ v n k. noticed (fails_reading v n k) log x _ _ (c.in_ok-keep_failed.ensures v n k) (told.failed v n k);
      failed_whole = λ v n. noticed (fails_at_cub p v n) log x _ _ (c.in_ok-keep_failed_whole.ensures v n) (told.failed_whole v n);
      sent = λ k w r. noticed (sends_cargo k w r) log x _ _ (c.in_ok-keep_sent.ensures k w r) (told.sent k w r);
      whole = λ v n. came_grown (λ (y : Noted). whole_for v n (cargo_got p y)) log x _ _ (ap (whole_for v n) c.cargo_got-got.ensures)
          (c.in_ok-keep_whole.ensures v n _ (told.whole v n));
      piece = λ v n k. came_grown (λ (y : Noted). numbered_for v n k (cargo_got p y)) log x _ _ (ap (numbered_for v n k) c.cargo_got-got.ensures)
          (c.in_ok-keep_piece.ensures v n k _ (told.piece v n k));
      pieces = λ v n. noticed (λ (y : Noted). is_some_piece v n (cargo_got p y)) log x _ _
          (kept v n ∙ ap (λ (o : Option Cargo). has_part v n 0 c.args.self.now.visits || is_some_piece v n o) c.cargo_got-got.ensures) (told.pieces v n);
    }) c.keep_visit.ensures
