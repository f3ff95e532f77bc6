use Rattle.std.proofs.Common.{◌≡◌, true, is_some, ap}
use Rattle.partial_view.specs.Lines.{visit_of}
use Rattle.partial_view.specs.Views.{Seen, line_at}
use Rattle.cub_messages.proofs.Adding.{known_where_some, known_took}
use Rattle.cub_messages.proofs.records.take_record.Goals as goal

pub returns-in_default : goal.returns-in_default
returns-in_default c =
    let there : is_some (line_at (visit_of c.args.rec) c.args.store.now.view.lines) ≡ true =
    known_where_some c.args.rec c.args.store.now.view.lines c.in_ok-add.field-0 c.in_ok-add.ensures.answer c.in_default.not-New in
    record {
      did = known_took c.args.rec c.args.store.now c.add.new.self c.args.out.now there c.in_ok-add.ensures.ok;
      params = ap (λ (v : Seen). v.params) c.in_ok-add.ensures.ok;
    }
