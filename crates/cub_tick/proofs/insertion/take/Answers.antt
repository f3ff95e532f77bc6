use Rattle.std.proofs.Common.{◌≡◌, sym, ap, append-nil}
use Rattle.partial_view.specs.Views.{Seen}
use Rattle.cub_tick.proofs.Putting.{took_known, view_known}
use Rattle.cub_tick.proofs.insertion.take.Goals as goal

pub returns-in_default : goal.returns-in_default
returns-in_default c =
    let h = c.args.store.now in
    let nothing_new = took_known c.args.rec h c.in_ok-add.field-0 c.in_ok-add.ensures.answer c.in_default.not-New in
    let same : c.add.new.self ≡ h.view = view_known c.args.rec h.view c.add.new.self c.in_ok-add.field-0 c.in_ok-add.ensures.answer c.in_default.not-New c.in_ok-add.ensures.ok in
    record {
      did = (rw nothing_new (sym (append-nil c.args.out.now)), rw nothing_new (ap (λ (v : Seen). record h { view = v }) same));
      plan = ap (λ (v : Seen). v.params) same;
    }
