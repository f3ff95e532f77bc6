use Rattle.std.proofs.Common.{◌≡◌, Some}
use Rattle.std.specs.Prelude.{slice_get, vec_len}
use Rattle.std.proofs.lemmas.Option.{slice_get_read}
use Rattle.ring_cells.proofs.Letting.{wired-at, port-closed, port-short}
use Rattle.ring_cells.proofs.Pouring.{poured-at}
use Rattle.ring_cells.proofs.receiving.await_at.Goals as goal

pub pour-requires : goal.pour-requires
pour-requires g c =
    let there : slice_get c.args.ins.now.items c.args.n ≡ Some c.index_mut-port.result.now = slice_get_read _ (vec_len c.args.ins.now) _ _ c.args.ins.now.ok.0 c.requires.here c.index_mut-port.ensures.value in
    wired-at _ c.args.ins.now.items c.args.n _ c.requires.wired there

pub returns-then-closed-clause-awaited : goal.returns-then-closed-clause-awaited
returns-then-closed-clause-awaited g c =
    let there : slice_get c.args.ins.now.items c.args.n ≡ Some c.index_mut-port.result.now = slice_get_read _ (vec_len c.args.ins.now) _ _ c.args.ins.now.ok.0 c.requires.here c.index_mut-port.ensures.value in
    let low = wired-at _ c.args.ins.now.items c.args.n _ c.requires.wired there in
    port-closed c.args.beat c.args.n c.args.mail.now.channels c.pour.new.mail.channels c.args.ins.now.items c.index_mut-port.result.now c.pour.new.port c.in_ok-closed.closed there low
    c.in_ok-closed.ensures.poured c.in_ok-closed.ensures.closed c.if-closed.true

pub returns-then-closed-clause-poured : goal.returns-then-closed-clause-poured
returns-then-closed-clause-poured g c =
    let there : slice_get c.args.ins.now.items c.args.n ≡ Some c.index_mut-port.result.now = slice_get_read _ (vec_len c.args.ins.now) _ _ c.args.ins.now.ok.0 c.requires.here c.index_mut-port.ensures.value in
    poured-at _ _ c.args.ins.now.items c.args.n c.index_mut-port.result.now c.pour.new.port c.requires.apart there c.in_ok-closed.ensures.poured

pub returns-else-closed-clause-awaited : goal.returns-else-closed-clause-awaited
returns-else-closed-clause-awaited g c =
    let there : slice_get c.args.ins.now.items c.args.n ≡ Some c.index_mut-port.result.now = slice_get_read _ (vec_len c.args.ins.now) _ _ c.args.ins.now.ok.0 c.requires.here c.index_mut-port.ensures.value in
    let low = wired-at _ c.args.ins.now.items c.args.n _ c.requires.wired there in
    port-short c.args.beat c.args.n c.args.mail.now.channels c.pour.new.mail.channels c.args.ins.now.items c.index_mut-port.result.now c.pour.new.port c.in_ok-closed.closed c.link.result there low
    c.in_ok-closed.ensures.poured c.in_ok-closed.ensures.closed c.if-closed.false c.link.ensures

pub returns-else-closed-clause-poured : goal.returns-else-closed-clause-poured
returns-else-closed-clause-poured g c =
    let there : slice_get c.args.ins.now.items c.args.n ≡ Some c.index_mut-port.result.now = slice_get_read _ (vec_len c.args.ins.now) _ _ c.args.ins.now.ok.0 c.requires.here c.index_mut-port.ensures.value in
    poured-at _ _ c.args.ins.now.items c.args.n c.index_mut-port.result.now c.pour.new.port c.requires.apart there c.in_ok-closed.ensures.poured
