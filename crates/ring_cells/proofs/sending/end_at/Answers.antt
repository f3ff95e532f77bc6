use Rattle.std.proofs.Common.{◌≡◌, Some, ap, ◌∙◌, arith}
use Rattle.std.specs.Prelude.{slice_get, slice_set, vec_len}
use Rattle.std.proofs.lemmas.Option.{slice_get_read}
use Rattle.ring_cells.specs.Shares.{Exit, closed_out}
use Rattle.ring_cells.proofs.Letting.{wired-exit, gone-open}
use Rattle.ring_cells.proofs.sending.end_at.Goals as goal

pub let_out-requires : goal.let_out-requires
let_out-requires g c =
    let there : slice_get c.args.row.now.items c.args.n ≡ Some c.index_mut-port.result.now = slice_get_read _ (vec_len c.args.row.now) _ _ c.args.row.now.ok.0 c.requires.here c.index_mut-port.ensures.value in
    wired-exit _ c.args.row.now.items c.args.n _ c.requires.wired there

pub end_beat-requires-clause-open : goal.end_beat-requires-clause-open
end_beat-requires-clause-open g c =
    let there : slice_get c.args.row.now.items c.args.n ≡ Some c.index_mut-port.result.now = slice_get_read _ (vec_len c.args.row.now) _ _ c.args.row.now.ok.0 c.requires.here c.index_mut-port.ensures.value in
    gone-open c.args.beat _ _ _ _ (wired-exit _ c.args.row.now.items c.args.n _ c.requires.wired there) (c.requires.open _ there) c.in_ok-let_out.ensures.out

pub returns-clause-ended : goal.returns-clause-ended
returns-clause-ended g c =
    let there : slice_get c.args.row.now.items c.args.n ≡ Some c.index_mut-port.result.now = slice_get_read _ (vec_len c.args.row.now) _ _ c.args.row.now.ok.0 c.requires.here c.index_mut-port.ensures.value in
    record {
      port = c.index_mut-port.result.now;
      stood = there;
      then_port = c.let_out.new.port;
      changed = ap (slice_set c.args.row.now.items c.args.n) c.end_beat.ensures;
      out = c.in_ok-let_out.ensures.out;
    }
