use Rattle.std.proofs.Common.{refl}
use Rattle.cub_tick.proofs.Served.{serve_all}
use Rattle.cub_tick.proofs.serving.serve.Goals as goal

pub returns : goal.returns
returns c =
    serve_all c.args.site.now.plan.params c.args.site.now.cub.0 c.args.stamp c.args.store.now _ c.args.out.now c.serve_blocks.new.out c.drop_backups.new.out c.serve_pieces.new.out
    c.serve_blocks.new.view c.drop_backups.new.view c.serve_pieces.new.pieces c.drop_leaving.new.pieces
    c.in_ok-serve_blocks.ensures.view c.in_ok-serve_blocks.ensures.outs c.in_ok-drop_backups.ensures.view c.in_ok-drop_backups.ensures.outs
    c.in_ok-serve_pieces.ensures.pieces c.in_ok-serve_pieces.ensures.outs c.drop_leaving.ensures refl
