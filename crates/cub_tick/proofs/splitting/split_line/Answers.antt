use Rattle.cub_tick.proofs.Splits.{split_one}
use Rattle.cub_tick.proofs.splitting.split_line.Goals as goal

pub returns-clause-store : goal.returns-clause-store
returns-clause-store c =
    split_one c.args.line.rec c.args.store.now _ _ _ c.in_ok-remember.ensures.ok c.in_ok-add_piece.ensures.pieces c.in_ok-add_piece.ensures.unasked
