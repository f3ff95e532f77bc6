use Rattle.std.proofs.Common.{sym, ◌∙◌}
use Rattle.node_kit.specs.Links.{links_of, viewers_of}
use Rattle.run_model.specs.Served.{journal_at}
use Rattle.run_model.proofs.Bytes.{empty_parcels, none_is_got}
use Rattle.run_model.proofs.parcels.none_got.Goals as goal

pub returns : goal.returns
returns c =
    let p = c.args.k.now.course.plan.params in
    let journals = c.args.k.now.journals in
    rw (c.some_in.ensures, c.viewers_journal.ensures)
    (sym (empty_parcels c.args.v.0 c.args.n c.args.form (journal_at journals (viewers_of (links_of p))))
    ∙ none_is_got p journals c.args.v.0 c.args.n c.args.form)
