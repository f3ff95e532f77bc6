use Rattle.std.proofs.Common.{◌≡◌, None, Some, ap, subst, arith}
use Rattle.std.specs.Prelude.{MatchOption}
use Rattle.node_kit.specs.Links.{Links, ends_of, link_count}
use Rattle.ring_cells.proofs.Making.{outs-open, outs-all}
use Rattle.ring_workers.specs.Sharing.{leaves_by}
use Rattle.ring_workers.proofs.Crossing.{outs-step}
use Rattle.ring_workers.proofs.InRows.{unsent-left}
use Rattle.ring_workers.proofs.Opening.{named-left}
use Rattle.ring_workers.proofs.Places.{left-all, left-on}
use Rattle.ring_workers.proofs.rows.exits.Goals as goal

pub loop-link-init : goal.loop-link-init
loop-link-init g c = record {
  made = λ line named. outs-open line c.args.course.now c.args.numbers.now c.in_ok-rows.rows.items c.in_ok-rows.ensures.size c.in_ok-rows.ensures.none;
  left = left-all _;
  unsent = c.requires.unsent;
}

pub loop-link-preserved : goal.loop-link-preserved
loop-link-preserved g c =
    let inv = c.loop-link.invariant in
    let test = subst (λ (t : Links). MatchOption c.leaves-from.result (leaves_by c.args.homes.now c.args.share (ends_of t c.loop-link.link) ≡ None)
    (λ n. leaves_by c.args.homes.now c.args.share (ends_of t c.loop-link.link) ≡ Some n.0)) c.requires.links c.leaves-from.ensures in
    record {
      made = λ line named. outs-step c.args.course.now c.args.homes.now c.args.share c.args.numbers.now c.requires.members line c.loop-link.link c.leaves-from.result c.loop-link.ends.items _ _ test
          (named-left line _ _ named inv.left) c.in_ok-add_exit.ensures.added (inv.made line named);
      left = left-on _ _ _ inv.left c.in_ok-add_exit.ensures.left;
      unsent = unsent-left _ _ inv.unsent c.in_ok-add_exit.ensures.left;
    }

pub returns-clause-fresh : goal.returns-clause-fresh
returns-clause-fresh g c line named =
    let t = c.trim.ensures in
    outs-all line c.args.course.now c.args.numbers.now c.loop-link.link t.count c.loop-link.rows.items _ (omega (arith, c.loop-link-test.false, c.count-link-end.ensures, ap link_count c.requires.links)) t.front t.empty
    (c.loop-link.invariant.made line named)
