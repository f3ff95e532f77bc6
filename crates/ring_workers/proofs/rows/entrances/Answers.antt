use Rattle.std.proofs.Common.{ap, ◌∙◌, arith}
use Rattle.node_kit.specs.Links.{ends_of, link_count}
use Rattle.ring_cells.proofs.Making.{ins-open, ins-all}
use Rattle.ring_workers.specs.Sharing.{enters_by}
use Rattle.ring_workers.proofs.Crossing.{ins-step}
use Rattle.ring_workers.proofs.Opening.{named-left}
use Rattle.ring_workers.proofs.Places.{left-all, left-on}
use Rattle.ring_workers.proofs.rows.entrances.Goals as goal

pub loop-link-init : goal.loop-link-init
loop-link-init g c = record { made = λ line named. ins-open line c.args.course.now c.args.numbers.now _ c.new-ports.ensures.items; left = left-all _ }

pub loop-link-preserved : goal.loop-link-preserved
loop-link-preserved g c =
    let inv = c.loop-link.invariant in
    let test = c.enters-wanted.ensures ∙ ap (λ t. enters_by c.args.homes.now c.args.share (ends_of t c.loop-link.link)) c.requires.links in
    record {
      made = λ line named. ins-step c.args.course.now c.args.homes.now c.args.share c.args.numbers.now c.requires.members line c.loop-link.link c.enters-wanted.result c.args.ends.now.items c.loop-link.ends.items _ _ test
          (named-left line _ _ named inv.left) c.in_ok-add_entrance.ensures.added (inv.made line named);
      left = left-on _ _ _ inv.left c.in_ok-add_entrance.ensures.left;
    }

pub returns-clause-fresh : goal.returns-clause-fresh
returns-clause-fresh g c line named =
    ins-all line c.args.course.now c.args.numbers.now c.loop-link.link _ (omega (arith, c.loop-link-test.false, c.count-link-end.ensures, ap link_count c.requires.links)) (c.loop-link.invariant.made line named)
