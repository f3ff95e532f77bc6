use Rattle.std.proofs.Common.{ap, sym, ◌∙◌, map, length}
use Rattle.tiger_base.specs.declared.number.NodeNo.{NodeNo}
use Rattle.node_kit.specs.Courses.{setting_of}
use Rattle.node_kit.specs.Life.{lifetime_of}
use Rattle.node_kit.specs.Rows.{each_below}
use Rattle.node_kit.specs.Links.{link_count}
use Rattle.ring_engine.specs.Places.{new_channel}
use Rattle.ring_cells.proofs.Keeping.{share-opens}
use Rattle.ring_cells.proofs.Pouring.{closed-none}
use Rattle.ring_cells.proofs.share.Share.new.Goals as goal

pub invariant_of-result : goal.invariant_of-result
invariant_of-result g c =
    let W = g.W.Named in
    let r = c.requires in
    let course = c.args.course.now in (
      r.course.beats,
      λ _. share-opens g.M.Message.note_of g.T.Node.step g.T.Node.stands_at W.course course W.opening W.line W.home c.args.number
          c.args.numbers.items c.in_ok-dials.dials.items c.in_ok-mail.mail.links c.args.nodes.items c.in_ok-lives.lives.items c.in_ok-journals.journals.items c.in_ok-mail.mail.channels c.args.ins.items c.args.outs.items
          r.named r.course (c.in_ok-mail.ensures.links ∙ r.links)
          (c.in_ok-dials.ensures ∙ ap (map (λ (n : NodeNo). setting_of course n.0)) c.as_slice.ensures.value)
          (c.in_ok-lives.ensures ∙ ap (map (λ (n : NodeNo). lifetime_of course n.0)) c.as_slice-2.ensures.value)
          (c.in_ok-journals.ensures ∙ ap (each_below (λ _. _)) (c.len.ensures ∙ c.args.numbers.ok.0))
          (c.in_ok-mail.ensures.channels ∙ ap (λ t. each_below (new_channel course) (link_count t)) (sym c.in_ok-mail.ensures.links)) r.members r.given r.ins r.outs,
      λ _. c.new-2.ensures,
      λ _. closed-none 0 c.args.ins.items,
    )
