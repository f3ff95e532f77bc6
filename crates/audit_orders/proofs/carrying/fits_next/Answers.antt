use Rattle.audit_orders.proofs.Posting.{fits_is}
use Rattle.audit_orders.proofs.carrying.fits_next.Goals as goal

pub returns-in-Got : goal.returns-in-Got
returns-in-Got c =
    fits_is c.args.course.now c.args.post.now c.args.got.now c.args.e.now.stamp.beat c.args.e.now.what c.in-Got.link c.in-Got.note
    c.stream_of-stream.result c.get.result c.get-mail.result c.fits_mail.result c.in-Got.is c.stream_of-stream.ensures c.get.ensures
    c.get-mail.ensures c.fits_mail.ensures
