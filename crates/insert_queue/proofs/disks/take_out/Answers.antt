use Rattle.std.proofs.Common.{rules, tests, not}
use Rattle.std.proofs.lemmas.Fn.{filter_same}
use Rattle.tiger_base.specs.declared.number.DiskNo.{DiskNo}
use Rattle.insert_queue.specs.Queues.{is_disk}
use Rattle.insert_queue.proofs.disks.take_out.Goals as goal

pub returns : goal.returns
returns c = filter_same _ (λ (x : DiskNo). not (is_disk c.args.disk x)) _ (λ x b q h. search (rules, tests)) _ _ c.retain.ensures.filtered
