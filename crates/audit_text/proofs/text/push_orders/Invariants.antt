use Rattle.std.proofs.Common.{◌≡◌, ◌++◌, drop, map}
use Rattle.node_kit.specs.declared.course.Order.{Order}
use Rattle.audit_text.specs.declared.item.Item.TheVariants as item
use Rattle.audit_text.specs.Texts.{text_in}
use Rattle.audit_text.proofs.text.push_orders.Given as goal

-- with what is left, it will be the whole
abbrev pub invariant-loop-order : goal.invariant-loop-order
invariant-loop-order l =
    l.text.items ++ text_in (map (λ (x : Order). item.Order x) (drop l.order-index l.orders))
    ≡ l.fn.text.items ++ text_in (map (λ (x : Order). item.Order x) l.orders)
