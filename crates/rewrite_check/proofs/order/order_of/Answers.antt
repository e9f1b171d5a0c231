use Rattle.rewrite_check.proofs.Steps.{order_told, some_names}
use Rattle.rewrite_check.proofs.order.order_of.Goals as goal

pub returns-in-Some : goal.returns-in-Some
returns-in-Some c =
    let text = c.args.text.now in
    let claim = c.args.claim.now in
    order_told text claim.select claim.query c.in-Some.names c.as_slice.result.now c.order_by-order.result (some_names text c.in_ok-names.field-0 c.in-Some.names c.in-Some.is c.in_ok-names.ensures) c.as_slice.ensures c.order_by-order.ensures
