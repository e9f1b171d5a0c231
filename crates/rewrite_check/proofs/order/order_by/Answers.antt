use Rattle.std.proofs.Common.{◌≡◌, Some, true≢false, sym, ◌∙◌, subst}
use Rattle.std.specs.List.{AllZip}
use Rattle.query_resolve.specs.Names.{name_place}
use Rattle.rewrite_check.specs.Spelling.{IsOrderBy}
use Rattle.rewrite_check.proofs.Places.{whole_order, not_whole}
use Rattle.rewrite_check.proofs.order.order_by.Goals as goal
use Rattle.rewrite_check.proofs.order.order_by.Goals.{else-branch-via-then-branch+else-whole, else-branch-via-else-branch}

pub returns-then-whole : goal.returns-then-whole
returns-then-whole c =
    let claim = c.args.claim.now in
    let order = c.add_places-added.new.order.items in
    let added = c.in_ok-added.ensures.added c.if-branch.true in
    subst (IsOrderBy claim.select claim.query c.args.names.now) (sym c.from_vec.ensures)
    (whole_order claim.select claim.query c.args.names.now c.as_slice.result.now order c.as_slice-2.result.now c.len.result c.as_slice.ensures c.as_slice-2.ensures.value c.len.ensures added.0 c.requires added.1
    (c.has_each-whole.ensures.0 c.if-whole.true))

pub returns : goal.returns
returns c = λ other by.
    let claim = c.args.claim.now in
    let order = c.add_places-added.new.order.items in
    elim c.else-branch.branch [
      | else-branch-via-then-branch+else-whole w ↦
          not_whole claim.select claim.query c.args.names.now c.as_slice.result.now order c.as_slice-2.result.now c.len.result c.as_slice.ensures c.as_slice-2.ensures.value c.len.ensures
          (c.in_ok-added.ensures.added w.if-branch.true).0 (λ all. true≢false (sym (c.has_each-whole.ensures.1 all) ∙ w.if-whole.false)) other by
      | else-branch-via-else-branch w ↦
          c.in_ok-added.ensures.none w.if-branch.false other (subst (λ z. AllZip (λ n F. name_place z n ≡ Some F) c.args.names.now other) (sym c.as_slice.ensures) by.0) by.1.apart
    ]
