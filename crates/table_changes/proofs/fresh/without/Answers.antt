use Rattle.std.proofs.Common.{◌≡◌, [], length, replicate, not, sym, subst, arith, ◌∙◌}
use Rattle.std.specs.List.{filter}
use Rattle.cqa_model.specs.Database.{block_cmp}
use Rattle.table_blocks.specs.Tables.{ArePlaces}
use Rattle.table_changes.specs.Changes.{is_among}
use Rattle.table_changes.proofs.Membership.{all_new}
use Rattle.table_changes.proofs.Placing.{first_places, filled}
use Rattle.table_changes.proofs.fresh.without.Goals as goal

pub returns-then-is_empty-clause-fresh : goal.returns-then-is_empty-clause-fresh
returns-then-is_empty-clause-fresh c =
    subst (λ stored. c.args.rows.items ≡ filter (λ row. not (is_among stored row)) c.args.rows.items) (sym (c.is_empty.ensures.0 c.if-is_empty.true)) (all_new c.args.rows.items)

pub returns-then-is_empty-clause-placed : goal.returns-then-is_empty-clause-placed
returns-then-is_empty-clause-placed c =
    let none = c.is_empty.ensures.0 c.if-is_empty.true in
    let is = rw (c.new-places.ensures.items, c.new-places.ensures.len) at c.in_ok-resize.ensures.items in
    let whole = c.args.rows.ok.0 in
    let count = c.len.ensures in
    let all : length c.args.rows.items ≡ c.len.result = omega (arith, whole, count) in
    rw (is ∙ filled c.len.result 0, none)
    (subst (λ n. ArePlaces (block_cmp c.args.key.now) [] c.args.rows.items (replicate n 0)) all (first_places (block_cmp c.args.key.now) c.args.rows.items))
