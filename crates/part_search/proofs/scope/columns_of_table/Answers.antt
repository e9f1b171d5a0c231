use Rattle.std.proofs.Common.{sym, subst, List, ℕ, Contains}
use Rattle.part_search.proofs.Scoping.{parts-none, parts-more, parts-all}
use Rattle.part_search.proofs.scope.columns_of_table.Goals as goal

pub loop-query-init : goal.loop-query-init
loop-query-init c = parts-none c.args.parts.now c.args.table c.new-columns.result.items

pub loop-query-preserved : goal.loop-query-preserved
loop-query-preserved c =
    parts-more c.args.parts.now c.args.table c.loop-query.query-index c.query-item.result c.loop-query.columns.items c.add_spoken.new.columns.items c.loop-query-test.true c.query-item.is c.loop-query.invariant
    c.in_ok-add_spoken.ensures.kept c.in_ok-add_spoken.ensures.added

pub returns : goal.returns
returns c q m col s l e =
    subst (λ (xs : List ℕ). Contains xs col.col) (sym c.from_vec.ensures) ((c.put_in_order.ensures.same col.col).1
    (parts-all c.args.parts.now c.args.table c.loop-query.query-index c.loop-query.columns.items c.loop-query-test.false c.loop-query.invariant q m col s l e))
