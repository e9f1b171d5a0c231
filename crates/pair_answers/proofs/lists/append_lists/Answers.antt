use Rattle.std.proofs.Common.{rules, sym, subst}
use Rattle.pair_answers.proofs.Listing.{AreListedSoFar, listed-none, listed-more, listed-all}
use Rattle.pair_answers.proofs.lists.append_lists.Goals as goal

pub loop-x-init : goal.loop-x-init
loop-x-init c = listed-none c.args.side.now.bound.now.query.now c.args.side.now.row.now c.args.side.now.columns.now c.args.side.now.atom c.args.rows.now c.args.lists.now.items c.into_iter-x-iterator.result (search rules)

pub loop-x-preserved : goal.loop-x-preserved
loop-x-preserved c =
    let q = c.args.side.now.bound.now.query.now in
    let columns = c.args.side.now.columns.now in
    subst (AreListedSoFar q c.args.side.now.row.now columns c.args.side.now.atom c.args.rows.now c.next.new.self c.args.lists.now.items) (sym c.in_ok-push.ensures.items)
    (listed-more q c.args.side.now.row.now columns c.args.side.now.atom c.args.rows.now c.args.lists.now.items c.loop-x.x-iterator c.next.new.self c.in-Some.x.now c.loop-x.lists.items c.list_of.result c.loop-x.invariant c.in-Some.ensures.steps c.list_of.ensures)

pub returns : goal.returns
returns c = listed-all c.args.side.now.bound.now.query.now c.args.side.now.row.now c.args.side.now.columns.now c.args.side.now.atom c.args.rows.now c.args.lists.now.items c.loop-x.x-iterator c.loop-x.lists.items c.loop-x.invariant c.in-None.ensures.steps.0
