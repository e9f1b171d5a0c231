use Rattle.std.proofs.Common.{IfOk, sym, subst, length}
use Rattle.weak_pairs.specs.Digests.{lists_in}
use Rattle.weak_pairs.specs.Outcomes.{AreStarts, AreSided, TellsCertainty}
use Rattle.pair_answers.proofs.Told.{pair-told}
use Rattle.pair_answers.proofs.Decided.{starts, sided, told}
use Rattle.pair_answers.proofs.deciding.is_certain.Goals as goal

pub invariant_of-rows-clause-starts : goal.invariant_of-rows-clause-starts
invariant_of-rows-clause-starts c =
    let lists = lists_in c.in_ok-lists.lists.form in
    subst (λ z. AreStarts z (length lists)) (sym c.deref.ensures.value)
    (starts c.args.pair.now.bound.now.db.now c.args.pair.now.bound.now.query.now c.args.row.now (pair-told c.args.pair.now.bound.now.query.now c.args.pair.now.pair) c.args.pair.now.bound.now.fits c.requires c.pair_decided.ensures c.in_ok-starts.starts.first.items c.in_ok-starts.starts.split c.in_ok-starts.ensures.starts
    lists c.in_ok-lists.ensures)

pub invariant_of-rows-clause-sided : goal.invariant_of-rows-clause-sided
invariant_of-rows-clause-sided c =
    let lists = lists_in c.in_ok-lists.lists.form in
    subst (λ z. AreSided lists z c.in_ok-starts.starts.split) (sym c.deref.ensures.value)
    (sided c.args.pair.now.bound.now.db.now c.args.pair.now.bound.now.query.now c.args.row.now (pair-told c.args.pair.now.bound.now.query.now c.args.pair.now.pair) c.args.pair.now.bound.now.fits c.requires c.pair_decided.ensures c.in_ok-starts.starts.first.items c.in_ok-starts.starts.split c.in_ok-starts.ensures.starts
    lists c.in_ok-lists.ensures)

pub returns : goal.returns
returns c =
    let lists = lists_in c.in_ok-lists.lists.form in
    told c.args.pair.now.bound.now.db.now c.args.pair.now.bound.now.query.now c.args.row.now (pair-told c.args.pair.now.bound.now.query.now c.args.pair.now.pair) c.args.pair.now.bound.now.fits c.requires c.pair_decided.ensures c.in_ok-starts.starts.first.items c.in_ok-starts.starts.split c.in_ok-starts.ensures.starts
    lists c.in_ok-lists.ensures c.are_certain-certain.result
    (subst (λ z. IfOk c.are_certain-certain.result (TellsCertainty lists z)) c.deref.ensures.value c.are_certain-certain.ensures)
