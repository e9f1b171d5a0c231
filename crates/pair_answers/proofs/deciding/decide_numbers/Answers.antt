use Rattle.std.proofs.Common.{IfOk, sym, subst, length}
use Rattle.weak_pairs.specs.Digests.{lists_in}
use Rattle.weak_pairs.specs.Outcomes.{AreStarts, AreSided, IsPairDecision}
use Rattle.pair_answers.proofs.Told.{pair-told}
use Rattle.pair_answers.proofs.Decided.{starts, sided, answered}
use Rattle.pair_answers.proofs.deciding.decide_numbers.Goals as goal

pub invariant_of-rows-clause-starts : goal.invariant_of-rows-clause-starts
invariant_of-rows-clause-starts c =
    let lists = lists_in c.in_ok-lists.lists.form in
    subst (λ z. AreStarts z (length lists)) (sym c.deref.ensures.value)
    (starts c.args.pair.now.bound.now.db.now c.args.pair.now.bound.now.query.now c.args.row.now (pair-told c.args.pair.now.bound.now.query.now c.args.pair.now.pair) c.args.pair.now.bound.now.fits c.requires c.pair_decided.ensures c.in_ok-starts.starts.first.items c.in_ok-starts.starts.split c.in_ok-starts.ensures.starts
    lists c.in_ok-lists.ensures)

pub invariant_of-rows-clause-sided : goal.invariant_of-rows-clause-sided
invariant_of-rows-clause-sided c =
    let lists = lists_in c.in_ok-lists.lists.form in
    subst (λ z. AreSided lists z c.in_ok-starts.starts.split) (sym c.deref.ensures.value)
    (sided c.args.pair.now.bound.now.db.now c.args.pair.now.bound.now.query.now c.args.row.now (pair-told c.args.pair.now.bound.now.query.now c.args.pair.now.pair) c.args.pair.now.bound.now.fits c.requires c.pair_decided.ensures c.in_ok-starts.starts.first.items c.in_ok-starts.starts.split c.in_ok-starts.ensures.starts
    lists c.in_ok-lists.ensures)

pub returns : goal.returns
returns c =
    let lists = lists_in c.in_ok-lists.lists.form in
    answered c.args.pair.now.bound.now.db.now c.args.pair.now.bound.now.query.now c.args.row.now (pair-told c.args.pair.now.bound.now.query.now c.args.pair.now.pair) c.args.pair.now.bound.now.fits c.requires c.pair_decided.ensures c.in_ok-starts.starts.first.items c.in_ok-starts.starts.split c.in_ok-starts.ensures.starts
    lists c.in_ok-lists.ensures c.decide_rows.result
    (subst (λ z. IfOk c.decide_rows.result (IsPairDecision lists z)) c.deref.ensures.value c.decide_rows.ensures)
