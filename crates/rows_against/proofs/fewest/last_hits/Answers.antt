use Rattle.std.proofs.Common.{◌+◌, refl, sym, subst, arith, rules}
use Rattle.std.proofs.lemmas.List.Sorted.{IsNonDecreasingBy-from_sort_by}
use Rattle.rows_against.specs.Fewest.{AreLastHits}
use Rattle.rows_against.proofs.Choosing.{one_more, reordered}
use Rattle.rows_against.proofs.fewest.last_hits.Goals as goal

pub loop-witness-preserved : goal.loop-witness-preserved
loop-witness-preserved c =
    let hits = c.args.hits.now in
    let at = c.loop-witness.witness in
    subst (AreLastHits hits (at + 1)) (sym c.in_ok-push.ensures.items)
    (one_more hits at c.loop-witness.lasts.items (record { number = c.last_hit-number.result; witness = at }) c.loop-witness.invariant refl c.last_hit-number.ensures)

pub returns-clause-all : goal.returns-clause-all
returns-clause-all c =
    reordered c.args.hits.now c.args.witnesses c.loop-witness.lasts.items c.sort_unstable_by.new.self.items c.sort_unstable_by.ensures.permutation
    (subst (λ n. AreLastHits c.args.hits.now n c.loop-witness.lasts.items) (let end = c.loop-witness.auto.witness-end in let past = c.loop-witness-test.false in omega (arith, end, past)) c.loop-witness.invariant)

pub returns-clause-rising : goal.returns-clause-rising
returns-clause-rising c = IsNonDecreasingBy-from_sort_by (λ x. x.number) _ c.sort_unstable_by.ensures.sorted (λ a r q k. search rules)
