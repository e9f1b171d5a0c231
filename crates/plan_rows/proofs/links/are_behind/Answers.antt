use Rattle.std.proofs.Common.{ℕ, ◌+◌, get_or, drop, Contains, sym, subst, below_more, arith}
use Rattle.plan_rows.specs.Links.{atoms_on, links_at}
use Rattle.plan_rows.proofs.Grouping.{among-atoms, behind-at}
use Rattle.plan_rows.proofs.links.are_behind.Goals as goal

pub loop-at-preserved : goal.loop-at-preserved
loop-at-preserved c =
    let order = c.args.order.now in
    let ways = c.args.ways.now in
    let rest = c.split_at.result.1.now in
    below_more (λ k. (G : ℕ) → Contains (atoms_on (links_at ways (get_or order k 0))) G → Contains (drop (k + 1) order) G) c.loop-at.at c.loop-at.invariant
    (λ G m. subst (λ p. Contains p G) c.split_at.ensures.back
    (among-atoms c.links_on.result.now rest (c.are_among.ensures c.if-not-are_among.false) G (subst (λ l. Contains (atoms_on l) G) (sym c.links_on.ensures) m)))

pub returns : goal.returns
returns c = λ t front rest F e.
    behind-at c.args.order.now front rest F e (λ H tail. (G : ℕ) → Contains (atoms_on (links_at c.args.ways.now H)) G → Contains tail G)
    (λ k l. c.loop-at.invariant k (omega (arith, c.loop-at-test.false, c.loop-at.auto.at-end, l)))
