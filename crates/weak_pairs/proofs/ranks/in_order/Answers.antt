use Rattle.std.proofs.Common.{◌≡◌, ◌∙◌, length, arith}
use Rattle.weak_pairs.specs.Digests.{lists_in}
use Rattle.weak_pairs.proofs.Ranking.{ordered}
use Rattle.weak_pairs.proofs.ranks.in_order.Goals as goal

pub returns : goal.returns
returns c =
    let lists = c.args.lists.now.form in
    let i = c.loop-at.invariant in
    let end : c.loop-at.at ≡ length (lists_in lists) = (let a = c.loop-at-test.false in let b = c.loop-at.auto.at-end in omega arith) in
    ordered lists c.loop-at.order.items c.put_in_order.new.places.items (i.size ∙ end) (λ k l. i.each k (omega (arith, end, l))) c.put_in_order.ensures.same c.put_in_order.ensures.sorted
