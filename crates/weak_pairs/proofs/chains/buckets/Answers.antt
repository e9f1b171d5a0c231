use Rattle.std.proofs.Common.{◌≡◌, ◌∙◌, length, arith}
use Rattle.weak_pairs.specs.Digests.{lists_in}
use Rattle.weak_pairs.proofs.Coding.{by-hash}
use Rattle.weak_pairs.proofs.chains.buckets.Goals as goal

pub returns : goal.returns
returns c =
    let lists = c.args.lists.now.form in
    let i = c.loop-at.invariant in
    let end : c.loop-at.at ≡ length (lists_in lists) = (let a = c.loop-at-test.false in let b = c.loop-at.auto.at-end in omega (arith, a, b)) in
    by-hash lists c.loop-at.buckets.items (i.size ∙ end) (λ k l. i.are k (omega (arith, end, l)))
