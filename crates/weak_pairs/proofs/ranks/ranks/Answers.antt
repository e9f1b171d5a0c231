use Rattle.std.proofs.Common.{◌≡◌, ◌∙◌, ◌+◌, ◌<◌, ◌∷◌, ℕ, [], length, length-append, subst, sym, arith, slice_index}
use Rattle.weak_pairs.specs.Digests.{lists_in}
use Rattle.weak_pairs.specs.EdgeNumbers.{HaveOne}
use Rattle.weak_pairs.specs.Ranks.{IsRank}
use Rattle.weak_pairs.proofs.Chaining.{each_pushed}
use Rattle.weak_pairs.proofs.Ranking.{by-order}
use Rattle.weak_pairs.proofs.ranks.ranks.Goals as goal

pub loop-at-preserved : goal.loop-at-preserved
loop-at-preserved c =
    let lists = c.args.lists.now.form in
    let order = c.in_ok-order.order.items in
    let old = c.loop-at.ranks.items in
    let at = c.loop-at.at in
    let i = c.loop-at.invariant in
    let more = c.in_ok-push.ensures.items in
    let size = length-append old (c.bucket.result ∷ []) in
    let sizes = i.size in
    record {
      size = subst (λ z. length z ≡ at + 1) (sym more) (omega (arith, size, sizes));
      are = subst (λ z. (k : ℕ) → k < at + 1 → HaveOne (lists_in lists) k k → IsRank lists order k (slice_index z k) × (slice_index z k < length (lists_in lists))) (sym more)
          (λ k l. each_pushed (λ j r. HaveOne (lists_in lists) j j → IsRank lists order j r × (r < length (lists_in lists))) old at c.bucket.result k i.size l
          (subst (λ o. HaveOne (lists_in lists) at at → IsRank lists o at c.bucket.result × (c.bucket.result < length (lists_in lists))) c.deref.ensures.value c.bucket.ensures) (λ low. i.are k low));
    }

pub returns : goal.returns
returns c =
    let lists = c.args.lists.now.form in
    let i = c.loop-at.invariant in
    let end : c.loop-at.at ≡ length (lists_in lists) = (let a = c.loop-at-test.false in let b = c.loop-at.auto.at-end in omega arith) in
    by-order lists c.in_ok-order.order.items c.loop-at.ranks.items (i.size ∙ end) c.in_ok-order.ensures (λ k l. i.are k (omega (arith, end, l)))
