use Rattle.std.proofs.Common.{◌≡◌, ℕ, ◌+◌, ◌<◌, length, replicate, sym, ap, ◌∙◌, subst, arith, take, slice_index, refl}
use Rattle.std.proofs.lemmas.List.{length-replicate, length-set, get_or_default, get_or-set_other, take_more_set}
use Rattle.weak_pairs.specs.EdgeNumbers.{AreChained, IsLinked}
use Rattle.weak_pairs.proofs.Chaining.{linked, none-chained, none-last}
use Rattle.weak_pairs.proofs.chains.chains.Goals as goal

pub loop-at-init : goal.loop-at-init
loop-at-init c =
    let m = length c.args.buckets.items in
    let last = c.as_mut_slice-last.result.now in
    let count : c.len.result ≡ m = (let e = c.len.ensures in let o = c.args.buckets.ok in omega (arith, e, o)) in
    let none : last ≡ replicate m 0 = c.as_mut_slice-last.ensures.value ∙ c.in_ok-ends.ensures.items_if_clones_equal (λ y e. e) ∙ ap (λ n. replicate {A = ℕ} n 0) count in
    let size : length last ≡ m = ap (λ z. length z) none ∙ length-replicate m 0 in
    record {
      size = refl;
      buckets = size;
      last = none-last (λ i. slice_index c.args.buckets.items i) m last none size;
      chained = none-chained (λ i. slice_index c.args.buckets.items i) m;
      rest = λ i l. refl;
    }

pub loop-at-preserved : goal.loop-at-preserved
loop-at-preserved c =
    let first = c.args.buckets.items in
    let m = length first in
    let at = c.loop-at.at in
    let before = c.loop-at.before.items in
    let inv = c.loop-at.invariant in
    let there : at < length before = (let t = c.loop-at-test.true in let s = inv.size in let e = c.len-at-end.ensures in omega (arith, t, s, e)) in
    let h = linked (λ i. slice_index first i) m at (take at before) c.loop-at.last c.link.new.last c.link.result inv.buckets inv.chained inv.last
    (subst (λ b. IsLinked c.loop-at.last c.link.new.last b (at + 1) c.link.result) (c.index.ensures ∙ get_or_default before at c.index.result.now 0 there ∙ inv.rest at (omega arith)) c.link.ensures) in
    record {
      size = length-set before at c.link.result ∙ inv.size;
      buckets = h.2;
      last = h.1;
      chained = subst (AreChained (λ i. slice_index first i) m (at + 1)) (sym (take_more_set before at c.link.result there)) h.0;
      rest = λ i l. get_or-set_other before at i c.link.result 0 (λ e. omega (arith, l, e)) ∙ inv.rest i (omega (arith, l));
    }
