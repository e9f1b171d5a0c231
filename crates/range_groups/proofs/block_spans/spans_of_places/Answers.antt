use Rattle.std.proofs.Common.{rules, ◌≤◌, ◌<◌, ◌+◌, ◌∙◌, length, get_or, refl, sym, ap, arith}
use Rattle.std.specs.Prelude.{nat_lt}
use Rattle.range_groups.specs.Spans.{no_span}
use Rattle.range_groups.proofs.Spanning.{places-ordered, starts-first, spanned-none, spanned-next, spanned-whole}
use Rattle.range_groups.proofs.block_spans.spans_of_places.Goals as goal

pub loop-at-init : goal.loop-at-init
loop-at-init c = record {
  within = omega arith;
  spanned = λ all chain h. spanned-none all c.in_ok-spans.spans.items c.in_ok-spans.ensures.items (get_or c.in_ok-starts.starts.items 0 c.len-count.result) (sym (starts-first 0 all c.len-count.result c.in_ok-starts.starts.items chain h));
}

pub loop-at-preserved : goal.loop-at-preserved
loop-at-preserved c =
    let starts = c.in_ok-starts.starts.items in
    let old = c.loop-at.spans.items in
    let new = c.resize.new.self.items in
    let at = c.loop-at.at in
    let by = c.in_ok-resize.ensures.by_index in
    let size = c.in_ok-resize.ensures.len in
    let test = c.loop-at-test.true in
    let long = c.len-at-end.ensures in
    let lt : at < length starts = omega (arith, test, long) in
    record {
      within = omega (arith, lt);
      spanned = λ all chain h.
          spanned-next all starts c.len-count.result at old new c.index-from.result.now c.start_at-behind.result chain h lt c.index-from.ensures
          (c.start_at-behind.ensures ∙ ap (λ xs. get_or xs (at + 1) c.len-count.result) c.deref.ensures.value) (c.loop-at.invariant.spanned all chain h) (omega (arith, size))
          (λ k a b. by.0 k no_span a (omega (arith, b))) (λ k a b. by.1 k no_span refl (omega (arith, a)) b);
    }

pub returns : goal.returns
returns c =
    let test = c.loop-at-test.false in
    let long = c.len-at-end.ensures in
    let whole : length c.in_ok-starts.starts.items ≤ c.loop-at.at = omega (arith, test, long) in
    spanned-whole c.args.db.now c.args.table c.in_ok-starts.starts.items c.len-count.result c.loop-at.at c.loop-at.spans.items (c.in_ok-starts.ensures nat_lt places-ordered (λ i j goes li lj p. search rules))
    (c.len-count.ensures ∙ ap length c.rows.ensures.is) whole c.loop-at.invariant.spanned
