use Rattle.std.proofs.Common.{◌≡◌, ◌+◌, ◌/◌, ◌<◌, length, true, false, Bool, List, arith, sym, ap, ◌∙◌}
use Rattle.std.proofs.lemmas.List.Elements.{at_read}
use Rattle.std.proofs.lemmas.Option.{get_or_from_slice_get}
use Rattle.row_pieces.proofs.Halving.{front_passes, back_fails}
use Rattle.cqa_value.specs.declared.value.Value.{Value}
use Rattle.row_order.specs.Spans.{probe_cmp, comes_before}
use Rattle.table_blocks.proofs.Halving.{halves}
use Rattle.table_blocks.proofs.span.bound.Goals as goal

pub loop-size-preserved-then-is_before : goal.loop-size-preserved-then-is_before
loop-size-preserved-then-is_before g c =
    let xs = c.args.rows.now in
    let middle = c.loop-size.base + c.loop-size.size / 2 in
    let p : List Value → Bool = λ row. comes_before c.args.with_ties (probe_cmp c.args.key.now c.args.probe.now row) in
    let within = c.loop-size.invariant.within in
    let some = c.loop-size-test.true in
    let inside : middle < length xs = omega (arith, within, some) in
    let yes : p c.get.result.now ≡ true = sym (c.is_before.ensures ∙ ap (comes_before c.args.with_ties) c.compare.ensures.answer) ∙ c.if-is_before.true in
    let read = at_read xs (λ y. p y ≡ true) middle c.get.result.now inside (sym (get_or_from_slice_get xs middle c.get.result.now c.get.result.now c.get.ensures)) yes in
    record {
      within = omega (arith, within, some);
      front = front_passes p xs middle c.requires.parted inside read;
      back = λ k d a b. c.loop-size.invariant.back k d (omega (arith, a, some)) b;
      cost = λ digits h. let i = c.loop-size.invariant.cost digits h in let e = halves c.loop-size.size i.0 some i.1 in
          let one = e.1 in let small = e.2 in let paid = i.2 in let cost = c.compare.ensures.cost in
          (e.0, omega (arith, small, some), omega (arith, one, paid, cost));
    }

pub loop-size-preserved : goal.loop-size-preserved
loop-size-preserved g c =
    let xs = c.args.rows.now in
    let middle = c.loop-size.base + c.loop-size.size / 2 in
    let p : List Value → Bool = λ row. comes_before c.args.with_ties (probe_cmp c.args.key.now c.args.probe.now row) in
    let within = c.loop-size.invariant.within in
    let some = c.loop-size-test.true in
    let inside : middle < length xs = omega (arith, within, some) in
    let no : p c.get.result.now ≡ false = sym (c.is_before.ensures ∙ ap (comes_before c.args.with_ties) c.compare.ensures.answer) ∙ c.if-is_before.false in
    let read = at_read xs (λ y. p y ≡ false) middle c.get.result.now inside (sym (get_or_from_slice_get xs middle c.get.result.now c.get.result.now c.get.ensures)) no in
    record {
      within = omega (arith, within, some);
      front = c.loop-size.invariant.front;
      back = back_fails p xs middle c.requires.parted inside read;
      cost = λ digits h. let i = c.loop-size.invariant.cost digits h in let e = halves c.loop-size.size i.0 some i.1 in
          let one = e.1 in let small = e.2 in let paid = i.2 in let cost = c.compare.ensures.cost in
          (e.0, small, omega (arith, one, paid, cost));
    }
