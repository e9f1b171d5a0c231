use Rattle.std.proofs.Common.{◌≡◌, ◌+◌, ◌-◌, Bool, List, Some, true, false, length, slice_get, sym, ap, subst, ◌∙◌, arith}
use Rattle.std.specs.List.{HoldsAt}
use Rattle.std.proofs.lemmas.List.{length-drop}
use Rattle.std.proofs.lemmas.Option.{slice_get_within}
use Rattle.cqa_value.specs.declared.value.Value.{Value}
use Rattle.row_pieces.proofs.Halving.{front_passes, back_fails, seen_near}
use Rattle.row_order.specs.Spans.{probe_cmp, comes_before}
use Rattle.table_blocks.proofs.span.start_near.Goals as goal

pub loop-at-preserved : goal.loop-at-preserved
loop-at-preserved c some k d a b =
    let xs = c.args.rows.now in
    let ys = c.behind-near.result in
    let finger = c.args.finger in
    let at = c.loop-at.at in
    let y = c.get.result.now in
    let p : List Value → Bool = λ row. comes_before false (probe_cmp c.args.key.now c.args.probe.now row) in
    let yes : p y ≡ true = sym (c.is_before.ensures ∙ ap (comes_before false) c.compare_key.ensures) ∙ c.if-not-is_before.false in
    let found : slice_get ys (finger + at - finger) ≡ Some y = subst (λ n. slice_get ys n ≡ Some y) (omega arith) c.get.ensures in
    let there : HoldsAt (λ row. p row ≡ true) xs (finger + at) = λ e. subst (λ row. p row ≡ true) (sym (seen_near xs ys finger (finger + at) y e c.behind-near.ensures (omega arith) found)) yes in
    let near = slice_get_within ys at y c.get.ensures in
    let size = ap length c.behind-near.ensures ∙ length-drop finger xs in
    front_passes p xs (finger + at) c.requires.parted (omega (arith, near, size)) there k d a (omega (arith, b))

pub returns-then-at-gt0-clause-place : goal.returns-then-at-gt0-clause-place
returns-then-at-gt0-clause-place c =
    let xs = c.args.rows.now in
    let ys = c.behind-near.result in
    let finger = c.args.finger in
    let at = c.loop-at.at in
    let y = c.get.result.now in
    let p : List Value → Bool = λ row. comes_before false (probe_cmp c.args.key.now c.args.probe.now row) in
    let no : p y ≡ false = sym (c.is_before.ensures ∙ ap (comes_before false) c.compare_key.ensures) ∙ c.if-not-is_before.true in
    let found : slice_get ys (finger + at - finger) ≡ Some y = subst (λ n. slice_get ys n ≡ Some y) (omega arith) c.get.ensures in
    let there : HoldsAt (λ row. p row ≡ false) xs (finger + at) = λ e. subst (λ row. p row ≡ false) (sym (seen_near xs ys finger (finger + at) y e c.behind-near.ensures (omega arith) found)) no in
    let near = slice_get_within ys at y c.get.ensures in
    let size = ap length c.behind-near.ensures ∙ length-drop finger xs in
    (c.loop-at.invariant c.if-at-gt0.true, back_fails p xs (finger + at) c.requires.parted (omega (arith, near, size)) there)
