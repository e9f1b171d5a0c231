use Rattle.std.proofs.Common.{◌≡◌, ◌≤◌, length, sym, ap, subst, ◌∙◌, false, true, drop, take}
use Rattle.std.specs.List.Sorted.{IsPartitionedBy, IsPartitionPoint}
use Rattle.row_order.specs.Spans.{probe_cmp, comes_before, IsSpan}
use Rattle.table_blocks.proofs.Spanning.{parted, span-is, sorted-drop}
use Rattle.table_blocks.proofs.span.span_in.Goals as goal

pub bound-start-requires-clause-parted : goal.bound-start-requires-clause-parted
bound-start-requires-clause-parted g c = parted c.args.key.now c.args.rows.now c.args.probe.now c.requires.in_order false

pub bound-count-requires-clause-parted : goal.bound-count-requires-clause-parted
bound-count-requires-clause-parted g c =
    subst (λ rows. IsPartitionedBy (λ row. comes_before true (probe_cmp c.args.key.now c.args.probe.now row)) rows) (sym c.behind-rest.ensures)
    (parted c.args.key.now (drop c.bound-start.result c.args.rows.now) c.args.probe.now (sorted-drop c.args.key.now c.args.rows.now c.bound-start.result c.requires.in_order) true)

pub returns-clause-span : goal.returns-clause-span
returns-clause-span g c =
    let key = c.args.key.now in
    let rows = c.args.rows.now in
    let probe = c.args.probe.now in
    let start = c.bound-start.result in
    let span : c.up_to.result ≡ take c.bound-count.result (drop start rows) = c.up_to.ensures ∙ ap (take c.bound-count.result) c.behind-rest.ensures in
    subst (λ rows'. IsSpan key rows probe start rows') (sym span)
    (span-is key rows probe start c.bound-count.result c.bound-start.ensures.within (subst (λ xs. c.bound-count.result ≤ length xs) c.behind-rest.ensures c.bound-count.ensures.within) c.bound-start.ensures.place
    (subst (λ xs. IsPartitionPoint (λ row. comes_before true (probe_cmp key probe row) ≡ true) (λ row. comes_before true (probe_cmp key probe row) ≡ false) xs c.bound-count.result) c.behind-rest.ensures c.bound-count.ensures.place))
