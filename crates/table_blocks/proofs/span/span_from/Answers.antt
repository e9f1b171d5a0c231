use Rattle.std.proofs.Common.{◌≡◌, ◌≤◌, length, sym, ap, subst, ◌∙◌, false, true, drop, take, rules}
use Rattle.std.specs.List.Sorted.{IsPartitionedBy, IsPartitionPoint}
use Rattle.std.proofs.lemmas.Fn.{always_returns_same}
use Rattle.row_order.specs.Spans.{probe_cmp, comes_before, IsSpan}
use Rattle.table_blocks.proofs.Spanning.{parted, span-is, sorted-drop}
use Rattle.table_blocks.proofs.span.span_from.Goals as goal

pub returns : goal.returns
returns c =
    let key = c.args.key.now in
    let rows = c.args.rows.now in
    let probe = c.args.probe.now in
    let start = c.args.start in
    let count = c.leading-count.result in
    let rest = c.behind-rest.ensures in
    let span : c.up_to.result ≡ take count (drop start rows) = c.up_to.ensures ∙ ap (take count) rest in
    subst (λ rows'. IsSpan key rows probe start rows') (sym span)
    (span-is key rows probe start count c.requires.within (subst (λ xs. count ≤ length xs) rest c.leading-count.ensures.within) c.requires.place
    (subst (λ xs. IsPartitionedBy (λ row. comes_before true (probe_cmp key probe row)) xs → IsPartitionPoint (λ row. comes_before true (probe_cmp key probe row) ≡ true) (λ row. comes_before true (probe_cmp key probe row) ≡ false) xs count) rest
    (c.leading-count.ensures.partitioned (λ row. comes_before true (probe_cmp key probe row)) (always_returns_same _ _ _ (λ a r f k. search rules)))
    (parted key (drop start rows) probe (sorted-drop key rows start c.requires.in_order) true)))
