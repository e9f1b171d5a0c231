use Rattle.std.proofs.Common.{rules, false}
use Rattle.std.proofs.lemmas.Fn.{always_returns_same}
use Rattle.row_order.specs.Spans.{probe_cmp, comes_before}
use Rattle.table_blocks.proofs.Following.{followed_probe}
use Rattle.table_blocks.proofs.span.start_of.Goals as goal

pub returns-clause-place : goal.returns-clause-place
returns-clause-place c =
    let key = c.args.key.now in
    let probe = c.args.probe.now in
    c.parted.ensures.partitioned (λ row. comes_before false (probe_cmp key probe row)) (always_returns_same _ _ _ (λ a r f k. search rules)) (followed_probe c.first_probed.result c.second_probed.result false key probe c.first_probed.ensures c.second_probed.ensures) c.requires.parted
