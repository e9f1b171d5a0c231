use Rattle.std.proofs.Common.{◌≤◌, length, get_or, List}
use Rattle.std.specs.List.{AllZip}
use Rattle.range_join.specs.declared.spans.Span.{Span}
use Rattle.range_groups.proofs.Spanning.{IsChained, IsStart, IsSpanned}
use Rattle.range_groups.proofs.block_spans.spans_of_places.Given as goal

-- the spans of the blocks so far
abbrev pub invariant-loop-at : goal.invariant-loop-at
invariant-loop-at l = record {
  within : l.at ≤ length l.starts.items;
  spanned : (all : List Span) → IsChained 0 all l.count → AllZip IsStart all l.starts.items → IsSpanned all (get_or l.starts.items l.at l.count) l.spans.items;
}
