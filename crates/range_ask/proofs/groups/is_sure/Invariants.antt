use Rattle.std.proofs.Common.{◌≡◌, ◌<◌, ℕ, true}
use Rattle.range_ask.specs.Ranges.{cell, meets}
use Rattle.range_ask.specs.Finding.{row_in_block}
use Rattle.range_ask.proofs.groups.is_sure.Given as goal

-- the rows so far do
abbrev pub invariant-loop-at : goal.invariant-loop-at
invariant-loop-at l = (i : ℕ) → i < l.at → (meets l.ask.tests.now (row_in_block l.block i) ≡ true) × (cell (row_in_block l.block i) l.ask.col ≡ cell l.first l.ask.col)
