use Rattle.std.proofs.Common.{◌≡◌, take, map}
use Rattle.row_lists.specs.Clauses.{positive}
use Rattle.row_lists.specs.Spans.{numbers_in}
use Rattle.list_search.proofs.room.pool_blocks.Given as goal

-- the clauses of the blocks so far
abbrev pub invariant-loop-span : goal.invariant-loop-span
invariant-loop-span l = l.formula ≡ map (map positive) (map numbers_in (take l.span-index l.blocks.spans))
