use Rattle.std.proofs.Common.{◌≡◌, ◌++◌, take, map}
use Rattle.std.specs.List.{sum}
use Rattle.cnf_form.specs.Literals.{literals, positive}
use Rattle.block_lists.specs.Formulas.{blocks_from}
use Rattle.block_lists.proofs.clauses.add_blocks.Given as goal

-- the rows before the next block, and the clauses of the blocks so far
abbrev pub invariant-loop-size : goal.invariant-loop-size
invariant-loop-size l = (l.base ≡ sum (take l.size-index l.sizes)) × (literals l.clauses.items ≡ literals l.fn.clauses.items ++ map (map positive) (blocks_from 0 (take l.size-index l.sizes)))
