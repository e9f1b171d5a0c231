use Rattle.std.proofs.Common.{◌≡◌, ◌++◌, take, map}
use Rattle.cnf_form.specs.Literals.{literals}
use Rattle.row_lists.specs.Clauses.{positive}
use Rattle.row_lists.specs.Spans.{numbers_in}
use Rattle.row_lists.proofs.clauses.add_blocks.Given as goal

-- the clauses of the blocks so far
abbrev pub invariant-loop-span : goal.invariant-loop-span
invariant-loop-span l = literals l.clauses.items ≡ literals l.fn.clauses.items ++ map (map positive) (map numbers_in (take l.span-index l.blocks.spans))
