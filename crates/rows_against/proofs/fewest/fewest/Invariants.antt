use Rattle.rows_against.proofs.Choosing.{AreTaken}
use Rattle.rows_against.proofs.fewest.fewest.Given as goal

-- what is taken for the witnesses so far
abbrev pub invariant-loop-last : goal.invariant-loop-last
invariant-loop-last l = AreTaken l.hits l.witnesses l.numbers l.last-items l.last-index l.marks.items l.kept.items
