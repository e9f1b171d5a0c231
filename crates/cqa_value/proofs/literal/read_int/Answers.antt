use Rattle.std.proofs.Common.{ap, ◌∙◌}
use Rattle.cqa_value.specs.Literals.{int_of}
use Rattle.cqa_value.proofs.Integers.{written}
use Rattle.cqa_value.proofs.literal.read_int.Goals as goal

pub returns-then-begins_with_minus-clause-reads_written : goal.returns-then-begins_with_minus-clause-reads_written
returns-then-begins_with_minus-clause-reads_written c = λ n r e. c.read_minus.ensures ∙ ap int_of e ∙ written n r

pub returns-else-begins_with_minus-clause-reads_written : goal.returns-else-begins_with_minus-clause-reads_written
returns-else-begins_with_minus-clause-reads_written c = λ n r e. c.read_plain.ensures ∙ ap int_of e ∙ written n r
