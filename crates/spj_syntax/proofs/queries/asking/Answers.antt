use Rattle.std.proofs.Common.{refl}
use Rattle.spj_syntax.specs.Written.{statement_tokens}
use Rattle.spj_syntax.proofs.Steps.{opens_then, reads_left, reads_right}
use Rattle.spj_syntax.proofs.queries.asking.Goals as goal

pub returns-then-sees_united_verb-clause-reads : goal.returns-then-sees_united_verb-clause-reads
returns-then-sees_united_verb-clause-reads c = reads_left _ statement_tokens c.several.result _ (opens_then refl c.if-sees_united_verb.ensures) c.several.ensures.reads

pub returns-clause-reads : goal.returns-clause-reads
returns-clause-reads c = reads_right _ statement_tokens c.single.result _ refl (opens_then refl c.if-sees_united_verb.ensures) c.single.ensures.reads
