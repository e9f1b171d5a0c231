use Rattle.std.proofs.Common.{refl}
use Rattle.spj_syntax.proofs.Steps.{opens_then, opens_left, opens_either}
use Rattle.spj_syntax.proofs.queries.sees_united_verb.Goals as goal

pub returns-then-sees_word : goal.returns-then-sees_word
returns-then-sees_word c = opens_left c.if-sees_word.ensures

pub returns-then-sees_word-2 : goal.returns-then-sees_word-2
returns-then-sees_word-2 c = opens_either c.if-sees_word.ensures (opens_left c.if-sees_word-2.ensures)

pub returns-then-sees_word-3 : goal.returns-then-sees_word-3
returns-then-sees_word-3 c = opens_either c.if-sees_word.ensures (opens_either c.if-sees_word-2.ensures (opens_left c.if-sees_word-3.ensures))

pub returns-then-sees_word-4 : goal.returns-then-sees_word-4
returns-then-sees_word-4 c = opens_either c.if-sees_word.ensures (opens_either c.if-sees_word-2.ensures (opens_either c.if-sees_word-3.ensures (opens_left c.if-sees_word-4.ensures)))

pub returns : goal.returns
returns c = opens_either c.if-sees_word.ensures (opens_either c.if-sees_word-2.ensures (opens_either c.if-sees_word-3.ensures (opens_either c.if-sees_word-4.ensures (opens_then refl c.sees_word-5.ensures))))
