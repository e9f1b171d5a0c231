use Rattle.spj_syntax.proofs.Spelled.{word_sound}
use Rattle.spj_syntax.proofs.Naming.{is_name, placeholder}
use Rattle.spj_syntax.proofs.leaf.kept_word.Goals as goal

pub returns-then-word-le-LONGEST_NAME-clause-utf8 : goal.returns-then-word-le-LONGEST_NAME-clause-utf8
returns-then-word-le-LONGEST_NAME-clause-utf8 c = word_sound c.args.word.now c.requires.word

pub returns-then-word-le-LONGEST_NAME-clause-named : goal.returns-then-word-le-LONGEST_NAME-clause-named
returns-then-word-le-LONGEST_NAME-clause-named c = is_name c.args.word.now c.requires.word c.requires.allowed c.if-word-le-LONGEST_NAME.true

pub returns-else-word-le-LONGEST_NAME-clause-named : goal.returns-else-word-le-LONGEST_NAME-clause-named
returns-else-word-le-LONGEST_NAME-clause-named c = placeholder
