use Rattle.weak_pairs.proofs.Coding.{one-list}
use Rattle.weak_pairs.proofs.lists.have_one_code.Goals as goal

pub returns-then-code-ne0 : goal.returns-then-code-ne0
returns-then-code-ne0 c = one-list c.args.codes.now c.args.i c.args.j c.if-code-ne0.true
