use Rattle.rewrite_check.proofs.Steps.{opened, unsaid, some_said, none_said}
use Rattle.rewrite_check.proofs.opening.opening_of.Goals as goal

pub returns-in-Some : goal.returns-in-Some
returns-in-Some c =
    let text = c.args.text.now in
    opened text c.in-Some.statement c.meaning.result (some_said text c.in_ok-statement.field-0 c.in-Some.statement c.in-Some.is c.in_ok-statement.ensures) c.meaning.ensures

pub returns-in-None : goal.returns-in-None
returns-in-None c = let text = c.args.text.now in unsaid text (none_said text c.in_ok-statement.field-0 c.in-None.is c.in_ok-statement.ensures)
