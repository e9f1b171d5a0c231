use Rattle.command_shell.proofs.Underway.{unread}
use Rattle.command_shell.proofs.pieces.run.Goals as goal

pub returns-in_default-clause-row : goal.returns-in_default-clause-row
returns-in_default-clause-row g c = unread c.args.taker.now _ c.args.session.now

pub returns-clause-row : goal.returns-clause-row
returns-clause-row g c = c.answer_pieces-ending.ensures.row c.goes_on.ensures
