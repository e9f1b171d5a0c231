use Rattle.command_shell.proofs.Progress.{unfed}
use Rattle.command_shell.proofs.answers.answer_piece.Goals as goal

pub returns-in_err-feed-clause-row : goal.returns-in_err-feed-clause-row
returns-in_err-feed-clause-row g c = unfed g.T.Taker.took c.args.taker.now c.from_residual.result c.from_residual.ensures.1 _ _ c.args.session.now _ _ _
