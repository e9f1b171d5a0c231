use Rattle.std.specs.Option.{option_copied}
use Rattle.command_shell.proofs.Answering.{answered}
use Rattle.command_shell.proofs.answers.answer.Goals as goal

pub returns-clause-row : goal.returns-clause-row
returns-clause-row g c = answered g.T.Taker.took _ _ c.take-took.result _ _ _ c.args.session.now c.run.new.self (c.args.text.now, option_copied c.args.block) c.in_ok-reply.reply c.in_ok-reply.ensures.step c.take-took.ensures.row c.take-took.ensures.took
