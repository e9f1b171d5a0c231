use Rattle.command_shell.proofs.DemoEnds.{stopped}
use Rattle.command_shell.proofs.demo.demo.Goals as goal

pub returns-in-Err-clause-row : goal.returns-in-Err-clause-row
returns-in-Err-clause-row g c left reads = stopped c.args.size _ _ left _ _ reads _ _ c.from.result c.in-Err.stop c.from.ensures c.in-Err.ensures.row c.goes_on.ensures
