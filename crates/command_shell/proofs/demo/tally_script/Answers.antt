use Rattle.std.proofs.Common.{ap}
use Rattle.command_shell.proofs.Tallied.{all_answered, stopped}
use Rattle.command_shell.proofs.demo.tally_script.Goals as goal

pub returns-then-is_answered : goal.returns-then-is_answered
returns-then-is_answered c =
    all_answered c.new-tally.result c.run-ending.new.taker c.new-source.result.left c.run-ending.new.source.left c.args.script.items c.args.session.now c.run-ending.new.session (ap (λ s. s.left) c.new-source.ensures) c.new-tally.ensures c.run-ending.result (c.is_answered.ensures.0 c.if-is_answered.true) c.run-ending.ensures.row

pub returns : goal.returns
returns c =
    stopped c.new-tally.result c.run-ending.new.taker c.new-source.result.left c.run-ending.new.source.left c.args.script.items c.args.session.now c.run-ending.new.session (ap (λ s. s.left) c.new-source.ensures) c.requires c.run-ending.result c.run-ending.ensures.row
