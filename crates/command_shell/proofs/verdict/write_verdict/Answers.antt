use Rattle.command_shell.proofs.Lines.{verdict_row}
use Rattle.cqa_io.specs.Causes.{Rose}
use Rattle.command_shell.proofs.verdict.write_verdict.Goals as goal

pub returns-clause-row : goal.returns-clause-row
returns-clause-row g c =
    verdict_row c.write_line.result (Rose (g.K.Sink.faults c.args.sink.now) (g.K.Sink.faults c.write_line.new.sink)) (g.K.Sink.held c.args.sink.now) (g.K.Sink.held c.write_line.new.sink) c.args.input.now c.in_ok-reply.reply
    c.in_ok-reply.ensures.exact c.in_ok-reply.ensures.sound c.write_line.ensures.row
