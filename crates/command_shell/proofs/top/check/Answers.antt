use Rattle.std.proofs.Common.{◌∙◌, Some, subst, sym}
use Rattle.command_shell.specs.declared.ending.Command.TheVariants.{Check}
use Rattle.command_shell.specs.Top.{Ended, told}
use Rattle.command_shell.proofs.Lines.{check_stopped}
use Rattle.command_shell.proofs.top.check.Goals as goal

pub returns-clause-row : goal.returns-clause-row
returns-clause-row g c = λ state.
    let left = g.S.Source.left c.args.source.now in
    let left_after = g.S.Source.left c.read_all.new.source in
    let held = g.K.Sink.held c.args.sink.now in
    let held_after = g.K.Sink.held c.write_verdict.new.sink in
    let reads = g.S.Source.faults c.args.source.now in
    let reads_after = g.S.Source.faults c.read_all.new.source in
    let writes = g.K.Sink.faults c.args.sink.now in
    let writes_after = g.K.Sink.faults c.write_verdict.new.sink in
    let took = c.in-End.ensures.took in
    subst (λ ending. Ended (Some Check) ending (told left held reads writes) (told left_after held_after reads_after writes_after) state state) (sym c.from.ensures)
    (check_stopped c.in-Err.stop left left_after held held_after reads reads_after writes writes_after took.0 c.as_slice.result.now state took.1 (c.as_slice.ensures.value ∙ took.2.0, took.2.1, took.2.2) c.in-Err.ensures.row)
