use Rattle.std.proofs.Common.{Some, subst, sym}
use Rattle.command_shell.specs.declared.ending.Command.TheVariants.{Judge}
use Rattle.command_shell.specs.Top.{Ended, told}
use Rattle.command_shell.proofs.Judged.{judged_row}
use Rattle.command_shell.proofs.judging.judge.Goals as goal

pub returns-clause-row : goal.returns-clause-row
returns-clause-row g c = λ state.
    let left = g.S.Source.left c.args.source.now in
    let left_after = g.S.Source.left c.judge_stream.new.source in
    let held = g.K.Sink.held c.args.sink.now in
    let held_after = g.K.Sink.held c.judge_stream.new.sink in
    let reads = g.S.Source.faults c.args.source.now in
    let reads_after = g.S.Source.faults c.judge_stream.new.source in
    let writes = g.K.Sink.faults c.args.sink.now in
    let writes_after = g.K.Sink.faults c.judge_stream.new.sink in
    subst (λ ending. Ended (Some (Judge c.args.wanted c.args.budget)) ending (told left held reads writes) (told left_after held_after reads_after writes_after) state state) (sym c.ending_at.ensures)
    (judged_row c.args.wanted c.args.budget c.judge_stream.result left left_after held held_after reads reads_after writes writes_after state c.judge_stream.ensures.row)
