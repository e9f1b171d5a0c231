use Rattle.std.proofs.Common.{◌∙◌, nat_lt, ap, subst}
use Rattle.cqa_io.specs.Causes.{Rose}
use Rattle.cqa_model.specs.Database.{row_total}
use Rattle.case_maker.specs.Scripts.{script_bytes}
use Rattle.command_shell.specs.Demo.{line_text, AnswersAll, StopsIn}
use Rattle.command_shell.specs.Parts.{WriteRow}
use Rattle.command_shell.proofs.DemoEnds.{out_of_memory, written_so}
use Rattle.command_shell.proofs.Tallied.{at_its_start}
use Rattle.command_shell.proofs.demo.run_script.Goals as goal

pub returns-in_err-script-clause-row : goal.returns-in_err-script-clause-row
returns-in_err-script-clause-row g c =
    let old = c.args.session.now in
    out_of_memory c.from_residual.result _ (g.K.Sink.held c.args.sink.now) c.args.size old old c.from_residual.ensures.1 (at_its_start old (script_bytes c.args.size))

pub returns-in_err-tally-clause-row : goal.returns-in_err-tally-clause-row
returns-in_err-tally-clause-row g c =
    let old = c.args.session.now in
    let new = c.tally_script.new.session in
    let script = c.in_ok-script.ensures.text in
    out_of_memory c.from_residual-in_err-tally.result _ (g.K.Sink.held c.args.sink.now) c.args.size old new c.from_residual-in_err-tally.ensures.1 (subst (λ text. StopsIn old text new) script c.in_err-tally.ensures)

pub returns-clause-row : goal.returns-clause-row
returns-clause-row g c =
    let old = c.args.session.now in
    let new = c.tally_script.new.session in
    let tally = c.in_ok-tally.tally in
    let script = c.in_ok-script.ensures.text in
    let rows = c.row_total-rows.ensures.total ∙ ap row_total c.database.ensures.is in
    let faults_old = g.K.Sink.faults c.args.sink.now in
    let faults_new = g.K.Sink.faults c.write_line.new.sink in
    let held_old = g.K.Sink.held c.args.sink.now in
    let held_new = g.K.Sink.held c.write_line.new.sink in
    written_so c.write_line.result _ _ _ c.args.size old new tally (subst (λ text. AnswersAll old text tally new) script c.in_ok-tally.ensures)
    (subst (λ rows. WriteRow c.write_line.result (Rose faults_old faults_new) held_old held_new (line_text c.args.size rows tally) (nat_lt 0 tally.refused)) rows c.write_line.ensures.row)
