use Rattle.std.proofs.Common.{arith}
use Rattle.script_lex.proofs.FirstCuts.{start_dash, start_other}
use Rattle.script_lex.proofs.scan.text_start.Goals as goal

pub returns-in-Dash : goal.returns-in-Dash
returns-in-Dash c = start_dash c.args.bytes.now c.args.stop c.requires c.in-Dash.is

pub returns-else-stop-bytes : goal.returns-else-stop-bytes
returns-else-stop-bytes c =
    let within = c.requires.within in
    start_other c.args.bytes.now c.args.stop c.requires c.in_default.not-Dash (omega arith)
