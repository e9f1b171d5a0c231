use Rattle.script_lex.proofs.FirstCuts.{no_end}
use Rattle.script_lex.proofs.scan.text_end.Goals as goal

pub returns-then-stop-bytes : goal.returns-then-stop-bytes
returns-then-stop-bytes c = no_end c.args.bytes.now c.args.stop c.requires c.if-stop-bytes.true
