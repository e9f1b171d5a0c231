use Rattle.script_lex.proofs.Leading.{plain_leads, text_leads}
use Rattle.script_lex.proofs.modes.staying.Goals as goal

pub returns-in-Outside : goal.returns-in-Outside
returns-in-Outside c = rw (c.in-Statement.is, c.in-Outside.is) (plain_leads c.args.bytes.now c.run_length.result c.run_length.ensures)

pub returns-in-Text : goal.returns-in-Text
returns-in-Text c = rw (c.in-Statement.is, c.in-Text.is) (text_leads c.args.bytes.now c.run_length-in-Text.result c.run_length-in-Text.ensures)
