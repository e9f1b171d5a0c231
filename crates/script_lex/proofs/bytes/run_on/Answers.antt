use Rattle.std.proofs.lemmas.List.{take_rest}
use Rattle.script_lex.proofs.Runs.{run_behind}
use Rattle.script_lex.proofs.bytes.run_on.Goals as goal

pub returns : goal.returns
returns c = run_behind c.args.class c.args.bytes.now c.args.known c.run_length.result c.requires.within c.requires.each (rw take_rest at c.run_length.ensures)
