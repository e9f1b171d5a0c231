use Rattle.std.proofs.lemmas.List.{take_rest}
use Rattle.script_lex.proofs.cutter.Cutter.look.Goals as goal

pub returns : goal.returns
returns c = rw (← c.self.view_is, ← c.deref.ensures.value) (rw take_rest at c.cut_on.ensures.first)
