use Rattle.std.proofs.lemmas.List.Elements.{Contains-get_or}
use Rattle.cnf_form.specs.declared.formula.Lit.{Lit}
use Rattle.std.proofs.Common.{false}
use Rattle.cdcl.proofs.look.free_lit.Goals as goal

abbrev none : Lit
none = record { var = 0; positive = false }

pub is_false-requires-clause-range : goal.is_false-requires-clause-range
is_false-requires-clause-range c = c.requires.range _ (Contains-get_or c.args.clause.now c.loop-lit.lit-index none c.loop-lit-test.true)
