use Rattle.std.proofs.lemmas.List.Elements.{Contains-get_or}
use Rattle.query_statements.proofs.plan.names_of.Goals as goal

pub name_of-requires : goal.name_of-requires
name_of-requires c = c.requires _ (Contains-get_or c.args.atoms.now c.loop-atom.atom-index 0 c.loop-atom-test.true)
