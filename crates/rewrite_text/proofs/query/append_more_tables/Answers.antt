use Rattle.std.proofs.Common.{Contains, subst, sym}
use Rattle.std.proofs.lemmas.List.Elements.{Contains-get_or}
use Rattle.rewrite_text.proofs.query.append_more_tables.Goals as goal

pub append_table-requires : goal.append_table-requires
append_table-requires c =
    c.requires c.atom-item.result (subst (Contains c.args.atoms.now) (sym c.atom-item.is) (Contains-get_or c.args.atoms.now c.loop-atom.atom-index c.atom-item.result c.loop-atom-test.true))
