use Rattle.std.proofs.Common.{get_or}
use Rattle.std.proofs.lemmas.List.Elements.{Contains-get_or}
use Rattle.rewrite_text.proofs.query.append_more_columns.Goals as goal

pub append_column-requires : goal.append_column-requires
append_column-requires c = c.requires (get_or c.args.columns.now c.loop-column.column-index (record { atom = 0; col = 0 })) (Contains-get_or c.args.columns.now c.loop-column.column-index (record { atom = 0; col = 0 }) c.loop-column-test.true)
