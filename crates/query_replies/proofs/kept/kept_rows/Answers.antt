use Rattle.std.proofs.Common.{get_or}
use Rattle.std.proofs.lemmas.List.Elements.{Contains-get_or}
use Rattle.query_replies.proofs.kept.kept_rows.Goals as goal

pub kept_row-requires-clause-table : goal.kept_row-requires-clause-table
kept_row-requires-clause-table c =
    let names = c.args.names.now in
    let at = c.loop-name.name-index in
    (c.requires (get_or names at (record { table = 0; place = 0 })) (Contains-get_or names at (record { table = 0; place = 0 }) c.loop-name-test.true)).0
