use Rattle.std.proofs.Common.{refl}
use Rattle.query_replies.proofs.Sharing.{table_there}
use Rattle.query_replies.proofs.shares.shares_of.Goals as goal

pub name_of-requires : goal.name_of-requires
name_of-requires c = table_there c.args.database.now c.args._parts.now c.args.shared c.requires.parts c.requires.shared

pub returns : goal.returns
returns c = (c.args.shared, c.requires.shared, refl, refl, c.in_ok-name_of.ensures)
