use Rattle.std.proofs.Common.{refl}
use Rattle.query_replies.proofs.Sharing.{table_there}
use Rattle.query_replies.proofs.shares.shared_name.Goals as goal

pub name_of-requires : goal.name_of-requires
name_of-requires c = table_there c.args.database.now c.args.parts.now c.in-Some.shared c.requires c.in-Some.ensures.some

pub returns-in-None : goal.returns-in-None
returns-in-None c = c.in-None.ensures.none refl

pub returns-in_ok-name_of-in-Some : goal.returns-in_ok-name_of-in-Some
returns-in_ok-name_of-in-Some c = (c.in-Some.shared, c.in-Some.ensures.some, c.in_ok-name_of-in-Some.ensures)
