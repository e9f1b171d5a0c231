use Rattle.std.specs.Option.{option_copied}
use Rattle.plan_rows.specs.Over.{look_query, look_tables, look_taken, look_rows}
use Rattle.plan_rows.specs.Links.{atoms_on}
use Rattle.plan_rows.proofs.Looking.{there-led}
use Rattle.plan_rows.proofs.places.Places.reached.Goals as goal

pub returns-in-Some : goal.returns-in-Some
returns-in-Some c =
    let look = c.args.look.now in
    there-led (look_query look) (look_tables look) (option_copied c.args.row) (look_taken look) (atoms_on c.args.links.now) look.atom (look_rows look) c.in-Some.places c.in-Some.ensures

pub returns-in-None : goal.returns-in-None
returns-in-None c =
    let look = c.args.look.now in
    there-led (look_query look) (look_tables look) (option_copied c.args.row) (look_taken look) (atoms_on c.args.links.now) look.atom (look_rows look) c.by_key.result c.by_key.ensures
