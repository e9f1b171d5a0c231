use Rattle.std.proofs.Common.{◌∙◌, sym}
use Rattle.table_changes.specs.Taken.{shown}
use Rattle.table_changes.proofs.FirstSharing.{first_left, first_right}
use Rattle.table_changes.proofs.taken.kept_row.Goals as goal

pub returns-in-Some : goal.returns-in-Some
returns-in-Some c = first_left c.args.key.now c.args.stored.now (shown c.args.sorted.now) c.args.row.now c.in-Some.kept.now (sym c.in-Some.ensures)

pub returns-in-None : goal.returns-in-None
returns-in-None c = first_right c.args.key.now c.args.stored.now (shown c.args.sorted.now) c.args.row.now (sym c.in-None.ensures) ∙ c.first_given.ensures
