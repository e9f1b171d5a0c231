use Rattle.std.proofs.Common.{◌≤◌, length}
use Rattle.table_blocks.specs.Tables.{IsToldStretch}
use Rattle.table_blocks.proofs.Naming.{at_place}
use Rattle.table_blocks.proofs.database.Database.told_places.Goals as goal

pub returns-clause-told : goal.returns-clause-told
returns-clause-told c =
    at_place (λ key rows. IsToldStretch key rows c.args.tests.now c.told_places.result.0 c.told_places.result.1) c.args.self.now c.args.table c.table.result.now c.table.ensures.found c.told_places.ensures.told

pub returns-clause-within : goal.returns-clause-within
returns-clause-within c = at_place (λ key rows. c.told_places.result.1 ≤ length rows) c.args.self.now c.args.table c.table.result.now c.table.ensures.found c.told_places.ensures.within
