use Rattle.query_resolve.proofs.Schemas.{key_looked_up, key_fits}
use Rattle.query_resolve.proofs.key.resolve_key.Goals as goal

pub returns-clause-checked : goal.returns-clause-checked
returns-clause-checked c = key_looked_up c.args.db.now c.args.table c.args.names.now c.table_columns.result.now c.table_columns.ensures.is c.key_places.ensures

pub returns-clause-fit : goal.returns-clause-fit
returns-clause-fit c =
    key_fits c.args.db.now c.args.table c.args.names.now c.key_places.result c.requires.there c.requires.some
    (key_looked_up c.args.db.now c.args.table c.args.names.now c.table_columns.result.now c.table_columns.ensures.is c.key_places.ensures)
