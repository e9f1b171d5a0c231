use Rattle.std.proofs.Common.{◌++◌, rules}
use Rattle.cqa_model.specs.Database.{kinds_of}
use Rattle.csv_rows.proofs.Fitting.{held_fits, held_valid}
use Rattle.csv_rows.proofs.reading.read_rows.Goals as goal

pub returns-in-Ok-clause-fits : goal.returns-in-Ok-clause-fits
returns-in-Ok-clause-fits c = held_fits (kinds_of c.args.schema.now) c.args.block.now (c.read_into-read.new.block.sorted ++ c.read_into-read.new.block.rest.items) (search rules)

pub returns-in-Ok-clause-valid : goal.returns-in-Ok-clause-valid
returns-in-Ok-clause-valid c = held_valid (kinds_of c.args.schema.now) c.args.block.now (c.read_into-read.new.block.sorted ++ c.read_into-read.new.block.rest.items) (search rules)
