use Rattle.std.proofs.Common.{◌∙◌, ap, false}
use Rattle.cqa_model.specs.Database.{Table}
use Rattle.table_blocks.proofs.Changing.{marked_table}
use Rattle.table_blocks.proofs.table.Table.drop_strict.Goals as goal

pub returns-clause-is : goal.returns-clause-is
returns-clause-is c = marked_table c.self.inside.schema c.self.inside.rows false _ ∙ ap (λ (t : Table). record t { schema = record t.schema { strict = false } }) c.self.view_is
