use Rattle.std.proofs.Common.{◌∙◌, ap, true}
use Rattle.cqa_model.specs.Database.{Table}
use Rattle.table_blocks.proofs.Changing.{marked_table}
use Rattle.table_blocks.proofs.table.Table.make_strict.Goals as goal

pub returns-in-None-clause-changed : goal.returns-in-None-clause-changed
returns-in-None-clause-changed c = marked_table c.self.inside.schema c.self.inside.rows true _ ∙ ap (λ (t : Table). record t { schema = record t.schema { strict = true } }) c.self.view_is
