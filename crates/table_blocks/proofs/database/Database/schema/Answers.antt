use Rattle.std.proofs.Common.{◌∙◌, sym, ap}
use Rattle.cqa_model.specs.declared.schema.Schema.{Schema}
use Rattle.cqa_model.specs.Database.{kinds_of}
use Rattle.cqa_model.proofs.Places.{kinds-at, key-at}
use Rattle.table_blocks.proofs.database.Database.schema.Goals as goal

pub returns-clause-kinds : goal.returns-clause-kinds
returns-clause-kinds c = ap kinds_of c.schema.ensures ∙ sym (kinds-at c.args.self.now c.args.table c.table.result.now c.table.ensures.found)

pub returns-clause-key : goal.returns-clause-key
returns-clause-key c = ap (λ (s : Schema). s.key) c.schema.ensures ∙ sym (key-at c.args.self.now c.args.table c.table.result.now c.table.ensures.found)
