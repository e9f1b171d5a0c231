use Rattle.std.proofs.Common.{◌∙◌, sym, ap}
use Rattle.std.specs.Ordering.{is_eq}
use Rattle.cqa_value.specs.Values.{row_ties}
use Rattle.cqa_model.specs.Database.{key_of}
use Rattle.table_blocks.proofs.clash.shares_key.Goals as goal

pub returns : goal.returns
returns c = c.is_eq.ensures ∙ ap is_eq c.key_compare.ensures ∙ sym (row_ties (key_of c.args.key.now c.args.a.now) (key_of c.args.key.now c.args.b.now))
