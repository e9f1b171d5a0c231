use Rattle.std.proofs.Common.{◌∙◌}
use Rattle.range_join.proofs.Peaking.{end-held}
use Rattle.range_groups.proofs.group_peaks.both_ends.Goals as goal

pub returns-in-Ok-clause-least : goal.returns-in-Ok-clause-least
returns-in-Ok-clause-least c = c.in_ok-least.ensures ∙ end-held c.args.col c.args.rows.least

pub returns-in-Ok-clause-greatest : goal.returns-in-Ok-clause-greatest
returns-in-Ok-clause-greatest c = c.in-Ok.ensures ∙ end-held c.args.col c.args.rows.greatest
