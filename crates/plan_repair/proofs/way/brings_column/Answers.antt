use Rattle.std.proofs.Common.{◌∙◌, sym}
use Rattle.std.proofs.lemmas.Bool.{false≢true, not-false}
use Rattle.plan_repair.proofs.way.brings_column.Goals as goal

pub returns-then-not-is_told : goal.returns-then-not-is_told
returns-then-not-is_told c = λ e t. absurd (false≢true (sym c.if-not-is_told.true ∙ c.is_told.ensures.1 t))

pub returns : goal.returns
returns c = λ e t. c.is_told-2.ensures.0 (not-false c.is_told-2.result e)
