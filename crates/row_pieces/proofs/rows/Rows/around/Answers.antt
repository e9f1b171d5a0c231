use Rattle.std.proofs.Common.{arith}
use Rattle.row_pieces.proofs.rows.Rows.around.Goals as goal

pub returns-clause-narrowed : goal.returns-clause-narrowed
returns-clause-narrowed c p follows then parted = (
  c.below-low.ensures.told p (c.marks_with-least.ensures.least p follows then) parted,
  λ k d a b. c.end_above-high.ensures.told p (c.marks_with-least.ensures.greatest p follows then) parted k d (let most = c.max.ensures in omega (arith, a, most)) b,
)
