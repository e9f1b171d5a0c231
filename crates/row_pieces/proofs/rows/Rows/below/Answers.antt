use Rattle.std.proofs.Common.{arith}
use Rattle.row_pieces.proofs.Marking.{marked_within, told_front}
use Rattle.row_pieces.proofs.rows.Rows.below.Goals as goal

pub returns-then-found-mark-clause-within : goal.returns-then-found-mark-clause-within
returns-then-found-mark-clause-within c =
    let there = marked_within c.args.self.now c.in-Some.at c.in-Some.found c.in-Some.ensures in
    let next = c.saturating_add.ensures in
    omega (arith, there, next)

pub returns-then-found-mark-clause-told : goal.returns-then-found-mark-clause-told
returns-then-found-mark-clause-told c p passes parted k d a b =
    let next = c.saturating_add.ensures in
    told_front p c.args.self.now c.in-Some.at c.in-Some.found c.args.mark parted c.in-Some.ensures passes c.if-found-mark.true k d a (omega (arith, b, next))
