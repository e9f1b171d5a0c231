use Rattle.std.proofs.Common.{◌≡◌, ◌+◌, ◌-◌, ◌<◌, ◌++◌, length, take, sym, ap, subst, ◌∙◌, arith}
use Rattle.std.proofs.lemmas.List.{length-append, take_all}
use Rattle.row_pieces.specs.Joined.{joined, ArePlaced}
use Rattle.row_pieces.proofs.Joining.{joined_more, joined_rise}
use Rattle.row_pieces.proofs.Cutting.{begins}
use Rattle.row_pieces.proofs.piece.end_of.Goals as goal

-- the last of the pieces ends there
ends : (c : goal.After-len) → c.index-pieces-count.result.start + c.len.result ≡ length (joined (take c.args.count c.args.pieces.now))
ends c =
    let ps = c.args.pieces.now in
    let at = c.args.count - 1 in
    let piece = c.index-pieces-count.result in
    let some = c.if-count-eq0.false in
    let within = c.requires.within in
    let there : at < length ps = omega (arith, some, within) in
    let same : at + 1 ≡ c.args.count = omega (arith, some) in
    let start = begins ps at 0 there piece c.index-pieces-count.is (omega arith) (subst (λ n. ArePlaced 0 (take n ps)) (sym same) c.requires.numbered) in
    let more = ap length (joined_more ps at piece there ∙ ap (λ p. joined (take at ps) ++ p.rows) (sym c.index-pieces-count.is)) in
    let sum = length-append (joined (take at ps)) piece.rows in
    let all = ap (λ n. length (joined (take n ps))) same in
    let len = c.len.ensures in
    omega (arith, start, more, sum, all, len)

pub overflow_add-result : goal.overflow_add-result
overflow_add-result c =
    let ps = c.args.pieces.now in
    let e = ends c in
    let rise = joined_rise ps c.args.count (length ps) c.requires.within in
    let whole = ap (λ qs. length (joined qs)) (take_all (length ps) ps (omega arith)) in
    let few = c.requires.fits in
    omega (arith, e, rise, whole, few)

pub returns : goal.returns
returns c = ends c
