use Rattle.std.proofs.Common.{◌≡◌, ◌+◌, ◌<◌, ◌≤◌, ◌++◌, ◌∷◌, [], length, take, set, get_or, arith, ap, sym, subst, ◌∙◌, refl}
use Rattle.row_pieces.specs.declared.piece.Piece.{Piece}
use Rattle.row_pieces.specs.Joined.{joined, ArePlaced}
use Rattle.row_pieces.proofs.Joining.{joined-append, joined_more, joined_rise, joined_same, numbered_push}
use Rattle.std.proofs.lemmas.List.{append-nil, length-append, take_all, take_more_set}
use Rattle.row_pieces.proofs.piece.renumber.Goals as goal

-- the number of rows up to the piece, and that they are no more than all
counted : (c : goal.After-len-start) → (c.loop-at.start + c.len-start.result ≡ length (joined (take (c.loop-at.at + 1) c.loop-at.pieces))) × (length (joined (take (c.loop-at.at + 1) c.loop-at.pieces)) ≤ length (joined c.args.pieces.now))
counted c =
    let ps = c.loop-at.pieces in
    let at = c.loop-at.at in
    let test = c.loop-at-test.true in
    let long = c.loop-at.auto.pieces in
    let inside : at < length ps = omega (arith, test, long) in
    let piece = get_or ps at c.index-pieces-at.result in
    let more = ap length (joined_more ps at c.index-pieces-at.result inside) in
    let sum = length-append (joined (take at ps)) piece.rows in
    let start = c.loop-at.invariant.start in
    let len = c.len-start.ensures in
    let rise = joined_rise ps (at + 1) (length ps) (omega (arith, inside)) in
    let whole = ap (λ qs. length (joined qs)) (take_all (length ps) ps (omega arith)) in
    let same = ap length c.loop-at.invariant.rows in
    (omega (arith, more, sum, start, len), omega (arith, rise, whole, same))

pub overflow_add-start : goal.overflow_add-start
overflow_add-start c =
    let n = counted c in
    let e = n.0 in
    let most = n.1 in
    let few = c.requires in
    omega (arith, e, most, few)

pub loop-at-preserved : goal.loop-at-preserved
loop-at-preserved c =
    let ps = c.loop-at.pieces in
    let at = c.loop-at.at in
    let test = c.loop-at-test.true in
    let long = c.loop-at.auto.pieces in
    let inside : at < length ps = omega (arith, test, long) in
    let old = get_or ps at c.index-pieces-at.result in
    let new : Piece = record { start = c.loop-at.start; rows = old.rows } in
    let front = take_more_set ps at new inside in
    let more : joined (take (at + 1) (set ps at new)) ≡ joined (take (at + 1) ps) =
    ap joined front
    ∙ joined-append (take at ps) (new ∷ [])
    ∙ ap (λ xs. joined (take at ps) ++ xs) (append-nil old.rows)
    ∙ sym (joined_more ps at c.index-pieces-at.result inside)
    in
    record {
      start = (counted c).0 ∙ sym (ap length more);
      numbered = subst (λ qs. ArePlaced 0 qs) (sym front) (numbered_push 0 (take at ps) new c.loop-at.invariant.numbered (let start = c.loop-at.invariant.start in omega (arith, start)));
      rows = joined_same ps at c.index-pieces-at.result new inside refl ∙ c.loop-at.invariant.rows;
    }
