use Rattle.std.proofs.Common.{◌≡◌, ◌+◌, ◌<◌, ◌++◌, length, take, drop, get_or, set, ap, refl, ◌∙◌, arith}
use Rattle.std.proofs.lemmas.List.{get_or_default, length-append, length-drop, length-take-le}
use Rattle.row_pieces.specs.declared.piece.Piece.{Piece}
use Rattle.row_pieces.specs.Joined.{joined}
use Rattle.row_pieces.proofs.Retaining.{exchanged_next, exchanged_fits}
use Rattle.row_pieces.proofs.take.exchange_each.Goals as goal

pub exchange-requires : goal.exchange-requires
exchange-requires c =
    let ps = c.loop-at.pieces in
    let at = c.loop-at.at in
    let p = c.index-pieces-at.result in
    let test = c.loop-at-test.true in
    let long = c.loop-at.auto.pieces in
    let i = c.loop-at.invariant in
    let fits = exchanged_fits ps c.args.pieces.now at p (omega (arith, test, long)) long c.index-pieces-at.is i.rest in
    let start = i.start in
    let all = c.requires in
    let same = c.loop-at.auto.rows in
    let is = ap (λ (z : Piece). length z.rows) c.index-pieces-at.is in
    omega (arith, fits, start, all, same, is)

pub loop-at-preserved : goal.loop-at-preserved
loop-at-preserved c =
    let ps = c.loop-at.pieces in
    let at = c.loop-at.at in
    let test = c.loop-at-test.true in
    let long = c.loop-at.auto.pieces in
    let there : at < length ps = omega (arith, test, long) in
    let old = get_or ps at c.index-pieces-at.result in
    let is = get_or_default ps at c.index-pieces-at.result old there in
    let new : Piece = record { start = old.start; rows = c.exchange.new.self } in
    let i = c.loop-at.invariant in
    let start = c.loop-at.start in
    let rows = c.loop-at.rows in
    let others = c.args.rows.now in
    let fits = exchanged_fits ps c.args.pieces.now at old there long is i.rest in
    let next = exchanged_next ps (set ps at new) c.args.pieces.now rows c.exchange.new.others others at start old new there long is i.start c.requires i.held i.given i.rest c.exchange.ensures.held c.exchange.ensures.given refl in
    let len : length old.rows ≡ c.len-start.result = (let l = c.len-start.ensures in let same = ap length c.exchange.ensures.held in let taken = length-take-le (length old.rows) (drop start rows) (let far = length-drop start rows in let first = i.start in let all = c.requires in let as_many = c.loop-at.auto.rows in omega (arith, fits, far, first, all, as_many)) in omega (arith, l, same, taken)) in
    let more = ap length next.0 in
    let sum = length-append (joined (take at c.args.pieces.now)) old.rows in
    let start_is = i.start in
    record {
      start = omega (arith, more, sum, start_is, len);
      held = next.1 ∙ ap (λ k. take (start + k) others) len;
      given = next.2 ∙ ap (λ k. joined (take (at + 1) c.args.pieces.now) ++ drop (start + k) others) len;
      rest = next.3;
    }
