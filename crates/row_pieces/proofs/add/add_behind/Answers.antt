use Rattle.std.proofs.Common.{◌≡◌, ◌+◌, ◌-◌, ◌<◌, ◌++◌, length, take, drop, refl, sym, ap, ◌∙◌, arith}
use Rattle.std.proofs.lemmas.List.{append-nil, append_assoc, drop_all}
use Rattle.std.proofs.lemmas.Result.{err_from_is_err_and}
use Rattle.row_pieces.specs.declared.piece.Piece.{Piece}
use Rattle.row_pieces.specs.Joined.{joined}
use Rattle.row_pieces.proofs.Joining.{joined_at, joined_same, joined_set, numbered_reset}
use Rattle.row_pieces.proofs.add.add_behind.Goals as goal

pub returns-in_err-append-clause-err : goal.returns-in_err-append-clause-err
returns-in_err-append-clause-err c =
    let ps = c.args.pieces.now.items in
    let at = c.len-count.result - 1 in
    let piece = c.index_mut-last.result.now in
    let count = c.len-count.ensures in
    let held = c.args.pieces.now.ok.0 in
    let some = c.if-count-eq0.false in
    let new : Piece = record { start = piece.start; rows = c.append.new.self } in
    let p = err_from_is_err_and c.from_residual.result c.from_residual.ensures.1 in
    rw (p.1) (joined_same ps at piece new (omega (arith, count, held, some)) (c.in_err-append.ensures.err ∙ ap (λ (z : Piece). z.rows) c.index_mut-last.ensures.value))

pub returns-clause-ok : goal.returns-clause-ok
returns-clause-ok c =
    let ps = c.args.pieces.now.items in
    let rows = c.args.rows.now.items in
    let at = c.len-count.result - 1 in
    let piece = c.index_mut-last.result.now in
    let count = c.len-count.ensures in
    let held = c.args.pieces.now.ok.0 in
    let some = c.if-count-eq0.false in
    let there : at < length ps = omega (arith, count, held, some) in
    let new : Piece = record { start = piece.start; rows = c.append.new.self } in
    let before = joined (take at ps) in
    let none = drop_all (at + 1) ps (omega (arith, count, held, some)) in
    let whole : joined ps ≡ before ++ piece.rows =
    joined_at ps at piece there
    ∙ ap (λ (z : Piece). before ++ (z.rows ++ joined (drop (at + 1) ps))) (sym c.index_mut-last.ensures.value)
    ∙ ap (λ qs. before ++ (piece.rows ++ joined qs)) none
    ∙ ap (λ xs. before ++ xs) (append-nil piece.rows)
    in
    joined_set ps at new there
    ∙ ap (λ qs. before ++ (new.rows ++ joined qs)) none
    ∙ ap (λ xs. before ++ xs) (append-nil new.rows ∙ c.in_ok-append.ensures.ok)
    ∙ sym (append_assoc before piece.rows rows)
    ∙ ap (λ xs. xs ++ rows) (sym whole)

pub returns-clause-kept : goal.returns-clause-kept
returns-clause-kept c numbered =
    let ps = c.args.pieces.now.items in
    let at = c.len-count.result - 1 in
    let piece = c.index_mut-last.result.now in
    let count = c.len-count.ensures in
    let held = c.args.pieces.now.ok.0 in
    let some = c.if-count-eq0.false in
    let new : Piece = record { start = piece.start; rows = c.append.new.self } in
    numbered_reset 0 ps at piece new (omega (arith, count, held, some)) c.index_mut-last.ensures.value refl numbered
