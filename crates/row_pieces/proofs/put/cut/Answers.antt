use Rattle.std.proofs.Common.{◌+◌, ◌≤◌, cond, List, length, get_or, set, refl, sym, subst, ap, ◌∙◌, arith}
use Rattle.std.specs.List.{insert}
use Rattle.row_pieces.specs.declared.piece.Piece.{Piece}
use Rattle.row_pieces.proofs.Cutting.{at_ok, most, joined_front, joined_cut, numbered_cut}
use Rattle.row_pieces.proofs.put.cut.Goals as goal

pub overflow_add-start : goal.overflow_add-start
overflow_add-start c =
    let ps = c.args.pieces.now.items in
    let p = c.index_mut-piece.result.now in
    let is = c.index_mut-piece.ensures.value ∙ ap (λ qs. get_or qs c.args.at p) c.reserve.ensures.items in
    let fits : c.args.middle ≤ length p.rows = subst (λ (z : Piece). c.args.middle ≤ length z.rows) (sym is) (c.requires.within p) in
    let bound = most ps c.args.at c.args.middle c.requires.there p is fits c.requires.numbered in
    let few = c.requires.fits in
    omega (arith, bound, few)

pub returns-in-Ok-clause-joined : goal.returns-in-Ok-clause-joined
returns-in-Ok-clause-joined c =
    let ps = c.args.pieces.now.items in
    let at = c.args.at in
    let p = c.index_mut-piece.result.now in
    let is = c.index_mut-piece.ensures.value ∙ ap (λ qs. get_or qs at p) c.reserve.ensures.items in
    let fits : c.args.middle ≤ length p.rows = subst (λ (z : Piece). c.args.middle ≤ length z.rows) (sym is) (c.requires.within p) in
    let q : Piece = record { start = p.start; rows = c.split_off.new.self } in
    let r : Piece = record { start = p.start + c.args.middle; rows = c.in-Ok.rows } in
    let room = at_ok c.reserve.result (sym c.is_err.ensures.value ∙ c.if-is_err.false) c.reserve.ensures.ok in
    let put = c.insert.ensures.succeeds (omega (arith, room)) in
    let new_is = c.insert.ensures.items ∙ ap (λ b. cond b (insert (set c.reserve.new.self.items at q) (at + 1) r) (set c.reserve.new.self.items at q)) put ∙ ap (λ (zs : List Piece). insert (set zs at q) (at + 1) r) c.reserve.ensures.items in
    joined_cut ps at c.args.middle c.requires.there p is fits c.requires.numbered q r refl c.in-Ok.ensures.front refl c.in-Ok.ensures.behind c.insert.new.self.items new_is

pub returns-in-Ok-clause-front : goal.returns-in-Ok-clause-front
returns-in-Ok-clause-front c =
    let ps = c.args.pieces.now.items in
    let at = c.args.at in
    let p = c.index_mut-piece.result.now in
    let is = c.index_mut-piece.ensures.value ∙ ap (λ qs. get_or qs at p) c.reserve.ensures.items in
    let fits : c.args.middle ≤ length p.rows = subst (λ (z : Piece). c.args.middle ≤ length z.rows) (sym is) (c.requires.within p) in
    let q : Piece = record { start = p.start; rows = c.split_off.new.self } in
    let r : Piece = record { start = p.start + c.args.middle; rows = c.in-Ok.rows } in
    let room = at_ok c.reserve.result (sym c.is_err.ensures.value ∙ c.if-is_err.false) c.reserve.ensures.ok in
    let put = c.insert.ensures.succeeds (omega (arith, room)) in
    let new_is = c.insert.ensures.items ∙ ap (λ b. cond b (insert (set c.reserve.new.self.items at q) (at + 1) r) (set c.reserve.new.self.items at q)) put ∙ ap (λ (zs : List Piece). insert (set zs at q) (at + 1) r) c.reserve.ensures.items in
    joined_front ps at c.args.middle c.requires.there p is fits c.requires.numbered q r refl c.in-Ok.ensures.front refl c.in-Ok.ensures.behind c.insert.new.self.items new_is

pub returns-in-Ok-clause-numbered : goal.returns-in-Ok-clause-numbered
returns-in-Ok-clause-numbered c =
    let ps = c.args.pieces.now.items in
    let at = c.args.at in
    let p = c.index_mut-piece.result.now in
    let is = c.index_mut-piece.ensures.value ∙ ap (λ qs. get_or qs at p) c.reserve.ensures.items in
    let fits : c.args.middle ≤ length p.rows = subst (λ (z : Piece). c.args.middle ≤ length z.rows) (sym is) (c.requires.within p) in
    let q : Piece = record { start = p.start; rows = c.split_off.new.self } in
    let r : Piece = record { start = p.start + c.args.middle; rows = c.in-Ok.rows } in
    let room = at_ok c.reserve.result (sym c.is_err.ensures.value ∙ c.if-is_err.false) c.reserve.ensures.ok in
    let put = c.insert.ensures.succeeds (omega (arith, room)) in
    let new_is = c.insert.ensures.items ∙ ap (λ b. cond b (insert (set c.reserve.new.self.items at q) (at + 1) r) (set c.reserve.new.self.items at q)) put ∙ ap (λ (zs : List Piece). insert (set zs at q) (at + 1) r) c.reserve.ensures.items in
    numbered_cut ps at c.args.middle c.requires.there p is fits c.requires.numbered q r refl c.in-Ok.ensures.front refl c.in-Ok.ensures.behind c.insert.new.self.items new_is
