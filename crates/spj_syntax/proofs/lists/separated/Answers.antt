use Rattle.std.proofs.Common.{◌≡◌, ◌∷◌, [], length, arith, refl, sym, ◌∙◌, ap, length-append, ◌++◌}
use Rattle.std.proofs.lemmas.List.{append-nil}
use Rattle.std.proofs.lemmas.List.Elements.{All-cons, All-nil, All-push}
use Rattle.spj_syntax.specs.Reading.{separator_lexeme}
use Rattle.spj_syntax.specs.Written.{between}
use Rattle.spj_syntax.proofs.Steps.{rest_after, rest_took, rest_fails, rest_more, many_nothing, many_failed, took_both, separator_took, opens_then, fails_first, fails_then, exit, between-push, took_fewer, open_some, drop_shorter}
use Rattle.spj_syntax.proofs.lists.separated.Goals as goal

pub returns-in_err-push_piece-clause-reads : goal.returns-in_err-push_piece-clause-reads
returns-in_err-push_piece-clause-reads g c = exit _ _ c.from_residual-in_err-push_piece.ensures.1 (fails_first c.in_err-push_piece.ensures.pushes)

pub items-init : goal.items-init
items-init g c =
    let h = c.in_ok-push_piece.ensures.pushes in
    let one : c.push_piece.new.items ≡ h.item ∷ [] = h.grown ∙ ap (λ z. z ++ h.item ∷ []) c.in_ok-items.ensures in
    record {
      rest = rw (one, append-nil) (rest_after h.took);
      started = rw one (omega arith);
      room = rw one (omega (arith, took_fewer g.P.Piece.takes_some h.took, c.in_ok-push_piece.ensures.few));
      each = rw one (All-cons g.P.Piece.kept h.item [] h.is_kept (All-nil g.P.Piece.kept));
    }

pub returns-in_err-push_piece-2-clause-reads : goal.returns-in_err-push_piece-2-clause-reads
returns-in_err-push_piece-2-clause-reads g c =
    exit _ _ c.from_residual-in_err-push_piece-2.ensures.1 (rest_fails c.items.invariant.rest
    (many_failed (opens_then refl c.items-test.ensures) (fails_then (separator_took c.args.token c.items-test.ensures c.advance.ensures) c.in_err-push_piece-2.ensures.pushes)))

pub items-smaller : goal.items-smaller
items-smaller g c =
    let some = open_some c.items-test.ensures in
    omega (arith, took_fewer g.P.Piece.takes_some c.in_ok-push_piece-2.ensures.pushes.took, some, drop_shorter c.items.reader some, ap length c.advance.ensures)

pub items-preserved : goal.items-preserved
items-preserved g c =
    let h = c.in_ok-push_piece-2.ensures.pushes in
    let some = open_some c.items-test.ensures in
    record {
      rest = rest_more c.items.invariant.rest (opens_then refl c.items-test.ensures) (took_both (separator_took c.args.token c.items-test.ensures c.advance.ensures) h.took refl)
          (ap (λ z. between (separator_lexeme c.args.token) g.P.Piece.tokens z) h.grown ∙ between-push (separator_lexeme c.args.token) g.P.Piece.tokens c.items.items h.item c.items.invariant.started);
      started = rw h.grown (omega (arith, length-append c.items.items (h.item ∷ [])));
      room = rw h.grown (omega (arith, length-append c.items.items (h.item ∷ []), took_fewer g.P.Piece.takes_some h.took, drop_shorter c.items.reader some, ap length c.advance.ensures, c.items.invariant.room));
      each = rw h.grown (All-push g.P.Piece.kept c.items.items h.item c.items.invariant.each h.is_kept);
    }

pub returns-clause-reads : goal.returns-clause-reads
returns-clause-reads g c = rest_took c.items.invariant.rest (many_nothing (opens_then refl c.items-test.ensures)) (sym (append-nil _))

pub returns-clause-kept : goal.returns-clause-kept
returns-clause-kept g c = c.items.invariant.each
