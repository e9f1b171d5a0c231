use Rattle.spj_syntax.proofs.Steps.{exit_pushes}
use Rattle.spj_syntax.proofs.lists.push_piece.Goals as goal

pub returns-in_err-item-clause-pushes : goal.returns-in_err-item-clause-pushes
returns-in_err-item-clause-pushes g c = exit_pushes g.P.Piece.tokens g.P.Piece.kept _ _ _ c.from_residual.ensures.1 c.in_err-item.ensures.reads

pub returns-clause-pushes : goal.returns-clause-pushes
returns-clause-pushes g c = record { item = c.in_ok-item.item; grown = c.in_ok-push.ensures.ok; took = c.in_ok-item.ensures.reads; is_kept = c.in_ok-item.ensures.kept }
