use Rattle.std.proofs.Common.{ℕ, subst}
use Rattle.std.proofs.lemmas.Result.{IfOk-weaker}
use Rattle.row_lists.specs.declared.frame.Frame.{Frame}
use Rattle.part_search.specs.declared.searched.Searched.{Searched}
use Rattle.union_ask.specs.Searching.{IsSearchedOver}
use Rattle.union_ask.proofs.search.rows_by.Goals as goal

pub returns : goal.returns
returns c =
    let parts = c.args.parts.now in
    IfOk-weaker c.rows_of-found.result _ _
    (λ (s : Searched) h. subst (λ (f : Frame). IsSearchedOver parts.db.now f.tables parts.queries.now c.args.side c.args.budget s) c.in_ok-scope.ensures.frame
    (subst (λ (n : ℕ). IsSearchedOver parts.db.now c.in_ok-scope.scope.frame.tables parts.queries.now c.args.side n s) c.new-search.ensures.budget h))
    c.rows_of-found.ensures
