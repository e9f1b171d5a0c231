use Rattle.std.proofs.lemmas.Result.{IfOk-weaker}
use Rattle.part_search.specs.declared.searched.Searched.{Searched}
use Rattle.union_ask.proofs.Searching.{searched-in}
use Rattle.union_ask.proofs.search.certain_of_union.Goals as goal

pub returns : goal.returns
returns c =
    let parts = c.args.parts.now in
    IfOk-weaker c.rows_of_parts.result _ _ (λ (s : Searched) h. searched-in parts.db.now parts.queries.now c.in_ok-frame.frame.tables c.in_ok-frame.ensures.tables c.args.budget s h) c.rows_of_parts.ensures
