use Rattle.std.proofs.Common.{◌++◌, ◌∙◌, map, ap}
use Rattle.std.proofs.lemmas.Result.{IfOk-weaker}
use Rattle.join_access.specs.Listing.{names_of}
use Rattle.row_lists.specs.Clauses.{negative, positive}
use Rattle.row_lists.specs.Spans.{variables_of_spans}
use Rattle.list_search.specs.Quotients.{AreClassesOf}
use Rattle.list_search.proofs.ClassLists.{lists-of-same}
use Rattle.list_search.proofs.quotient.clauses_over.Goals as goal

pub returns : goal.returns
returns c =
    let l = c.args.lists.now in
    let vars = variables_of_spans c.args.classed.now.rows.spans in
    let blocks = c.in_ok-whole.whole.items in
    let found = c.each_once.new.lists.items in
    IfOk-weaker c.clauses_of-clauses.result _ _ (λ clauses is. record {
      blocks = blocks;
      lists = found;
      of_blocks = c.in_ok-whole.ensures;
      of_lists = lists-of-same (AreClassesOf l.frame.now.tables (variables_of_spans c.args.classed.now.rows.spans) c.args.classed.now.classes.items) (names_of l.lists.now) c.in_ok-found.found.items found c.in_ok-found.ensures c.each_once.ensures;
      is = is ∙ ap (λ ls. map (map positive) ls ++ map (map negative) c.as_slice-2.result.now) c.as_slice.ensures.value ∙ ap (λ ls. map (map positive) blocks ++ map (map negative) ls) c.as_slice-2.ensures.value;
    }) c.clauses_of-clauses.ensures
