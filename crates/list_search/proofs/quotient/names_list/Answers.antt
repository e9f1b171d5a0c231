use Rattle.std.proofs.Common.{sym, subst}
use Rattle.row_lists.specs.Spans.{variables_of_spans}
use Rattle.list_search.specs.Quotients.{AreClassesOf}
use Rattle.list_search.proofs.quotient.names_list.Goals as goal

pub returns : goal.returns
returns c = subst (AreClassesOf c.args.frame.now.tables (variables_of_spans c.args.classed.now.rows.spans) c.args.classed.now.classes.items c.args.names.now) (sym c.from_vec.ensures) (record {
  rises = c.put_in_order.ensures.rises;
  exactly = λ n. (λ m. (c.in_ok-gather_names.ensures n).0 ((c.put_in_order.ensures.same n).0 m), λ h. (c.put_in_order.ensures.same n).1 ((c.in_ok-gather_names.ensures n).1 h));
})
