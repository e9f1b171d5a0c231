use Rattle.std.proofs.Common.{◌∙◌, List, ℕ, ap, map}
use Rattle.std.proofs.lemmas.Result.{IfOk-weaker}
use Rattle.row_lists.specs.Clauses.{negative}
use Rattle.row_lists.proofs.Filled.{numbers_sorted}
use Rattle.row_lists.proofs.clauses.fill_list.Goals as goal

pub returns : goal.returns
returns c =
    IfOk-weaker c.fill_negative.result _ _ (λ done is. (
      c.order.new.numbers.items,
      numbers_sorted c.args.lists.now.frame.now.tables c.args.blocks.now.spans c.args.names.now c.fill_numbers.new.numbers.items c.order.new.numbers.items c.in_ok-fill_numbers.ensures c.order.ensures.rises c.order.ensures.same,
      is ∙ ap (λ (ns : List ℕ). map negative ns) c.as_slice.ensures.value,
    )) c.fill_negative.ensures
