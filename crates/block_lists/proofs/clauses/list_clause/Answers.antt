use Rattle.std.proofs.Common.{◌∙◌, List, ℕ, ap, map, subst, Contains, ◌↔◌}
use Rattle.std.proofs.lemmas.Result.{IfOk-weaker}
use Rattle.cnf_form.specs.Literals.{negative}
use Rattle.block_lists.proofs.clauses.list_clause.Goals as goal

pub returns : goal.returns
returns c =
    IfOk-weaker c.negatives.result _ _ (λ clause is. (
      c.order.new.numbers.items,
      record { rises = c.order.ensures.rises; same = λ m. subst (λ (ns : List ℕ). Contains c.order.new.numbers.items m ↔ Contains ns m) c.in_ok-fill_numbers.ensures (c.order.ensures.same m) },
      is ∙ ap (λ (ns : List ℕ). map negative ns) c.as_slice.ensures.value,
    )) c.negatives.ensures
