use Rattle.std.proofs.Common.{◌+◌, ◌++◌, ◌∷◌, ◌∙◌, [], List, suc, ap, sym, arith}
use Rattle.std.proofs.lemmas.List.FromFn.{map-range_with_len_more}
use Rattle.cnf_form.specs.declared.formula.Lit.{Lit}
use Rattle.cnf_form.specs.Literals.{positive}
use Rattle.block_lists.proofs.clauses.block_clause.Goals as goal

pub loop-at-preserved : goal.loop-at-preserved
loop-at-preserved c =
    let base = c.args.base in
    let n = base + 1 + c.loop-at.at in
    ◌∙◌ {A = List Lit} c.in_ok-push.ensures.items (◌∙◌ {A = List Lit} (ap (λ ls. ls ++ positive n ∷ []) c.loop-at.invariant) (sym (map-range_with_len_more positive (suc base) c.loop-at.at n (omega arith))))
