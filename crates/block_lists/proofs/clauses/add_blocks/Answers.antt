use Rattle.std.proofs.Common.{◌∙◌, ap, arith}
use Rattle.std.proofs.lemmas.List.{map_push}
use Rattle.cnf_form.specs.declared.formula.Clause.{Clause}
use Rattle.cnf_form.specs.Literals.{literals}
use Rattle.block_lists.proofs.Bases.{blocks-added, sum-more}
use Rattle.block_lists.proofs.clauses.add_blocks.Goals as goal

pub loop-size-preserved : goal.loop-size-preserved
loop-size-preserved c =
    let sizes = c.args.sizes.now in
    let i = c.loop-size.size-index in
    let l = c.loop-size-test.true in
    let h = c.loop-size.invariant in (
      sum-more sizes i c.loop-size.base (omega (arith, l)) h.0,
      ap literals c.in_ok-push.ensures.items ∙ (map_push (λ (x : Clause). x.lits) c.loop-size.clauses.items c.in_ok-block_clause.field-0
          ∙ blocks-added sizes i c.loop-size.base (omega (arith, l)) h.0 (literals c.args.clauses.now.items) (literals c.loop-size.clauses.items) c.in_ok-block_clause.field-0.lits h.1 c.in_ok-block_clause.ensures),
    )
