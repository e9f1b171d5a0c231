use Rattle.std.proofs.Common.{◌≡◌, ◌<◌, ◌≤◌, ◌∙◌, Some, ap, sym, subst, List, length, slice_get}
use Rattle.std.specs.List.{slice_range}
use Rattle.cnf_form.specs.declared.formula.Lit.{Lit}
use Rattle.flat_formula.proofs.Stretches.{clause-at, within-at}
use Rattle.flat_formula.proofs.flat.FlatFormula.clause.Goals as goal

pub part-requires-clause-order : goal.part-requires-clause-order
part-requires-clause-order c =
    (within-at c.self.inside.pool.items c.self.inside.stretches.items c.args.at c.index.result.now c.self.invariant (subst (λ (cs : List (List Lit)). c.args.at < length cs) (sym c.self.view_is) c.requires) c.index.ensures).0

pub part-requires-clause-within : goal.part-requires-clause-within
part-requires-clause-within c =
    subst (λ (pool : List Lit). c.index.result.now.end ≤ length pool) (sym c.as_slice.ensures.value)
    (within-at c.self.inside.pool.items c.self.inside.stretches.items c.args.at c.index.result.now c.self.invariant (subst (λ (cs : List (List Lit)). c.args.at < length cs) (sym c.self.view_is) c.requires) c.index.ensures).1

pub returns : goal.returns
returns c =
    subst (λ (cs : List (List Lit)). slice_get cs c.args.at ≡ Some c.part.result.now) c.self.view_is
    (clause-at c.self.inside.pool.items c.self.inside.stretches.items c.args.at c.index.result.now (subst (λ (cs : List (List Lit)). c.args.at < length cs) (sym c.self.view_is) c.requires) c.index.ensures
    ∙ ap Some (sym (c.part.ensures ∙ ap (λ (pool : List Lit). slice_range pool c.index.result.now.start c.index.result.now.end) c.as_slice.ensures.value)))
