use Rattle.std.proofs.Common.{◌<◌, length, get_or, sym, subst, Option}
use Rattle.std.specs.Option.{IfSome}
use Rattle.std.proofs.lemmas.List.Elements.{Contains-get_or}
use Rattle.cnf_form.specs.declared.formula.Lit.{Lit}
use Rattle.flat_formula.proofs.Looking.{none}
use Rattle.flat_formula.proofs.look.open_lit.Goals.{in-Open, in-False}
use Rattle.flat_formula.proofs.look.open_lit.Goals as goal

pub truth_of-requires : goal.truth_of-requires
truth_of-requires c = c.requires (get_or c.args.clause.now c.loop-lit.lit-index none) (Contains-get_or c.args.clause.now c.loop-lit.lit-index none c.loop-lit-test.true)

pub loop-lit-preserved : goal.loop-lit-preserved
loop-lit-preserved c = elim c.match-truth_of.branch [
  | in-Open w ↦ subst (λ (o : Option Lit). IfSome o (λ lit. lit.var < length c.args.values.now)) (sym w.open-is)
      (c.requires (get_or c.args.clause.now c.loop-lit.lit-index none) (Contains-get_or c.args.clause.now c.loop-lit.lit-index none c.loop-lit-test.true))
  | in-False w ↦ subst (λ (o : Option Lit). IfSome o (λ lit. lit.var < length c.args.values.now)) (sym w.open-is) c.loop-lit.invariant
]
