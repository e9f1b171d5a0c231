use Rattle.std.proofs.Common.{◌++◌, ◌∷◌, ◌∙◌, [], List, take, get_or, sym, subst}
use Rattle.std.proofs.lemmas.List.{take_more}
use Rattle.std.proofs.lemmas.List.Elements.{Contains-get_or}
use Rattle.cnf_form.specs.declared.formula.Lit.{Lit}
use Rattle.flat_formula.specs.Looks.{IsLook}
use Rattle.flat_formula.proofs.Looking.{none, look-false, look-open}
use Rattle.flat_formula.proofs.look.look_at.Goals.{in-Open, in-False}
use Rattle.flat_formula.proofs.look.look_at.Goals as goal

pub truth_of-requires : goal.truth_of-requires
truth_of-requires c = c.requires (get_or c.args.clause.now c.loop-lit.lit-index none) (Contains-get_or c.args.clause.now c.loop-lit.lit-index none c.loop-lit-test.true)

pub loop-lit-preserved : goal.loop-lit-preserved
loop-lit-preserved c =
    let clause = c.args.clause.now in
    let values = c.args.values.now in
    let i = c.loop-lit.lit-index in
    let x = get_or clause i none in
    subst (λ (xs : List Lit). IsLook values xs c.match-truth_of.look) (sym (take_more clause i none c.loop-lit-test.true)) (elim c.match-truth_of.branch [
      | in-Open w ↦ subst (IsLook values (take i clause ++ x ∷ [])) (sym w.look-is) (look-open values (take i clause) x c.loop-lit.look w.with_open-look.result c.loop-lit.invariant w.with_open-look.ensures)
      | in-False w ↦ subst (IsLook values (take i clause ++ x ∷ [])) (sym w.look-is) (look-false values (take i clause) x c.loop-lit.look c.loop-lit.invariant (sym c.truth_of.ensures ∙ w.in-False.is))
    ])
