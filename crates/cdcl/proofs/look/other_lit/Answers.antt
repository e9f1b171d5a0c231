use Rattle.std.proofs.Common.{◌≡◌, take, List, get_or, sym, ◌∙◌, subst, inl, inr, arith, false, rules}
use Rattle.std.specs.Prelude.{Contains}
use Rattle.std.proofs.lemmas.Grind.{take_at_read}
use Rattle.std.proofs.lemmas.List.{take_all}
use Rattle.std.proofs.lemmas.List.Elements.{Contains-push_cases}
use Rattle.cnf_form.specs.declared.formula.Lit.{Lit}
use Rattle.cdcl.proofs.look.other_lit.Goals as goal

abbrev none : Lit
none = record { var = 0; positive = false }

pub loop-lit-preserved : goal.loop-lit-preserved
loop-lit-preserved c m i =
    let xs = c.args.clause.now in
    let k = c.loop-lit.lit-index in
    let same : c.args.first ≡ get_or xs k none = search rules in
    elim (Contains-push_cases (take k xs) (get_or xs k none) m (subst (λ (ys : List Lit). Contains ys m) ((take_at_read xs k none c.loop-lit-test.true).1) i)) [
      | inl j ↦ c.loop-lit.invariant m j
      | inr e ↦ sym e ∙ sym same
    ]

pub returns : goal.returns
returns c m i =
    let e = take_all c.loop-lit.lit-index c.args.clause.now (omega (arith, c.loop-lit-test.false)) in
    c.loop-lit.invariant m (subst (λ (ys : List Lit). Contains ys m) (sym e) i)
