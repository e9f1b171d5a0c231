use Rattle.std.proofs.Common.{◌≡◌, ℕ, Option, Some, None, true, inl, inr, refl, sym, subst, arith, rules, get_or}
use Rattle.std.specs.Option.{is_some}
use Rattle.std.proofs.lemmas.Bool.{cases_eq}
use Rattle.search_trail.proofs.order.first_open.Goals as goal

placed : (o : Option ℕ) → is_some o ≡ true → (p : ℕ) × (o ≡ Some p)
placed (Some p) e = (p, refl)
placed None e = search rules

pub loop-var-preserved : goal.loop-var-preserved
loop-var-preserved c v low k =
    let here = placed (get_or c.args.places.now c.loop-var.var None) c.if-is_none.ensures in
    elim (cases_eq v c.loop-var.var) [
      | inl e ↦ (here.0, subst (λ (n : ℕ). get_or c.args.places.now n None ≡ Some here.0) (sym e) here.1)
      | inr ne ↦ c.loop-var.invariant v low (omega (arith, k, ne))
    ]
