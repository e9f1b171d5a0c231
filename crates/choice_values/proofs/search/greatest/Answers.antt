use Rattle.std.proofs.Common.{rules, List, refl, sym, ◌∙◌, ap, subst}
use Rattle.std.specs.Prelude.{IfOk, neg_ℤ}
use mir.Val.{SFits, to_z, of_z}
use mir.Syntax.{w128}
use Rattle.std.proofs.lemmas.Int.{to_z-of_z}
use Rattle.choice_values.specs.Values.{Weighted, AreLists, IsLeast}
use Rattle.choice_values.proofs.Choices.{greatest-of, lists-negated}
use Rattle.choice_values.proofs.search.greatest.Goals as goal

pub least-found-requires : goal.least-found-requires
least-found-requires c = subst (AreLists c.args.sizes.now) (sym c.in_ok-turned.ensures) (lists-negated c.args.sizes.now c.args.lists.now c.requires)

pub returns : goal.returns
returns c =
    let sizes = c.args.sizes.now in
    let best = c.in_ok-best.best in
    let n = c.in_ok-best-2.field-0 in
    let fits : SFits w128 n = search rules in
    let small : SFits w128 best.value = search rules in
    greatest-of sizes c.args.lists.now best (record { value = to_z w128 (of_z w128 n); rows = best.rows })
    (subst (λ (ls : List Weighted). IsLeast sizes ls best) c.in_ok-turned.ensures (subst (λ r. IfOk r (IsLeast sizes c.in_ok-turned.turned)) c.in_ok-best.was c.least-found.ensures))
    refl (to_z-of_z w128 n fits ∙ (c.in_ok-best-2.ensures ∙ ap neg_ℤ (to_z-of_z w128 best.value small)))
