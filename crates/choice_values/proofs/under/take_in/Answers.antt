use Rattle.std.proofs.Common.{rules, ◌≡◌, [], List, length, refl, sym, ◌∙◌, ap, subst, arith}
use Rattle.std.specs.Prelude.{◌+ℤ◌}
use mir.Val.{SFits, to_z, of_z}
use mir.Syntax.{w128}
use Rattle.std.proofs.lemmas.Int.{to_z-of_z}
use Rattle.std.proofs.lemmas.Bool.{eqb-true}
use Rattle.std.proofs.lemmas.List.{nil_from_length}
use Rattle.choice_values.proofs.Cutting.{under-whole, under-more}
use Rattle.choice_values.proofs.under.take_in.Goals as goal

pub returns-in_ok-rest : goal.returns-in_ok-rest
returns-in_ok-rest c =
    let base = c.args.rest.now.base in
    let whole : SFits w128 c.in_ok-rest.field-0 = search rules in
    let old : SFits w128 base = search rules in
    let one : SFits w128 c.args.weight = search rules in
    let empty : c.args.left.now ≡ [] = nil_from_length c.args.left.now (let none = eqb-true (length c.args.left.now) 0 (sym c.if-is_empty.ensures) in omega (arith, none)) in
    λ b r front l h w k. under-whole b r front l base c.args.rest.now.lists h c.args.left.now k empty (to_z w128 (of_z w128 c.in_ok-rest.field-0))
    (to_z-of_z w128 c.in_ok-rest.field-0 whole ∙ (c.in_ok-rest.ensures ∙ (ap (λ n. n +ℤ to_z w128 (of_z w128 c.args.weight)) (to_z-of_z w128 base old) ∙ ap (λ n. base +ℤ n) (to_z-of_z w128 c.args.weight one ∙ sym w))))

pub returns-in_ok-add : goal.returns-in_ok-add
returns-in_ok-add c =
    let one : SFits w128 c.args.weight = search rules in
    λ b r front l h w k. under-more b r front l c.args.rest.now.base c.args.rest.now.lists h (record { weight = to_z w128 (of_z w128 c.args.weight); names = c.args.left.now }) k
    (to_z-of_z w128 c.args.weight one ∙ sym w) c.add.new.self c.in_ok-add.ensures.ok
