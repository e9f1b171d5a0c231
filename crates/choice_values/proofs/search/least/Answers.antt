use Rattle.std.proofs.Common.{rules, sym, subst}
use Rattle.std.specs.Prelude.{ℤ}
use mir.Val.{SFits, to_z, of_z}
use mir.Syntax.{w128}
use Rattle.std.proofs.lemmas.Int.{to_z-of_z}
use Rattle.choice_values.specs.Choosing.{IsSolved}
use Rattle.choice_values.proofs.Choices.{least-of}
use Rattle.choice_values.proofs.search.least.Goals as goal

pub returns : goal.returns
returns c =
    let sizes = c.args.sizes.now in
    let lists = c.args.lists.now in
    let n = c.in_ok-value.value in
    let fits : SFits w128 n = search rules in
    least-of sizes lists c.in_ok-rows.rows.items (record { value = to_z w128 (of_z w128 n); rows = c.solve.new.rows }) c.requires.there
    (subst (λ (k : ℤ). IsSolved sizes lists c.in_ok-rows.rows.items c.solve.new.rows.items k) (sym (to_z-of_z w128 n fits)) c.in_ok-value.ensures)
