use Rattle.std.proofs.Common.{rules, ◌≡◌, List, length, replicate, sym, subst}
use Rattle.choice_values.specs.Choosing.{AreRows}
use Rattle.choice_values.proofs.Choices.{rows-begun}
use Rattle.choice_values.proofs.search.first_rows.Goals as goal

pub returns : goal.returns
returns c =
    let e : c.in_ok-vec.field-0.items ≡ replicate (length c.args.sizes.now) 0 = search rules in
    subst (AreRows c.args.sizes.now) (sym e) (rows-begun c.args.sizes.now c.requires)
