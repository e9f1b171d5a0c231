use Rattle.std.proofs.Common.{◌≡◌, ◌∙◌, ◌+◌, length, ap, arith}
use Rattle.std.proofs.lemmas.List.{length-replicate}
use Rattle.cnf_form.specs.declared.formula.Truth.TheVariants as truth
use Rattle.flat_formula.proofs.Looking.{assigned, satisfied}
use Rattle.flat_formula.proofs.guess.glance.Goals as goal

pub propagate-requires : goal.propagate-requires
propagate-requires c d md l ml =
    let below = c.requires d md l ml in
    let long : length c.open_values.new.values.items ≡ c.args.vars + 1 = ap length c.in_ok-open_values.ensures ∙ length-replicate (c.args.vars + 1) truth.Open in
    omega (arith, below, long)

pub guess-requires : goal.guess-requires
guess-requires c d md l ml =
    let below = c.requires d md l ml in
    let long : length c.open_values.new.values.items ≡ c.args.vars + 1 = ap length c.in_ok-open_values.ensures ∙ length-replicate (c.args.vars + 1) truth.Open in
    let same = c.propagate.ensures.len in
    omega (arith, below, long, same)

pub returns-in-Holds : goal.returns-in-Holds
returns-in-Holds c = (assigned c.propagate.new.values.items, satisfied c.propagate.new.values.items c.args.formula.now (c.propagate.ensures.holds c.in-Holds.is))

pub returns-then-guess : goal.returns-then-guess
returns-then-guess c = (assigned c.guess.new.values.items, satisfied c.guess.new.values.items c.args.formula.now (c.guess.ensures c.if-guess.true))
