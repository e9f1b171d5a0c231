use Rattle.std.proofs.Common.{sym, ◌∙◌, ap, subst}
use Rattle.range_ask.specs.Ranges.{IsRange}
use Rattle.range_ask.proofs.range.range_of.Goals as goal
use Rattle.table_blocks.specs.Tables.{names_in}

pub returns : goal.returns
returns c =
    let choice = c.in_ok-choice.choice in
    let is = c.in_ok-choice.ensures in
    let low = c.in_ok-low.ensures ∙ ap (names_in c.args.table) c.as_slice.ensures.value in
    let high = c.in_ok-high.ensures ∙ ap (names_in c.args.table) c.as_slice-2.ensures.value in
    subst (λ names. IsRange c.args.db.now c.args.table c.args.goal.now c.args.tests.now (record { least = choice.least; low = names; greatest = choice.greatest; high = c.in_ok-high.high })) (sym low)
    (subst (λ names. IsRange c.args.db.now c.args.table c.args.goal.now c.args.tests.now (record { least = choice.least; low = names_in c.args.table choice.low.items; greatest = choice.greatest; high = names })) (sym high) is.range)
