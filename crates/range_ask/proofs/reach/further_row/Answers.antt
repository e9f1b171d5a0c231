use Rattle.std.proofs.Common.{[], ◌∷◌, ◌++◌, sym, subst}
use Rattle.std.specs.List.{filter}
use Rattle.std.specs.Option.{option_copied}
use Rattle.range_ask.specs.Picks.{IsExtreme}
use Rattle.range_ask.specs.Reaching.{IsIfMet}
use Rattle.range_ask.proofs.Further.{row-first, row-further, row-stays}
use Rattle.range_ask.proofs.reach.further_row.Goals as goal

pub returns-in_default-best : goal.returns-in_default-best
returns-in_default-best c = λ p xs x h m.
    let met = subst (λ o. IsIfMet p x (option_copied o)) c.in-Some.is m in
    subst (λ o. IsExtreme c.args.way c.args.col (filter p (xs ++ x ∷ [])) (option_copied o)) (sym c.in-Some.is)
    (row-first p xs x met.0 c.args.way c.args.col c.in-Some.row.now met.1 (subst (λ o. IsExtreme c.args.way c.args.col (filter p xs) (option_copied o)) c.in_default-best.is h))

pub returns-then-is_further : goal.returns-then-is_further
returns-then-is_further c = λ p xs x h m.
    let met = subst (λ o. IsIfMet p x (option_copied o)) c.in-Some.is m in
    subst (λ o. IsExtreme c.args.way c.args.col (filter p (xs ++ x ∷ [])) (option_copied o)) (sym c.in-Some.is)
    (row-further p xs x met.0 c.args.way c.args.col c.in-Some.row.now met.1 c.in-Some-best.other.now (subst (λ o. IsExtreme c.args.way c.args.col (filter p xs) (option_copied o)) c.in-Some-best.is h)
    (c.is_further.ensures.further c.if-is_further.true))

pub returns-else-is_further : goal.returns-else-is_further
returns-else-is_further c = λ p xs x h m.
    let met = subst (λ o. IsIfMet p x (option_copied o)) c.in-Some.is m in
    subst (λ o. IsExtreme c.args.way c.args.col (filter p (xs ++ x ∷ [])) (option_copied o)) (sym c.in-Some-best.is)
    (row-stays p xs x met.0 c.args.way c.args.col c.in-Some.row.now met.1 c.in-Some-best.other.now (subst (λ o. IsExtreme c.args.way c.args.col (filter p xs) (option_copied o)) c.in-Some-best.is h)
    (c.is_further.ensures.behind c.if-is_further.false))
