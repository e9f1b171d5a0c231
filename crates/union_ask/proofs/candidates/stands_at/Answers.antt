use Rattle.std.proofs.Common.{◌∙◌, Contains, sym, subst}
use Rattle.cqa_value.specs.Values.{row_decides}
use Rattle.union_ask.proofs.candidates.stands_at.Goals as goal

pub returns-in-Some : goal.returns-in-Some
returns-in-Some c =
    let other = c.in-Some.other.now in
    let found = c.in-Some.ensures.lookup.3 in
    λ t. subst (Contains c.args.rows.now) ((row_decides other c.args.row.now).0 (sym c.eq.ensures ∙ t)) (c.args.at, found.0, sym (found.1 other))
