use Rattle.std.proofs.Common.{◌≡◌, ◌∙◌, Some, None, slice_get, length, refl, sym, ap, rules}
use Rattle.std.proofs.lemmas.Option.{same_Some, none-some, slice_get_read, slice_get_past}
use Rattle.cqa_value.specs.Values.{row_eq, row_decides}
use Rattle.row_answers.proofs.difference.is_at.Goals as goal

pub returns-in-Some-clause-is : goal.returns-in-Some-clause-is
returns-in-Some-clause-is c =
    let others = c.args.others.now in
    let other = c.in-Some.other.now in
    let found = c.in-Some.ensures.lookup in
    let here : slice_get others c.args.at ≡ Some other = slice_get_read others (length others) c.args.at other refl found.3.0 found.1 in
    let is : c.eq.result ≡ row_eq other c.args.row.now = search rules in
    let same = row_decides other c.args.row.now in
    (λ t. here ∙ ap Some (same.0 (sym is ∙ t)), λ e. is ∙ same.1 (same_Some _ _ (sym here ∙ e)))

pub returns-in-None-clause-is : goal.returns-in-None-clause-is
returns-in-None-clause-is c =
    let none : slice_get c.args.others.now c.args.at ≡ None = slice_get_past c.args.others.now c.args.at c.in-None.ensures.lookup.3 in
    (λ t. absurd (cc t), λ e. absurd (none-some _ (sym none ∙ e)))
