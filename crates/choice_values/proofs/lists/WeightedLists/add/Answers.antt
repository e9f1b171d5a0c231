use Rattle.std.proofs.Common.{rules, ◌≡◌, ◌++◌, ◌∷◌, [], List, length, ap, sym, ◌∙◌}
use Rattle.std.specs.Prelude.{ℤ}
use Rattle.std.proofs.lemmas.Result.{on_ok_weaker}
use Rattle.block_choices.specs.declared.row.BlockRow.{BlockRow}
use Rattle.choice_values.specs.Values.{Weighted}
use Rattle.choice_values.specs.Pairs.{weighted}
use Rattle.choice_values.proofs.Pairs.{weighted-push}
use Rattle.choice_values.proofs.lists.WeightedLists.add.Goals as goal

pub returns-else-is_err-clause-ok : goal.returns-else-is_err-clause-ok
returns-else-is_err-clause-ok c =
    let ws = c.self.inside.weights.items in
    let ls = c.self.inside.lists in
    let names = c.args.names.now in
    let pushed : c.push.new.self.items ≡ ws ++ c.args.weight ∷ [] = search rules in
    on_ok_weaker c.add-added.result
    (λ e. ap (λ (vs : List ℤ). weighted vs c.add-added.new.self) pushed
    ∙ (ap (λ (ks : List (List BlockRow)). weighted (ws ++ c.args.weight ∷ []) ks) e
    ∙ (weighted-push ws ls c.args.weight names c.self.invariant ∙ ap (λ (q : List Weighted). q ++ record { weight = c.args.weight; names = names } ∷ []) c.self.view_is)))
    c.add-added.ensures.ok
