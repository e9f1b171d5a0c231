use Rattle.std.proofs.Common.{◌∙◌, ◌++◌, ap, codes}
use Rattle.std.proofs.lemmas.List.{append_assoc}
use Rattle.std.proofs.lemmas.Result.{on_ok_weaker}
use Rattle.sql_text.specs.Texts.{listed_text, beside_text}
use Rattle.sql_text.proofs.shared.append_beside.Goals as goal

pub returns : goal.returns
unfolding beside_text
returns c =
    let text = listed_text c.args.names.now c.args.steps.now c.args.child.now.listed in
    on_ok_weaker c.append_listed.result (λ e. e ∙ ap (λ x. x ++ text) c.in_ok-append.ensures ∙ append_assoc c.args.out.now.items (codes " CROSS JOIN ") text) c.append_listed.ensures
