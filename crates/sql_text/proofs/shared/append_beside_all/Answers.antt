use Rattle.std.proofs.Common.{◌∙◌, ◌++◌, ap, codes}
use Rattle.std.proofs.lemmas.List.{append_assoc}
use Rattle.std.proofs.lemmas.Result.{on_ok_weaker}
use Rattle.sql_text.specs.Texts.{sources_text, sizes_text, besides_text, beside_all_text}
use Rattle.sql_text.proofs.Steps.{three}
use Rattle.sql_text.proofs.shared.append_beside_all.Goals as goal

pub returns : goal.returns
unfolding beside_all_text
returns c =
    let out = c.args.out.now.items in
    let group = c.args.group.now in
    let sources = sources_text c.args.names.now c.args.steps.now group.sources in
    let sizes = sizes_text c.args.names.now c.args.steps.now group in
    let besides = besides_text c.args.names.now c.args.steps.now group.children in
    on_ok_weaker c.append_besides.result
    (λ e. three (out ++ sources) (codes " CROSS JOIN ") sizes besides c.append.new.out.items c.append_sizes.new.out.items c.append_besides.new.out.items
    (c.in_ok-append.ensures ∙ ap (λ x. x ++ codes " CROSS JOIN ") (c.in_ok-append_sources.ensures ∙ ap (λ s. out ++ sources_text c.args.names.now c.args.steps.now s) c.as_slice.ensures))
    c.in_ok-append_sizes.ensures (e ∙ ap (λ s. c.append_sizes.new.out.items ++ besides_text c.args.names.now c.args.steps.now s) c.as_slice-2.ensures)
    ∙ append_assoc out sources (codes " CROSS JOIN " ++ (sizes ++ besides)))
    c.append_besides.ensures
