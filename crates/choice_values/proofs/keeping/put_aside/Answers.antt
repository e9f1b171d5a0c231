use Rattle.std.proofs.Common.{rules, ◌≡◌, ◌+◌, ◌<◌, ◌++◌, List, length, take, ap, sym, ◌∙◌, subst}
use Rattle.std.proofs.lemmas.List.{take_more}
use Rattle.block_choices.specs.declared.row.BlockRow.{BlockRow}
use Rattle.choice_values.specs.Values.{Weighted}
use Rattle.choice_values.specs.Pairs.{list_at, nothing}
use Rattle.choice_values.specs.Keeping.{AreAside, rows_at}
use Rattle.choice_values.proofs.Aside.{aside-more}
use Rattle.choice_values.proofs.keeping.put_aside.Goals as goal

pub loop-at-preserved : goal.loop-at-preserved
loop-at-preserved c =
    let lists = c.args.lists.now in
    let rows = c.args.rows.now in
    let at = c.loop-at.at in
    let old = c.loop-at.aside.items in
    let new = c.put_names_aside.new.aside.items in
    let l : at < length lists = search rules in
    subst (λ (ls : List Weighted). AreAside ls rows new) (sym (take_more lists at nothing l))
    (aside-more (take at lists) (list_at lists at) rows old new c.loop-at.invariant
    (c.in_ok-put_names_aside.ensures ∙ ap (λ (ns : List BlockRow). old ++ rows_at rows ns) c.names.ensures))
