use Rattle.std.proofs.Common.{◌≡◌, ◌+◌, ◌++◌, ◌∷◌, [], ℕ, List, take, get_or, ap, sym, ◌∙◌, subst}
use Rattle.std.proofs.lemmas.List.{take_more, append_assoc}
use Rattle.block_choices.specs.declared.row.BlockRow.{BlockRow}
use Rattle.choice_values.specs.Choosing.{picked}
use Rattle.choice_values.specs.Keeping.{rows_at}
use Rattle.choice_values.proofs.Aside.{rows_at-push}
use Rattle.choice_values.proofs.keeping.put_names_aside.Goals as goal

pub loop-name-preserved : goal.loop-name-preserved
loop-name-preserved c =
    let names = c.args.names.now in
    let rows = c.args.rows.now in
    let i = c.loop-name.name-index in
    let d : BlockRow = record { block = 0; row = 0 } in
    let x : BlockRow = get_or names i d in
    let one : BlockRow = record { block = x.block; row = picked rows x.block } in
    let old = c.args.aside.now.items in
    c.in_ok-push.ensures.items
    ∙ (ap (λ (r : ℕ). c.loop-name.aside.items ++ record { block = x.block; row = r } ∷ []) c.row_of.ensures
    ∙ (ap (λ (a : List BlockRow). a ++ one ∷ []) c.loop-name.invariant
    ∙ (append_assoc old (rows_at rows (take i names)) (one ∷ [])
    ∙ ap (λ (a : List BlockRow). old ++ a) (sym (rows_at-push rows (take i names) x) ∙ ap (rows_at rows) (sym (take_more names i d c.loop-name-test.true))))))
