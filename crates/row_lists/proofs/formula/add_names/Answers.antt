use Rattle.std.proofs.Common.{◌+◌, ◌++◌, ◌∷◌, ◌∙◌, [], refl, map, ap, sym, append_assoc}
use Rattle.std.specs.List.{range_with_len}
use Rattle.std.proofs.lemmas.List.FromFn.{map-range_with_len_more}
use Rattle.row_lists.specs.Lists.{name}
use Rattle.row_lists.proofs.formula.add_names.Goals as goal

pub loop-at-preserved : goal.loop-at-preserved
loop-at-preserved c =
    let table = c.args.table in
    let old = c.args.rows.now.items in
    let start = c.args.span.now.start in
    let n = c.loop-at.at in
    let front = map (name table) (range_with_len start n) in
    let new = name table (start + n) in
    c.in_ok-push.ensures.items
    ∙ (ap (λ rows. rows ++ new ∷ []) c.loop-at.invariant
    ∙ (append_assoc old front (new ∷ [])
    ∙ ap (λ rows. old ++ rows) (sym (map-range_with_len_more (name table) start n (start + n) refl))))
