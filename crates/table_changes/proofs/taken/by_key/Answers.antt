use Rattle.std.proofs.Common.{◌∙◌, Bor, List, ap, arith, rules}
use Rattle.std.specs.List.{filter}
use Rattle.std.specs.Ordering.{is_lt}
use Rattle.std.proofs.lemmas.Fn.{always_returns_same}
use Rattle.std.proofs.lemmas.List.{take_all}
use Rattle.std.proofs.lemmas.List.Sorted.{ranks_by}
use Rattle.cqa_value.specs.declared.value.Value.{Value}
use Rattle.cqa_value.specs.Values.{row_cmp_total}
use Rattle.cqa_model.specs.Database.{key_of}
use Rattle.table_blocks.specs.Keys.{same_key}
use Rattle.table_changes.proofs.ByKey.{shown_ascend, shown_stable}
use Rattle.table_changes.proofs.taken.by_key.Goals as goal

pub returns-clause-ascending : goal.returns-clause-ascending
returns-clause-ascending c =
    let key = c.args.key.now in
    shown_ascend key _ (c.in_ok-sort_by.ensures.sorted _ (ranks_by row_cmp_total (λ (r : Bor (List Value)). key_of key r.now)) (always_returns_same _ _ _ (λ a r f k. (ap is_lt (search rules), search rules))))

pub returns-clause-stable : goal.returns-clause-stable
returns-clause-stable c row =
    let key = c.args.key.now in
    let all = take_all c.loop-row.row-index c.args.rows.now (let b = c.loop-row-test.false in omega (arith, b)) in
    shown_stable key _ _ (c.in_ok-sort_by.ensures.stable _ (ranks_by row_cmp_total (λ (r : Bor (List Value)). key_of key r.now)) (always_returns_same _ _ _ (λ a r f k. (ap is_lt (search rules), search rules)))) row
    ∙ ap (filter (same_key key row)) (c.loop-row.invariant ∙ all)
