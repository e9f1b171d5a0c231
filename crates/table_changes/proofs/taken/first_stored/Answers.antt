use Rattle.std.proofs.Common.{◌∙◌, sym, ap, arith, rules, true≢false}
use Rattle.std.proofs.lemmas.Fn.{always_returns_same}
use Rattle.std.proofs.lemmas.Option.{same_Some, slice_get_within}
use Rattle.table_blocks.specs.Keys.{same_key}
use Rattle.table_changes.proofs.ByKey.{below, ascend, rows_parted, stored_found, stored_none}
use Rattle.table_changes.proofs.Following.{followed_key}
use Rattle.table_changes.proofs.taken.first_stored.Goals as goal
use Rattle.table_changes.proofs.taken.first_stored.Goals.{then-at-len+else-shares_key, else-at-len}

pub returns-then-shares_key : goal.returns-then-shares_key
returns-then-shares_key c =
    let key = c.args.key.now in
    let row = c.args.row.now in
    let rows = c.args.stored.now in
    sym (stored_found key rows row c.parted-at.result c.requires c.parted-at.ensures.within
    (c.parted-at.ensures.partitioned (λ x. below key x row) (always_returns_same _ _ _ (λ a r f k. search rules)) (followed_key c.first_keyed.result c.second_keyed.result key row c.first_keyed.ensures c.second_keyed.ensures) (rows_parted key rows row (ascend key rows c.requires)))
    c.get-other.result.now c.get-other.ensures (sym c.shares_key.ensures ∙ c.if-shares_key.true))

pub returns : goal.returns
returns c =
    let key = c.args.key.now in
    let row = c.args.row.now in
    let rows = c.args.stored.now in
    let at = c.parted-at.result in
    sym (stored_none key rows row at c.requires c.parted-at.ensures.within
    (c.parted-at.ensures.partitioned (λ x. below key x row) (always_returns_same _ _ _ (λ a r f k. search rules)) (followed_key c.first_keyed.result c.second_keyed.result key row c.first_keyed.ensures c.second_keyed.ensures) (rows_parted key rows row (ascend key rows c.requires)))
    (λ f got same. elim c.if-at-len.branch [
      | then-at-len+else-shares_key w ↦ true≢false (sym same ∙ ap (same_key key row) (same_Some f w.get-other.result.now (sym got ∙ w.get-other.ensures)) ∙ sym w.shares_key.ensures ∙ w.if-shares_key.false)
      | else-at-len w ↦ (let there = slice_get_within rows at f got in let past = w.if-at-len.false in let all = c.len.ensures in omega (arith, there, past, all))
    ]))
