use Rattle.std.proofs.Common.{◌≡◌, ◌≤◌, ◌-◌, ◌+◌, ℕ, ◌∙◌, ap, arith, length}
use Rattle.table_blocks.specs.Tables.{rows_at}
use Rattle.table_blocks.proofs.Changing.{length-with_rows, rows_at-with_rows}
use Rattle.table_blocks.proofs.database.Database.delete.Goals as goal

pub rows-requires-2 : goal.rows-requires-2
rows-requires-2 c =
    let kept = length-with_rows c.args.self.now c.args.table c.remove.ensures.spared.0 in
    let same = ap length c.remove.ensures.spared.2 in
    omega (arith, kept, same, c.requires)

left : (c : goal.After-len) → c.len.result ≡ length c.remove.ensures.spared.0
left c = c.len.ensures ∙ ap length (c.rows-2.ensures.is ∙ ap (λ db. rows_at db c.args.table) c.remove.ensures.spared.2 ∙ rows_at-with_rows c.args.self.now c.args.table c.remove.ensures.spared.0 c.requires)

fewer : (now before kept stored : ℕ) → now ≡ kept → before ≡ stored → kept ≤ stored → (now ≤ before) × (before - now + kept ≡ stored)
fewer now before kept stored a b h = (omega (arith, a, b, h), omega (arith, a, b, h))

counts : (c : goal.After-len) → (c.len.result ≤ c.len-stored.result) × (c.len-stored.result - c.len.result + length c.remove.ensures.spared.0 ≡ length (rows_at c.args.self.now c.args.table))
counts c = fewer _ _ (length c.remove.ensures.spared.0) (length (rows_at c.args.self.now c.args.table)) (left c) (c.len-stored.ensures ∙ ap length c.rows.ensures.is) c.remove.ensures.spared.3

pub overflow_sub-result : goal.overflow_sub-result
overflow_sub-result c = (counts c).0

pub returns-clause-deleted : goal.returns-clause-deleted
returns-clause-deleted c = record { rows = c.remove.ensures.spared.0; spared = c.remove.ensures.spared.1; changed = c.remove.ensures.spared.2; count_is = (counts c).1 }
