use Rattle.std.proofs.Common.{◌≡◌, ◌∙◌, ap, arith, length, ◌+◌, ◌<◌, ◌≤◌, ℕ, List, take, subst}
use Rattle.cqa_model.specs.Database.{Table, IsDatabase, row_total}
use Rattle.table_blocks.specs.Tables.{rows_at}
use Rattle.table_blocks.proofs.Changing.{total_more, total_within}
use Rattle.table_blocks.proofs.database.Database.row_total.Goals as goal

-- the rows so far and those of the next table
next : (db : List Table) (i total more : ℕ) → i < length db → total ≡ row_total (take i db) → more ≡ length (rows_at db i) → total + more ≡ row_total (take (i + 1) db)
next db i total more h t m = let sum = total_more db i h in omega (arith, sum, t, m)

bounded : (db : List Table) (i total : ℕ) → IsDatabase db → total ≡ row_total (take i db) → total ≤ 1_000_000
bounded db i total d t = let within = total_within db i in let all = d.few_rows in omega (arith, within, all, t)

sum : (c : goal.After-len-total) → c.loop-table.total + c.len-total.result ≡ row_total (take (c.loop-table.table + 1) c.args.self.now)
sum c = next c.args.self.now c.loop-table.table c.loop-table.total c.len-total.result (subst (λ n. c.loop-table.table < n) c.count-table-end.ensures.count c.loop-table-test.true) c.loop-table.invariant (c.len-total.ensures ∙ ap length c.rows.ensures.is)

pub overflow_add-total : goal.overflow_add-total
overflow_add-total c = let few = bounded c.args.self.now (c.loop-table.table + 1) _ c.count-table-end.ensures.database (sum c) in omega (arith, few)

pub loop-table-preserved : goal.loop-table-preserved
loop-table-preserved c = sum c

pub overflow_cast-result : goal.overflow_cast-result
overflow_cast-result c = let few = bounded c.args.self.now c.loop-table.table c.loop-table.total c.count-table-end.ensures.database c.loop-table.invariant in omega (arith, few)
