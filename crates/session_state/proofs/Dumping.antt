-- The script of the next table.
use Rattle.std.proofs.Common.{◌≡◌, ℕ, zero, suc, ◌<◌, ◌+◌, List, [], ◌∷◌, ◌++◌, ◌∙◌, length, take, slice_get, sym, ap, append_assoc, arith}
use Rattle.std.proofs.lemmas.List.{append-nil}
use Rattle.std.specs.Option.{IfSome}
use Rattle.cqa_value.specs.declared.value.Value.{Value}
use Rattle.cqa_model.specs.declared.schema.Schema.{Schema}
use Rattle.cqa_model.specs.Database.{Table}
use Rattle.table_blocks.specs.Tables.{rows_at}
use Rattle.csv_rows.specs.Dumps.{dump_text, dump_of_table}

one_more : (db : List Table) (at : ℕ) (schema : Schema) (rows : List (List Value)) → at < length db → IfSome (slice_get db at) (λ t. schema ≡ t.schema) → rows ≡ rows_at db at →
    dump_text (take (suc at) db) ≡ dump_text (take at db) ++ dump_of_table schema rows
one_more [] at schema rows l is same = absurd (omega (arith, l))
one_more (t ∷ db) zero schema rows l is same = append-nil (dump_of_table t.schema t.rows) ∙ ap (λ s. dump_of_table s t.rows) (sym is) ∙ ap (λ r. dump_of_table schema r) (sym same)
one_more (t ∷ db) (suc at) schema rows l is same =
    ap (λ l. dump_of_table t.schema t.rows ++ l) (one_more db at schema rows (omega (arith, l)) is same) ∙ sym (append_assoc (dump_of_table t.schema t.rows) (dump_text (take at db)) (dump_of_table schema rows))

-- what is written goes on by the next table
pub next_table : (db : List Table) (at : ℕ) (schema : Schema) (rows : List (List Value)) (now new : List ℕ) → at < length db → IfSome (slice_get db at) (λ t. schema ≡ t.schema) → rows ≡ rows_at db at →
    now ≡ dump_text (take at db) → new ≡ now ++ dump_of_table schema rows → new ≡ dump_text (take (at + 1) db)
next_table db at schema rows now new l is same before after =
    let count : suc at ≡ at + 1 = omega arith in
    after ∙ ap (λ l. l ++ dump_of_table schema rows) before ∙ sym (one_more db at schema rows l is same) ∙ ap (λ n. dump_text (take n db)) count
