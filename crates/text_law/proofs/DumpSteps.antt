-- The statements of a dump, one by one.
use Rattle.std.proofs.Common.{◌≡◌, inl, inr, ◌+◌, ◌<◌, ◌≤◌, ℕ, false, IsTrue, List, [], ◌∷◌, ◌++◌, codes, Contains, Option, Some, None, Ok, length, refl, sym, ap, ◌∙◌, subst, arith}
use Rattle.std.proofs.lemmas.List.{length-map}
use Rattle.std.proofs.lemmas.List.Elements.{recursion_from_All, Contains-get_or}
use Rattle.std.specs.List.Sorted.{IsStrictlySortedBy}
use Rattle.std.specs.Option.{option_map_or}
use Rattle.std.proofs.lemmas.Option.{same_Some}
use Rattle.cqa_value.specs.declared.value.Value.{Value}
use Rattle.cqa_value.specs.Values.{kind_of}
use Rattle.cqa_value.specs.Valid.{IsValidValue, IsValidRow}
use Rattle.cqa_value.proofs.Words.{mem-cases, mem-nil}
use Rattle.refusals.specs.declared.refusal.Refusal.{Refusal}
use Rattle.refusals.specs.declared.refusal.Refusal.TheVariants.{UnknownTable}
use Rattle.cqa_model.specs.declared.schema.Schema.{Schema}
use Rattle.cqa_model.specs.Database.{Table, IsRowOf, AreConsistent, block_cmp, kinds_of, row_total}
use Rattle.schema_text.specs.Text.{schema_bytes}
use Rattle.cqa_model.specs.Valid.{HasNames}
use Rattle.script_lex.specs.Scripts.{Statement}
use Rattle.spj_syntax.specs.declared.tree.Statement.{Statement as Tree}
use Rattle.spj_syntax.specs.declared.tree.Statement.TheVariants as statements
use Rattle.table_blocks.specs.Tables.{table_named, kinds_at, rows_at}
use Rattle.table_changes.specs.Changes.{count_new, insert_fault, Inserts}
use Rattle.csv_rows.specs.Blocks.{HoldsRows}
use Rattle.csv_rows.specs.Texts.{rows_bytes}
use Rattle.csv_rows.proofs.Again.{rows_again}
use Rattle.csv_rows.proofs.OneWay.{in_one_way}
use Rattle.csv_rows.specs.Dumps.{create_words}
use Rattle.reply_text.specs.declared.reply.Reply.{Reply}
use Rattle.reply_text.specs.declared.reply.Reply.TheVariants.{Created, Copied, Inserted, Refused}
use Rattle.reply_text.specs.Texts.{is_refusal}
use Rattle.session_state.specs.State.{State}
use Rattle.spj_syntax.specs.Texts.{HasStatement}
use Rattle.session_state.specs.Replying.{on_table}
use Rattle.command_shell.specs.Machine.{fault_in, Executes, Step}
use Rattle.session_state.specs.Copy.{TellsCopied}
use Rattle.command_shell.proofs.Sayings.{does_as_said}
use Rattle.reading_law.proofs.WrittenStatements.{raw_of, key_named, columns_named, create_spelled}
use Rattle.reading_law.proofs.Grammar.{create_generated}
use Rattle.reading_law.proofs.Says.{has_statement}
use Rattle.reading_law.proofs.Resolved.{schema_is, schema_once, schema_fits}
use Rattle.text_law.proofs.DumpStatements.{copy_spelled, insert_spelled}
use Rattle.text_law.proofs.DumpGrammar.{copy_generated, insert_generated}
use Rattle.text_law.proofs.DumpTexts.{create_short, copy_short, insert_short, insert_bytes}
use Rattle.text_law.proofs.Rows.{part, Within, having, no_fault, put, put_once, kinds_last}

-- nothing but the tables is another
abbrev pub with_tables : State → List Table → State
with_tables s tables = record s { tables = tables }

-- From a state the machine may take a statement; and however it does, it refuses nothing and goes on to one state.
pub record Takes (old : State) (statement : Statement) (new : State) : Type 0 where
  pub may : (reply : Reply) × Step old statement.0 statement.1 reply new
  pub only : (reply : Reply) (other : State) → Step old statement.0 statement.1 reply other → (is_refusal reply ≡ false) × (other ≡ new)

none_some : (refusal : Refusal) (o : Option Refusal) → o ≡ None → o ≡ Some refusal → ⊥
none_some refusal o e h = cc (sym e ∙ h)

-- a statement of which no check fails
takes : (old new : State) (text : List ℕ) (block : Option (List ℕ)) (tree : Tree) → HasStatement text tree → fault_in old tree block ≡ None → (reply : Reply) → Executes old tree block reply new
    → ((reply : Reply) (other : State) → Executes old tree block reply other → (is_refusal reply ≡ false) × (other ≡ new)) → Takes old (text, block) new
takes old new text block tree says fits reply done once = record {
  may = (reply, record { said = Ok tree; says = says; does = inr (fits, done) });
  only = λ reply other step. elim (does_as_said old other text block reply step (Ok tree) says) [
    | inl r ↦ absurd (none_some r.refusal (fault_in old tree block) fits r.first)
    | inr d ↦ once reply other d.1
  ];
}

-- ---- create

pub create_takes : (s : State) (done : List Table) (schema : Schema) (h : HasNames schema) → table_named done schema.name ≡ None → length done < 64
    → Takes (with_tables s done) (create_words schema.strict ++ schema_bytes schema, None) (with_tables s (done ++ (record { schema = schema; rows = [] }) ∷ []))
create_takes s done schema h free room =
    let raw = raw_of schema h in
    let new = with_tables s (done ++ (record { schema = schema; rows = [] }) ∷ []) in
    takes (with_tables s done) new (create_words schema.strict ++ schema_bytes schema) None (statements.Create raw)
    (has_statement (create_words schema.strict ++ schema_bytes schema) (statements.Create raw) (create_spelled schema h) refl (create_generated raw (columns_named schema h) (key_named schema h)) (create_short schema h))
    (schema_fits done schema h free room)
    (Created schema.name) (record { schema = schema; resolved = schema_is schema h; tables = refl; others = refl; replies = refl })
    (λ reply other d. (ap is_refusal d.replies, d.others ∙ ap (with_tables s) (d.tables ∙ ap (λ z. done ++ (record { schema = z; rows = [] }) ∷ []) (schema_once schema d.schema h d.resolved))))

on_found : (db : List Table) (name : List ℕ) (at : ℕ) (check : ℕ → Option Refusal) → table_named db name ≡ Some at → check at ≡ None → on_table db name check ≡ None
on_found db name at check found none = ap (λ o. option_map_or check o (Some (UnknownTable name))) found ∙ none

-- ---- rows of a table behind others

module _ (s : State) (done : List Table) (schema : Schema) (h : HasNames schema) (rows : List (List Value)) (sorted : IsStrictlySortedBy (block_cmp schema.key) rows)
    (fit : (row : List Value) → Contains rows row → IsRowOf schema row) (strict : IsTrue schema.strict → AreConsistent schema.key rows) (few : row_total done + length rows ≤ 1_000_000)
    (valid : (row : List Value) → Contains rows row → IsValidRow row)
    (found : (table : Table) → table.schema.name ≡ schema.name → table_named (done ++ table ∷ []) schema.name ≡ Some (length done)) where
  -- the state once some rows are there
  abbrev pub with_part : List (List Value) → State
  with_part got = with_tables s (having done schema rows got)

  there : (got : List (List Value)) → table_named (having done schema rows got) schema.name ≡ Some (length done)
  there got = found (record { schema = schema; rows = part rows got }) refl

  wide : (row : List Value) → Contains rows row → length row ≡ length schema.columns
  wide row m = sym (length-map row kind_of) ∙ ap length (fit row m) ∙ length-map schema.columns (λ column. column.kind)

  pub insert_takes : (got : List (List Value)) (row : List Value) → Contains rows row → Takes (with_part got) (insert_bytes schema.name row, None) (with_part (got ++ row ∷ []))
  insert_takes got row m =
      let values = recursion_from_All IsValidValue row (valid row m) in
      let size = schema.kept.size in
      let inside : Within rows (row ∷ []) = λ x n. one x n in
      takes (with_part got) (with_part (got ++ row ∷ [])) (insert_bytes schema.name row) None (statements.Insert schema.name (row ∷ []))
      (has_statement (insert_bytes schema.name row) (statements.Insert schema.name (row ∷ [])) (insert_spelled schema.name row h.name (valid row m)) refl
      (insert_generated schema.name row h.name (omega (arith, wide row m, size.0))) (insert_short schema.name row h.name values (omega (arith, wide row m, size.1))))
      (on_found (having done schema rows got) schema.name (length done) (λ table. insert_fault (having done schema rows got) table (row ∷ [])) (there got) (no_fault done schema rows sorted fit strict few got (row ∷ []) inside))
      (Inserted (count_new (rows_at (having done schema rows got) (length done)) (row ∷ [])))
      (record { table = length done; found = there got; count = count_new (rows_at (having done schema rows got) (length done)) (row ∷ []); tables = put done schema rows sorted fit strict few got (row ∷ []) inside; others = refl; replies = refl })
      (λ reply other d. (
        ap is_refusal d.replies,
        d.others ∙ ap (with_tables s) (put_once done schema rows sorted fit strict few got (row ∷ []) other.tables d.count inside
            (subst (λ at. Inserts (having done schema rows got) at (row ∷ []) other.tables d.count) (same_Some d.table (length done) (sym d.found ∙ (there got))) d.tables)),
      ))
    where
      one : (x : List Value) → Contains (row ∷ []) x → Contains rows x
      one x n = elim (mem-cases x row [] n) [ inl e ↦ subst (Contains rows) e m | inr l ↦ absurd (mem-nil x l) ]

  module _ (plain : List (List Value)) (inside : Within rows plain) where
    holds : HoldsRows (kinds_at (having done schema rows []) (length done)) (rows_bytes plain) plain
    holds =
        let size = schema.kept.size in
        subst (λ ks. HoldsRows ks (rows_bytes plain) plain) (sym (kinds_last done (record { schema = schema; rows = part rows [] })))
        (rows_again (kinds_of schema) plain (omega (arith, length-map schema.columns (λ column. column.kind), size.0))
        (λ k d l. fit _ (inside _ (Contains-get_or plain k d l))) (λ k d l. valid _ (inside _ (Contains-get_or plain k d l))))

    told_once : (reply : Reply) (other : State) → TellsCopied (with_part []) (length done) (rows_bytes plain) reply other → (is_refusal reply ≡ false) × (other ≡ with_part plain)
    told_once (Copied count) other d =
        let same = in_one_way.rows (kinds_at (having done schema rows []) (length done)) (rows_bytes plain) d.rows plain d.held holds in (
          refl,
          d.others ∙ ap (with_tables s) (put_once done schema rows sorted fit strict few [] plain other.tables count inside
              (subst (λ given. Inserts (having done schema rows []) (length done) given other.tables count) same d.tables)),
        )
    told_once (Refused refusal) other d = absurd (elim d.0 [
      | inl bad ↦ in_one_way.apart (kinds_at (having done schema rows []) (length done)) (rows_bytes plain) plain bad.number holds bad.first
      | inr bad ↦ none_some refusal (insert_fault (having done schema rows []) (length done) bad.rows)
          (ap (insert_fault (having done schema rows []) (length done)) (in_one_way.rows (kinds_at (having done schema rows []) (length done)) (rows_bytes plain) bad.rows plain bad.held holds)
          ∙ no_fault done schema rows sorted fit strict few [] plain inside) bad.first
    ])
    told_once _ other d = absurd d

    pub copy_takes : Takes (with_part []) (codes "copy " ++ schema.name, Some (rows_bytes plain)) (with_part plain)
    copy_takes =
        let count = count_new (rows_at (having done schema rows []) (length done)) plain in
        takes (with_part []) (with_part plain) (codes "copy " ++ schema.name) (Some (rows_bytes plain)) (statements.Copy schema.name)
        (has_statement (codes "copy " ++ schema.name) (statements.Copy schema.name) (copy_spelled schema.name h.name) refl (copy_generated schema.name h.name) (copy_short schema.name h.name))
        (on_found (having done schema rows []) schema.name (length done) (λ table. None) (there []) refl)
        (Copied count)
        (record { table = length done; found = there []; told = record { rows = plain; held = holds; valid = no_fault done schema rows sorted fit strict few [] plain inside; tables = put done schema rows sorted fit strict few [] plain inside; others = refl } })
        (λ reply other d. told_once reply other (subst (λ at. TellsCopied (with_part []) at (rows_bytes plain) reply other) (same_Some d.table (length done) (sym d.found ∙ (there []))) d.told))
