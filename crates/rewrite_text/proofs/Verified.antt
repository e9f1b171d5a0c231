-- A printed certificate is verified.
use Rattle.std.specs.Prelude.{IfOk, Result, Ok, Err}
use Rattle.cqa_model.specs.Plan.{IsPlanOf}
use Rattle.std.proofs.Common.{◌≡◌, ◌<◌, ◌≤◌, ℕ, suc, List, [], ◌∷◌, ◌++◌, Contains, Some, None, length, map, get_or, slice_get, unwrap_or, refl, sym, ap, ◌∙◌, subst, arith, append_assoc}
use Rattle.std.proofs.lemmas.List.{length-map, append-nil}
use Rattle.std.proofs.lemmas.List.Elements.{recursion_from_All, Contains-append_left, Contains-append_right}
use Rattle.std.specs.List.{AllByRecursion}
use Rattle.cqa_value.specs.declared.value.Value.{Value}
use Rattle.cqa_value.specs.Valid.{IsValidValue, IsValidRow}
use Rattle.cqa_value.specs.Values.{kind_of}
use Rattle.cqa_value.proofs.Words.{mem-head, mem-tail, Contains-map, Contains-slice_get, recursion_from_members, all_zip_right}
use Rattle.cqa_model.specs.declared.query.Atom.{Atom}
use Rattle.cqa_model.specs.declared.query.ColRef.{ColRef}
use Rattle.cqa_model.specs.declared.query.Cond.{Cond}
use Rattle.cqa_model.specs.declared.query.Cond.TheVariants.{Join, Test}
use Rattle.cqa_model.specs.declared.query.Query.{Query}
use Rattle.cqa_model.specs.Database.{Table, IsDatabase, stored}
use Rattle.cqa_model.specs.Query.{FitsDatabase, atom_at, kind_at, rows_of}
use Rattle.cqa_model.specs.Shape.{IsInRange}
use Rattle.cqa_model.specs.Valid.{AreValid, HasNames, IsName}
use Rattle.cqa_model.proofs.Places.{rows-at, kinds-at}
use Rattle.refusals.proofs.Faults.{rows_fit as kinds_agree}
use Rattle.spj_syntax.specs.declared.tree.Statement.TheVariants as statements
use Rattle.spj_syntax.specs.declared.tree.Verb.TheVariants as verbs
use Rattle.spj_syntax.specs.Grammar.{order, block}
use Rattle.spj_syntax.specs.Written.{order_tokens, block_tokens}
use Rattle.table_blocks.specs.Tables.{kinds_at}
use Rattle.query_resolve.specs.Checks.{answer_fault, answer_kinds}
use Rattle.query_resolve.specs.Names.{name_place}
use Rattle.query_resolve.proofs.Members.{neither}
use Rattle.block_tree.specs.declared.cause.RewriteCheck.TheVariants.{Verified}
use Rattle.block_tree.specs.declared.node.Node.{Node}
use Rattle.block_tree.specs.Trees.{IsOrderOf}
use Rattle.block_tree.proofs.Elsewhere.{passing_elsewhere}
use Rattle.rewrite_check.specs.declared.certificate.Certificate.{Certificate}
use Rattle.rewrite_check.specs.Spelling.{Stage, Created, Asked, Ordered, LeadsOn, ChecksRewriting}
use Rattle.rewrite_check.proofs.Unique.{checks_once}
use Rattle.rewrite_text.specs.Texts.{atom_name, certificate_creates, certificate_prove, certificate_order, certificate_block, certificate_head, certificate_statements, statements_bytes}
use Rattle.rewrite_text.specs.Certificates.{IsCertificate, IsTooLong}
use Rattle.rewrite_text.proofs.Made.{made_passes}
use Rattle.csv_rows.proofs.Fitting.{rows_fit}
use Rattle.reading_law.proofs.Resolved.{Differ}
use Rattle.reading_law.proofs.Says.{has_statement, has_form}
use Rattle.rewrite_text.specs.Printed.{HasValidLiterals, IsVerified, PrintedIsVerified}
use Rattle.reading_law.proofs.Allowed.{IsQualified, IsWritable, prove_generated, order_generated, block_generated}
use Rattle.rewrite_text.proofs.CertificateBlocks.{written_block, order_spelled, block_spelled}
use Rattle.rewrite_text.proofs.Lengths.{each_short, few_written}
use Rattle.rewrite_text.proofs.Nodes.{IsNodeOf, in_tree}
use Rattle.rewrite_text.proofs.Quiet.{prove_sound, order_sound, block_sound}
use Rattle.rewrite_text.proofs.Reading.{AreRead, read_both, spells, create_of, creates_are, creates_read}
use Rattle.rewrite_text.proofs.Resolving.{zip_map, select, own_query, some_name, query_passes, query_is, same_query, row_passes}
use Rattle.rewrite_text.proofs.Tables.{AreTablesOf, tables_of, as_many_tables, own, own_names, many_names, nth_name, names_differ, name_found, table_found, table_of, own_kinds, table_has_name, column_has_name}
use Rattle.rewrite_text.proofs.Written.{IsNamed, IsSayable, written_column, written_condition, written_tables, prove_spelled}

-- what holds of each member holds of what is made of it
all_mapped : {A B : Type 0} (P : B → Type 0) (f : A → B) (xs : List A) → ((x : A) → Contains xs x → P (f x)) → AllByRecursion P (map f xs)
all_mapped P f [] each = tt
all_mapped P f (x ∷ xs) each = (each x (mem-head x xs), all_mapped P f xs (λ y m. each y (mem-tail y x xs m)))

each_at : (P : List ℕ → Type 0) (xs : List (List ℕ)) → ((i : ℕ) → i < length xs → P (get_or xs i [])) → AllByRecursion P xs
each_at P [] each = tt
each_at P (x ∷ xs) each = (each 0 (omega arith), each_at P xs (λ i l. each (suc i) (omega (arith, l))))

-- a query that fits a valid database, and whose literals are valid
module _ (db : List Table) (q : Query) (valid : IsDatabase db) (fits : FitsDatabase q db) (tables : List Table) (are : AreTablesOf db q.atoms tables) (named : AreValid db) (literals : HasValidLiterals q) where
  has_name : (F : ℕ) → F < length q.atoms → IsName (atom_name db q F)
  has_name F l = table_has_name db q valid fits tables are named F l

  column_named : (c : ColRef) → IsInRange q.atoms c → IsNamed db q c
  column_named c h = column_has_name db q valid fits tables are named c h

  sayable : (k : Cond) → Contains q.conds k → IsSayable db q k
  sayable (Join left right) m =
      (column_named left (q.kept.conds_in_range (Join left right) m left (mem-head left (right ∷ []))), column_named right (q.kept.conds_in_range (Join left right) m right (mem-tail right left (right ∷ []) (mem-head right []))))
  sayable (Test col op value) m = (column_named col (q.kept.conds_in_range (Test col op value) m col (mem-head col [])), literals col op value m)

  columns_named : AllByRecursion (IsNamed db q) q.answer
  columns_named = recursion_from_members (IsNamed db q) q.answer (λ c m. column_named c (q.kept.answer_in_range c m))

  all_sayable : AllByRecursion (IsSayable db q) q.conds
  all_sayable = recursion_from_members (IsSayable db q) q.conds sayable

  tables_named : AllByRecursion IsName (written_tables db q)
  tables_named = each_at IsName (written_tables db q) (λ F l.
      let inside : F < length q.atoms = omega (arith, l, many_names db q valid fits tables are) in
      subst IsName (sym (nth_name db q valid fits tables are F inside)) (has_name F inside))

  qualified : (c : ColRef) → IsNamed db q c → IsQualified (written_column db q c)
  qualified c h = (atom_name db q c.atom, refl, h.0, h.1)

  writable : (k : Cond) → IsSayable db q k → IsWritable (written_condition db q k)
  writable (Join left right) h = (qualified left h.0, qualified right h.1)
  writable (Test col op value) h = qualified col h.0

  -- a row, an order and a tree that pass for it
  module _ (row : List Value) (plan : List ℕ) (row_valid : IsValidRow row) (row_fits : answer_fault db q row ≡ None) (few : length (map (written_condition db q) q.conds) ≤ 1_048_576) where
    abbrev made : List Table
    made = own db q valid fits tables are

    -- the certificate with these nodes
    abbrev certificate : List Node → Certificate
    certificate nodes = record {
      tables = made;
      select = select db q valid fits tables are few;
      query = own_query db q valid fits tables are few;
      row = row;
      order = plan;
      nodes = nodes;
    }

    abbrev asked : Stage
    asked = Asked made (select db q valid fits tables are few) (own_query db q valid fits tables are few) row

    prove_leads : length (certificate_prove db q row) ≤ 1_048_576 → LeadsOn (Created made) (certificate_prove db q row) asked
    prove_leads short = (
      refl,
      has_statement (certificate_prove db q row) (statements.Asking (verbs.Prove row) (select db q valid fits tables are few))
          (prove_spelled db q (some_name db q valid fits tables are) few row row_valid tables_named columns_named all_sayable) refl
          (prove_generated row (select db q valid fits tables are few) (all_mapped IsQualified (written_column db q) q.answer (λ c m. qualified c (column_named c (q.kept.answer_in_range c m)))) tables_named
          (all_mapped IsWritable (written_condition db q) q.conds (λ k m. writable k (sayable k m)))) short,
      (query_passes db q valid fits tables are few, query_is db q valid fits tables are few, row_passes db q valid fits tables are few row row_fits),
    )

    module _ (once : IsOrderOf q plan) where
      order_named : AllByRecursion IsName (map (atom_name db q) plan)
      order_named = all_mapped IsName (atom_name db q) plan (λ F m. has_name F (once.inside F m))

      some_atom : 0 < length (map (atom_name db q) plan)
      some_atom = let m = once.all 0 (omega (arith, q.kept.size.0)) in omega (arith, m.1, length-map plan (atom_name db q))

      order_leads : length (certificate_order db q plan) ≤ 1_048_576 → LeadsOn asked (certificate_order db q plan) (Ordered (certificate []))
      order_leads short = (
        map (atom_name db q) plan,
        has_form order (certificate_order db q plan) (order_tokens (map (atom_name db q) plan)) (order_spelled db q plan order_named) (order_generated (map (atom_name db q) plan) some_atom order_named) short,
        (zip_map (λ n F. name_place (written_tables db q) n ≡ Some F) (atom_name db q) plan (λ F m. name_found db q valid fits tables are F (once.inside F m)), own_once),
        refl,
      )
        where
          own_once : IsOrderOf (own_query db q valid fits tables are few) plan
          own_once =
              let size = (same_query db q valid fits tables are few).size in
              record { inside = λ F m. omega (arith, once.inside F m, size); all = λ F l. once.all F (omega (arith, l, size)); apart = once.apart }

      -- the rows of a node are rows of its table
      module _ (n : Node) (is : IsNodeOf q plan n) (here : (x : List Value) → Contains n.rows x → Contains (rows_of q (stored db) n.atom) x) where
        inside : n.atom < length q.atoms
        inside = once.inside n.atom is.0

        row_there : (table : Table) → slice_get db (atom_at q n.atom).table ≡ Some table → (x : List Value) → Contains n.rows x → Contains table.rows x
        row_there table found x m = subst (λ rows. Contains rows x) (rows-at db (atom_at q n.atom).table table found) (here x m)

        node_valid : (x : List Value) → Contains n.rows x → IsValidRow x
        node_valid x m =
            let t = table_of db q valid fits tables are n.atom inside in
            (named t.0 (Contains-slice_get db (atom_at q n.atom).table t.0 t.1.stored)).values x (row_there t.0 t.1.stored x m)

        node_kinds : (x : List Value) → Contains n.rows x → map kind_of x ≡ kinds_at made n.atom
        node_kinds x m =
            let t = table_of db q valid fits tables are n.atom inside in
            (valid.each t.0 (Contains-slice_get db (atom_at q n.atom).table t.0 t.1.stored)).of_schema x (row_there t.0 t.1.stored x m)
            ∙ sym (kinds-at db (atom_at q n.atom).table t.0 t.1.stored) ∙ sym (own_kinds db q valid fits tables are n.atom inside)

        node_wide : (x : List Value) → Contains n.rows x → 0 < length x
        node_wide x m =
            let t = table_of db q valid fits tables are n.atom inside in
            let e = (valid.each t.0 (Contains-slice_get db (atom_at q n.atom).table t.0 t.1.stored)).of_schema x (row_there t.0 t.1.stored x m) in
            omega (arith, length-map x kind_of, ap length e, length-map t.0.schema.columns (λ column. column.kind), t.0.schema.kept.size.0)

        block_leads : (before : List Node) → length (certificate_block db q n) ≤ 1_048_576 → LeadsOn (Ordered (certificate before)) (certificate_block db q n) (Ordered (certificate (before ++ n ∷ [])))
        block_leads before short = (
          written_block db q n,
          has_form block (certificate_block db q n) (block_tokens (written_block db q n)) (block_spelled db q n (has_name n.atom inside) (recursion_from_members IsValidRow n.rows node_valid))
              (block_generated (written_block db q n) (has_name n.atom inside) is.1.some (recursion_from_members (λ (x : List Value). 0 < length x) n.rows node_wide)) short,
          (n.atom, table_found db q valid fits tables are n.atom inside, rows_fit (kinds_at made n.atom) 1 n.rows node_kinds),
          ap (λ o. certificate (before ++ (record { atom = unwrap_or o (length (written_tables db q)); rows = n.rows }) ∷ [])) (sym (name_found db q valid fits tables are n.atom inside)),
        )

      -- the blocks, behind those before them
      blocks_read : (before nodes : List Node) → ((n : Node) → Contains nodes n → IsNodeOf q plan n × ((x : List Value) → Contains n.rows x → Contains (rows_of q (stored db) n.atom) x))
          → ((n : Node) → Contains nodes n → length (certificate_block db q n) ≤ 1_048_576) → AreRead (Ordered (certificate before)) (map (certificate_block db q) nodes) (Ordered (certificate (before ++ nodes)))
      blocks_read before [] each short = ap (λ l. Ordered (certificate l)) (sym (append-nil before))
      blocks_read before (n ∷ nodes) each short =
          let h = each n (mem-head n nodes) in (
            Ordered (certificate (before ++ n ∷ [])),
            block_sound db q n (has_name n.atom (once.inside n.atom h.0.0)) (recursion_from_members (AllByRecursion IsValidValue) n.rows (λ x m. recursion_from_All IsValidValue x (node_valid n h.0 h.1 x m))),
            block_leads n h.0 h.1 before (short n (mem-head n nodes)),
            subst (λ l. AreRead (Ordered (certificate (before ++ n ∷ []))) (map (certificate_block db q) nodes) (Ordered (certificate l))) (append_assoc before (n ∷ []) nodes)
                (blocks_read (before ++ n ∷ []) nodes (λ m k. each m (mem-tail m n nodes k)) (λ m k. short m (mem-tail m n nodes k))),
          )

      -- all statements
      module _ (nodes : List Node) (each : (n : Node) → Contains nodes n → IsNodeOf q plan n × ((x : List Value) → Contains n.rows x → Contains (rows_of q (stored db) n.atom) x)) (short : IsTooLong (certificate_statements db q row plan nodes) → ⊥) where
        in_head : (text : List ℕ) → Contains (certificate_head db q row plan) text → length text ≤ 1_048_576
        in_head text m = each_short (certificate_statements db q row plan nodes) short text (Contains-append_left (certificate_head db q row plan) (map (certificate_block db q) nodes) text m)

        behind_creates : (text : List ℕ) → Contains (certificate_prove db q row ∷ certificate_order db q plan ∷ []) text → length text ≤ 1_048_576
        behind_creates text m = in_head text (Contains-append_right (certificate_creates db q.atoms) (certificate_prove db q row ∷ certificate_order db q plan ∷ []) text m)

        creates_done : AreRead (Created []) (certificate_creates db q.atoms) (Created made)
        creates_done =
            let same = creates_are db q.atoms tables are in
            let long = as_many_tables db q.atoms tables are in
            subst (λ texts. AreRead (Created []) texts (Created made)) (sym same)
            (creates_read [] tables (λ t m. table_names t m)
            (λ t m. in_head (create_of t) (Contains-append_left (certificate_creates db q.atoms) (certificate_prove db q row ∷ certificate_order db q plan ∷ []) (create_of t) (subst (λ l. Contains l (create_of t)) (sym same) (Contains-map create_of tables t m))))
            (subst Differ (sym (own_names db q valid fits tables are)) (names_differ db q valid fits tables are)) (omega (arith, long, q.kept.size.1)))
          where
            table_names : (t : Table) → Contains tables t → HasNames t.schema
            table_names t m =
                let a = all_zip_right (λ (atom : Atom) (table : Table). slice_get db atom.table ≡ Some table) q.atoms tables t are m in
                (named t (Contains-slice_get db a.0.table t a.2)).names

        pub all_read : AreRead (Created []) (certificate_statements db q row plan nodes) (Ordered (certificate nodes))
        all_read =
            let prove = certificate_prove db q row in
            let order = certificate_order db q plan in
            read_both (Created []) (Ordered (certificate [])) (Ordered (certificate nodes)) (certificate_head db q row plan) (map (certificate_block db q) nodes)
            (read_both (Created []) (Created made) (Ordered (certificate [])) (certificate_creates db q.atoms) (prove ∷ order ∷ []) creates_done (
              asked,
              prove_sound db q row (recursion_from_All IsValidValue row row_valid) tables_named columns_named all_sayable,
              prove_leads (behind_creates prove (mem-head prove (order ∷ []))),
              (
                Ordered (certificate []),
                order_sound db q plan order_named,
                order_leads (behind_creates order (mem-tail order prove (order ∷ []) (mem-head order []))),
                refl,
              ),
            ))
            (blocks_read [] nodes each (λ n m. each_short (certificate_statements db q row plan nodes) short (certificate_block db q n)
            (Contains-append_right (certificate_head db q row plan) (map (certificate_block db q) nodes) (certificate_block db q n) (Contains-map (certificate_block db q) nodes n m))))

pub printed_is_verified : PrintedIsVerified
printed_is_verified db q row plan text valid named fits literals row_valid row_fits planned is =
    let t = tables_of db q.atoms fits.there in
    let long : length row ≡ length q.answer =
    sym (length-map row kind_of) ∙ ap length (kinds_agree (answer_kinds db q) 1 (row ∷ []) (neither (answer_fault db q row) None row_fits refl) row (mem-head row [])) ∙ length-map q.answer (kind_at q db) in
    let passes = made_passes db q row plan is.nodes valid fits long planned is.made in
    let statements = certificate_statements db q row plan is.nodes in
    let prove = certificate_prove db q row in
    let order = certificate_order db q plan in
    let proved : length prove ≤ 1_048_576 =
    each_short statements is.short prove (Contains-append_left (certificate_head db q row plan) (map (certificate_block db q) is.nodes) prove
    (Contains-append_right (certificate_creates db q.atoms) (prove ∷ order ∷ []) prove (mem-head prove (order ∷ [])))) in
    let few : length (map (written_condition db q) q.conds) ≤ 1_048_576 = omega (arith, length-map q.conds (written_condition db q), few_written db q row proved) in
    let read = all_read db q valid fits t.0 t.1 named literals row plan row_valid row_fits few passes.0.once is.nodes
    (λ n m. (in_tree q row plan [] is.nodes passes.0.tree n m, λ x k. ((passes.1 n m x x k).0 k).0)) is.short in
    let query = own_query db q valid fits t.0 t.1 few in
    let checks : ChecksRewriting (statements_bytes statements) Verified = (
      record { tables = own db q valid fits t.0 t.1; select = select db q valid fits t.0 t.1 few; query = query; row = row; order = plan; nodes = is.nodes },
      spells statements _ read,
      passing_elsewhere q query row plan is.nodes (same_query db q valid fits t.0 t.1 few) passes.0,
    ) in
    record { statements = statements_bytes statements; whole = is.is; checks = checks; only = λ reply h. checks_once (statements_bytes statements) reply Verified h checks }

-- so is that of a call, if it gives one
pub certificate_is_verified : {E : Type 0} (db : List Table) (q : Query) (row : List Value) (plan : List ℕ) (r : Result (List ℕ) E) → IsDatabase db → AreValid db → FitsDatabase q db → HasValidLiterals q → IsValidRow row
    → answer_fault db q row ≡ None → IsPlanOf q plan → IfOk r (IsCertificate db q row plan) → IfOk r IsVerified
certificate_is_verified db q row plan (Ok text) database valid fits literals row_valid row_fits planned is = printed_is_verified db q row plan text database valid fits literals row_valid row_fits planned is
certificate_is_verified db q row plan (Err fault) database valid fits literals row_valid row_fits planned is = tt
