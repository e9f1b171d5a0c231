-- The statements of a certificate have no `;` outside their quotes.
use Rattle.std.proofs.Common.{ℕ, List, [], ◌∷◌, ◌++◌, codes, get_or, map, refl, sym, ap, ◌∙◌, subst, arith}
use Rattle.std.specs.List.{AllByRecursion, join_by}
use Rattle.cqa_value.specs.declared.value.Value.{Value}
use Rattle.cqa_value.specs.Literals.{literal_bytes, row_bytes}
use Rattle.cqa_value.specs.Valid.{IsValidValue}
use Rattle.cqa_model.specs.declared.query.Op.{Op}
use Rattle.cqa_model.specs.declared.query.Op.TheVariants as ops
use Rattle.cqa_model.specs.declared.query.Cond.{Cond}
use Rattle.cqa_model.specs.declared.query.Cond.TheVariants.{Join, Test}
use Rattle.cqa_model.specs.declared.query.ColRef.{ColRef}
use Rattle.cqa_model.specs.declared.query.Atom.{Atom}
use Rattle.cqa_model.specs.declared.query.Query.{Query}
use Rattle.cqa_model.specs.Database.{Table}
use Rattle.cqa_model.specs.Query.{atom_at}
use Rattle.cqa_model.specs.Valid.{IsName}
use Rattle.script_lex.specs.declared.modes.Mode.TheVariants.{Outside}
use Rattle.script_lex.specs.Scripts.{BeginsOutright, IsText, IsCopy}
use Rattle.block_tree.specs.declared.node.Node.{Node}
use Rattle.rewrite_text.specs.Texts.{name_at, atom_name, column_name_at, qualified_name, spaced_operator, condition_text, asked_text, from_text, where_text, certificate_prove, certificate_order, certificate_block}
use Rattle.reading_law.proofs.Outside.{Quiet, quiet_both, quiet_words}
use Rattle.reading_law.proofs.WrittenStatements.{join_names}
use Rattle.reading_law.proofs.WrittenTexts.{each_is, quiet_name, quiet_joined, quiet_list, quiet_literal, quiet_row}
use Rattle.rewrite_text.proofs.Written.{IsNamed, IsSayable, written_tables, prove_parts}
use Rattle.rewrite_text.proofs.CertificateBlocks.{block_parts}

-- a statement that is no copy
pub record IsSound (text : List ℕ) : Type 0 where
  pub is : IsText text
  pub no_copy : IsCopy text → ⊥

sound_of : (text : List ℕ) → BeginsOutright text → Quiet text → (IsCopy text → ⊥) → IsSound text
sound_of text outright quiet other = record { is = record { outright = outright; ends = Outside; leads = quiet; closed = refl }; no_copy = other }

module _ (db : List Table) (q : Query) where
  quiet_column : (c : ColRef) → IsNamed db q c → Quiet (qualified_name db q c)
  quiet_column c h =
      let table = atom_name db q c.atom in
      quiet_both (table ++ codes ".") (column_name_at db (atom_at q c.atom).table c.col) (quiet_both table (codes ".") (quiet_name table h.0) (quiet_words (codes ".") refl)) (quiet_name (column_name_at db (atom_at q c.atom).table c.col) h.1)

  quiet_operator : (op : Op) → Quiet (spaced_operator op)
  quiet_operator ops.Eq = quiet_words (codes " = ") refl
  quiet_operator ops.Ne = quiet_words (codes " <> ") refl
  quiet_operator ops.Lt = quiet_words (codes " < ") refl
  quiet_operator ops.Le = quiet_words (codes " <= ") refl
  quiet_operator ops.Gt = quiet_words (codes " > ") refl
  quiet_operator ops.Ge = quiet_words (codes " >= ") refl

  quiet_condition : (k : Cond) → IsSayable db q k → Quiet (condition_text db q k)
  quiet_condition (Join left right) h =
      quiet_both (qualified_name db q left ++ codes " = ") (qualified_name db q right) (quiet_both (qualified_name db q left) (codes " = ") (quiet_column left h.0) (quiet_words (codes " = ") refl)) (quiet_column right h.1)
  quiet_condition (Test col op value) h =
      quiet_both (qualified_name db q col ++ spaced_operator op) (literal_bytes value) (quiet_both (qualified_name db q col) (spaced_operator op) (quiet_column col h.0) (quiet_operator op)) (quiet_literal value h.1)

  quiet_asked : (columns : List ColRef) → AllByRecursion (IsNamed db q) columns → Quiet (asked_text db q columns)
  quiet_asked [] h = quiet_words (codes "exists") refl
  quiet_asked (c ∷ columns) h =
      quiet_both (codes "select ") (join_by (qualified_name db q) (codes ", ") (c ∷ columns)) (quiet_words (codes "select ") refl)
      (quiet_list (qualified_name db q) (c ∷ columns) (each_is (IsNamed db q) (λ d. Quiet (qualified_name db q d)) quiet_column (c ∷ columns) h))

  quiet_names : (names : List (List ℕ)) → AllByRecursion IsName names → Quiet (join_by (λ name. name) (codes ", ") names)
  quiet_names names h = quiet_list (λ name. name) names (each_is IsName (λ name. Quiet name) quiet_name names h)

  quiet_from : AllByRecursion IsName (written_tables db q) → Quiet (from_text db q.atoms)
  quiet_from h =
      quiet_both (codes " from ") (join_by (λ (atom : Atom). name_at db atom.table) (codes ", ") q.atoms) (quiet_words (codes " from ") refl)
      (subst Quiet (sym (join_names (λ (atom : Atom). name_at db atom.table) (codes ", ") q.atoms)) (quiet_names (written_tables db q) h))

  quiet_where : (conds : List Cond) → AllByRecursion (IsSayable db q) conds → Quiet (where_text db q conds)
  quiet_where [] h = refl
  quiet_where (k ∷ conds) h =
      quiet_both (codes " where ") (join_by (condition_text db q) (codes " and ") (k ∷ conds)) (quiet_words (codes " where ") refl)
      (quiet_joined (condition_text db q) (codes " and ") (quiet_words (codes " and ") refl) (k ∷ conds) (each_is (IsSayable db q) (λ c. Quiet (condition_text db q c)) quiet_condition (k ∷ conds) h))

  pub prove_sound : (row : List Value) → AllByRecursion IsValidValue row → AllByRecursion IsName (written_tables db q) → AllByRecursion (IsNamed db q) q.answer → AllByRecursion (IsSayable db q) q.conds → IsSound (certificate_prove db q row)
  prove_sound row valid names columns conds =
      let asked = asked_text db q q.answer in
      let from = from_text db q.atoms in
      let wheres = where_text db q q.conds in
      let regroup = prove_parts db q (row_bytes row) asked from wheres in
      sound_of (certificate_prove db q row) (subst BeginsOutright (sym regroup) (refl, λ e f. omega (arith, e)))
      (quiet_both (codes "prove row " ++ row_bytes row ++ codes " for " ++ asked ++ from) wheres
      (quiet_both (codes "prove row " ++ row_bytes row ++ codes " for " ++ asked) from
      (quiet_both (codes "prove row " ++ row_bytes row ++ codes " for ") asked
      (quiet_both (codes "prove row " ++ row_bytes row) (codes " for ") (quiet_both (codes "prove row ") (row_bytes row) (quiet_words (codes "prove row ") refl) (quiet_row row valid)) (quiet_words (codes " for ") refl))
      (quiet_asked q.answer columns)) (quiet_from names)) (quiet_where q.conds conds))
      (λ h. omega (arith, ap (λ l. get_or l 0 0) (sym regroup ∙ h.copy)))

  pub order_sound : (plan : List ℕ) → AllByRecursion IsName (map (atom_name db q) plan) → IsSound (certificate_order db q plan)
  order_sound plan h =
      sound_of (certificate_order db q plan) (refl, λ e f. omega (arith, e))
      (quiet_both (codes "order ") (join_by (atom_name db q) (codes ", ") plan) (quiet_words (codes "order ") refl) (subst Quiet (sym (join_names (atom_name db q) (codes ", ") plan)) (quiet_names (map (atom_name db q) plan) h)))
      (λ k. omega (arith, ap (λ l. get_or l 0 0) k.copy))

  pub block_sound : (node : Node) → IsName (atom_name db q node.atom) → AllByRecursion (AllByRecursion IsValidValue) node.rows → IsSound (certificate_block db q node)
  block_sound node named valid =
      let name = atom_name db q node.atom in
      let rows = join_by row_bytes (codes ", ") node.rows in
      let regroup = block_parts db q name rows in
      sound_of (certificate_block db q node) (subst BeginsOutright (sym regroup) (refl, λ e f. omega (arith, e)))
      (quiet_both (codes "block " ++ name ++ codes " values ") rows
      (quiet_both (codes "block " ++ name) (codes " values ") (quiet_both (codes "block ") name (quiet_words (codes "block ") refl) (quiet_name name named)) (quiet_words (codes " values ") refl))
      (quiet_list row_bytes node.rows (each_is (AllByRecursion IsValidValue) (λ row. Quiet (row_bytes row)) quiet_row node.rows valid)))
      (λ h. omega (arith, ap (λ l. get_or l 0 0) (sym regroup ∙ h.copy)))
