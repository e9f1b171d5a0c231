-- The order and the blocks of a certificate, as they are written.
use Rattle.std.proofs.Common.{◌≡◌, lit≤, ℕ, List, [], ◌∷◌, ◌++◌, codes, map, refl, sym, ◌∙◌, subst, append_assoc}
use Rattle.std.proofs.lemmas.List.{append-nil}
use Rattle.std.specs.List.{AllByRecursion, join_by}
use Rattle.cqa_value.specs.Literals.{row_bytes}
use Rattle.cqa_value.specs.Valid.{IsValidRow}
use Rattle.cqa_model.specs.declared.query.Query.{Query}
use Rattle.cqa_model.specs.Database.{Table}
use Rattle.cqa_model.specs.Valid.{IsName}
use Rattle.spj_syntax.specs.declared.tree.RawBlock.{RawBlock}
use Rattle.spj_syntax.specs.Lexemes.{Word}
use Rattle.spj_syntax.specs.Written.{name_tokens, listed_tokens, row_tokens, order_tokens, block_tokens}
use Rattle.rewrite_text.specs.Texts.{atom_name, certificate_order, certificate_block}
use Rattle.reading_law.proofs.WrittenStatements.{name_then, literal_word, row_then, join_names}
use Rattle.reading_law.proofs.Tokens.{Spelled, nothing_more, blank_then, list_then}
use Rattle.block_tree.specs.declared.node.Node.{Node}

module _ (db : List Table) (q : Query) where
  pub order_spelled : (plan : List ℕ) → AllByRecursion IsName (map (atom_name db q) plan) → Spelled (certificate_order db q plan) (order_tokens (map (atom_name db q) plan))
  order_spelled plan named =
      let names = map (atom_name db q) plan in
      let items : Spelled (join_by (λ name. name) (codes ", ") names ++ []) (listed_tokens name_tokens names ++ []) = list_then (λ name. name) name_tokens IsName name_then names [] [] named tt nothing_more in
      let text : join_by (λ name. name) (codes ", ") names ++ [] ≡ join_by (atom_name db q) (codes ", ") plan = append-nil (join_by (λ name. name) (codes ", ") names) ∙ sym (join_names (atom_name db q) (codes ", ") plan) in
      literal_word (codes "order") _ _ refl (lit≤ tt)
      (subst (λ z. Spelled z (listed_tokens name_tokens names)) text (subst (λ z. Spelled (join_by (λ name. name) (codes ", ") names ++ []) z) (append-nil (listed_tokens name_tokens names)) items))

  -- a node as a block
  abbrev pub written_block : Node → RawBlock
  written_block node = record { table = atom_name db q node.atom; rows = node.rows }

  pub block_parts : (name rows : List ℕ) → codes "block " ++ name ++ codes " values " ++ rows ≡ codes "block " ++ (name ++ (codes " values " ++ rows))
  block_parts name rows = simp append_assoc refl

  pub block_spelled : (node : Node) → IsName (atom_name db q node.atom) → AllByRecursion IsValidRow node.rows → Spelled (certificate_block db q node) (block_tokens (written_block node))
  block_spelled node named valid =
      let name = atom_name db q node.atom in
      let rows = join_by row_bytes (codes ", ") node.rows in
      let items : Spelled (rows ++ []) (listed_tokens row_tokens node.rows ++ []) = list_then row_bytes row_tokens IsValidRow (λ x rest ls v stops more. row_then x rest ls v more) node.rows [] [] valid tt nothing_more in
      let tail : Spelled rows (listed_tokens row_tokens node.rows) =
      subst (λ z. Spelled z (listed_tokens row_tokens node.rows)) (append-nil rows) (subst (λ z. Spelled (rows ++ []) z) (append-nil (listed_tokens row_tokens node.rows)) items) in
      subst (λ z. Spelled z (block_tokens (written_block node))) (sym (block_parts name rows))
      (literal_word (codes "block") _ _ refl (lit≤ tt)
      (name_then name (codes " values " ++ rows) (Word (codes "values") ∷ listed_tokens row_tokens node.rows) named refl
      (blank_then _ _ (literal_word (codes "values") rows (listed_tokens row_tokens node.rows) refl (lit≤ tt) tail))))
