-- Marks, one after another.
use Rattle.std.proofs.Common.{◌≡◌, ◌⊎◌, ◌↔◌, inl, inr, ℕ, ◌+◌, ◌<◌, IsTrue, List, [], ◌∷◌, ◌++◌, length, get_or, ap, sym, ◌∙◌, subst}
use Rattle.std.proofs.lemmas.List.{get_or_append_left, get_or_push, length_push}
use Rattle.cqa_value.proofs.Words.{cases_next}
use Rattle.cqa_model.specs.declared.query.Query.{Query}
use Rattle.cqa_model.specs.Query.{atom_key}
use Rattle.block_tree.specs.declared.node.Node.{Node}
use Rattle.block_tree.specs.Trees.{IsBlockOf}
use Rattle.block_check.specs.declared.marking.Mark.{Mark}
use Rattle.block_check.specs.Firsts.{IsFirstOfKey}
use Rattle.block_check.specs.Walking.{node_mark, HasMark, HasMarks}
use Rattle.block_check.proofs.Faults.{nth_is}

pub marked_more : (q : Query) (nodes : List Node) (n : ℕ) (marks : List Mark) (node : Node) (m : Mark) → n < length nodes → node ≡ get_or nodes n node → HasMarks q nodes n marks →
    IsFirstOfKey q nodes n m.first → IsTrue m.is_block ↔ IsBlockOf (atom_key q node.atom) node.rows → HasMarks q nodes (n + 1) (marks ++ m ∷ [])
marked_more q nodes n marks node m l e so first block = record {
  size = length_push marks m ∙ ap (λ z. z + 1) so.size;
  each = λ i k. go i (cases_next i n k);
}
  where
    here : HasMark q nodes n m
    here = record {
      block = subst (λ z. IsTrue m.is_block ↔ IsBlockOf (atom_key q z.atom) z.rows) (nth_is nodes n node l e) block;
      first = first;
    }

    before : (i : ℕ) → i < n → node_mark (marks ++ m ∷ []) i ≡ node_mark marks i
    before i k = get_or_append_left marks (m ∷ []) _ i (subst (λ z. i < z) (sym so.size) k)

    last : node_mark (marks ++ m ∷ []) n ≡ m
    last = get_or_push marks m _ n so.size

    go : (i : ℕ) → (i < n) ⊎ (i ≡ n) → HasMark q nodes i (node_mark (marks ++ m ∷ []) i)
    go i (inl k) = subst (HasMark q nodes i) (sym (before i k)) (so.each i k)
    go i (inr s) = subst (λ j. HasMark q nodes j (node_mark (marks ++ m ∷ []) j)) (sym s) (subst (HasMark q nodes n) (sym last) here)
