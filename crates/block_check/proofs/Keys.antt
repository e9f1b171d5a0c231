-- One block more that is known.
use Rattle.std.proofs.Common.{◌≡◌, ◌⊎◌, inl, inr, ℕ, ◌+◌, ◌<◌, Option, Some, None, List, [], ◌∷◌, ◌++◌, pos, slice_index_or, refl, ap, sym, ◌∙◌, subst, arith}
use Rattle.std.specs.BTreeMap.{BTreeMap, get, Updates}
use Rattle.std.proofs.lemmas.Option.{same_Some, none-some}
use Rattle.std.proofs.lemmas.List.{get_or_append_left, get_or_push, length_push}
use Rattle.cqa_value.specs.declared.value.Value.{Value}
use Rattle.cqa_value.specs.declared.value.Value.TheVariants.{Int}
use Rattle.cqa_value.specs.Values.{row_cmp}
use Rattle.cqa_value.proofs.Words.{cases_next}
use Rattle.cqa_model.specs.declared.query.Query.{Query}
use Rattle.cqa_model.specs.Database.{key_of}
use Rattle.cqa_model.specs.Query.{atom_key}
use Rattle.cqa_model.proofs.Values.{row_discrete}
use Rattle.cqa_model.proofs.BlockOrder.{shares-from_key, key-from_shares}
use Rattle.block_tree.specs.declared.node.Node.{Node}
use Rattle.block_tree.specs.Trees.{first_row}
use Rattle.block_check.specs.Firsts.{OneKey, nth_node, node_key, IsFirstOfKey, KnowsFirsts}
use Rattle.plan_rows.proofs.Keeping.{row_apart}

-- ---- the map

pub kept_others : {X : Type 0} (old new : BTreeMap (List Value) X) (key : List Value) (v : Option X) → Updates row_cmp old new key v → (k : List Value) → (key ≡ k → ⊥) → get row_cmp new k ≡ get row_cmp old k
kept_others old new key v u k n = u.2 k (row_apart key k n)

-- ---- keys of blocks

head_value : List Value → Value
head_value [] = Int (pos 0)
head_value (v ∷ vs) = v

number : Value → ℕ
number (Int (pos n)) = n
number v = 0

tail_values : List Value → List Value
tail_values [] = []
tail_values (v ∷ vs) = vs

pub one_key : (q : Query) (a b : Node) → node_key q a ≡ node_key q b → OneKey q a b
unfolding number head_value tail_values
one_key q a b e =
    let same : a.atom ≡ b.atom = ap (λ r. number (head_value r)) e in
    (same, shares-from_key (atom_key q a.atom) (first_row a) (first_row b) (ap tail_values e ∙ ap (λ F. key_of (atom_key q F) (first_row b)) (sym same)))

pub key_one : (q : Query) (a b : Node) → OneKey q a b → node_key q a ≡ node_key q b
key_one q a b o = ap (λ ks. Int (pos a.atom) ∷ ks) (key-from_shares (atom_key q a.atom) (first_row a) (first_row b) o.1) ∙ ap (λ F. Int (pos F) ∷ key_of (atom_key q F) (first_row b)) o.0

-- ---- a block more

module _ (q : Query) (nodes : List Node) (n : ℕ) (old : BTreeMap (List Value) ℕ) (firsts : List ℕ) (knows : KnowsFirsts q nodes n old firsts) where
  abbrev here : Node
  here = nth_node nodes n

  each_more : (v : ℕ) → IsFirstOfKey q nodes n v → (i : ℕ) → i < n + 1 → IsFirstOfKey q nodes i (slice_index_or (firsts ++ v ∷ []) i 0)
  each_more v first i l = go (cases_next i n l)
    where
      go : (i < n) ⊎ (i ≡ n) → IsFirstOfKey q nodes i (slice_index_or (firsts ++ v ∷ []) i 0)
      go (inl k) = subst (IsFirstOfKey q nodes i) (sym (get_or_append_left firsts (v ∷ []) 0 i (subst (λ z. i < z) (sym knows.size) k))) (knows.each i k)
      go (inr e) = subst (λ j. IsFirstOfKey q nodes j (slice_index_or (firsts ++ v ∷ []) j 0)) (sym e) (subst (IsFirstOfKey q nodes n) (sym (get_or_push firsts v 0 n knows.size)) first)

  pub known_more : (v : ℕ) → get row_cmp old (node_key q here) ≡ Some v → KnowsFirsts q nodes (n + 1) old (firsts ++ v ∷ [])
  known_more v told = record {
    size = length_push firsts v ∙ ap (λ z. z + 1) knows.size;
    each = each_more v first;
    found = λ k w g. let f = knows.found k w g in (omega (arith, f.0), f.1, f.2);
    missing = λ k g j l e. go k g j e (cases_next j n l);
  }
    where
      f : (v < n) × (node_key q (nth_node nodes v) ≡ node_key q here) × ((j : ℕ) → j < v → node_key q (nth_node nodes j) ≡ node_key q here → ⊥)
      f = knows.found (node_key q here) v told

      first : IsFirstOfKey q nodes n v
      first = record {
        within = omega (arith, f.0);
        like = one_key q (nth_node nodes v) here f.1;
        none = λ j l o. f.2 j l (key_one q (nth_node nodes j) here o);
      }

      go : (k : List Value) → get row_cmp old k ≡ None → (j : ℕ) → node_key q (nth_node nodes j) ≡ k → (j < n) ⊎ (j ≡ n) → ⊥
      go k g j e (inl l) = knows.missing k g j l e
      go k g j e (inr s) = none-some v (sym (sym told ∙ ap (λ z. get row_cmp old z) (ap (λ z. node_key q (nth_node nodes z)) (sym s) ∙ e) ∙ g))

  pub new_more : (new : BTreeMap (List Value) ℕ) → get row_cmp old (node_key q here) ≡ None → get row_cmp new (node_key q here) ≡ Some n → ((k : List Value) → (node_key q here ≡ k → ⊥) → get row_cmp new k ≡ get row_cmp old k) →
      KnowsFirsts q nodes (n + 1) new (firsts ++ n ∷ [])
  new_more new told at others = record {
    size = length_push firsts n ∙ ap (λ z. z + 1) knows.size;
    each = each_more n first;
    found = λ k w g. found k w g (row_discrete (node_key q here) k);
    missing = λ k g j l e. missing k g j e (cases_next j n l) (row_discrete (node_key q here) k);
  }
    where
      none : (j : ℕ) → j < n → node_key q (nth_node nodes j) ≡ node_key q here → ⊥
      none j l e = knows.missing (node_key q here) told j l e

      first : IsFirstOfKey q nodes n n
      first = record {
        within = omega arith;
        like = one_key q here here refl;
        none = λ j l o. none j l (key_one q (nth_node nodes j) here o);
      }

      found : (k : List Value) (w : ℕ) → get row_cmp new k ≡ Some w → Dec (node_key q here ≡ k) → (w < n + 1) × (node_key q (nth_node nodes w) ≡ k) × ((j : ℕ) → j < w → node_key q (nth_node nodes j) ≡ k → ⊥)
      found k w g (yes e) =
          let s : n ≡ w = same_Some n w (sym at ∙ ap (λ z. get row_cmp new z) e ∙ g) in
          subst (λ z. (z < n + 1) × (node_key q (nth_node nodes z) ≡ k) × ((j : ℕ) → j < z → node_key q (nth_node nodes j) ≡ k → ⊥)) s (omega arith, e, λ j l m. none j l (m ∙ sym e))
      found k w g (no ne) = let f = knows.found k w (sym (others k ne) ∙ g) in (omega (arith, f.0), f.1, f.2)

      missing : (k : List Value) → get row_cmp new k ≡ None → (j : ℕ) → node_key q (nth_node nodes j) ≡ k → (j < n) ⊎ (j ≡ n) → Dec (node_key q here ≡ k) → ⊥
      missing k g j e l (yes s) = none-some n (sym (sym at ∙ ap (λ z. get row_cmp new z) s ∙ g))
      missing k g j e (inl l) (no ne) = knows.missing k (sym (others k ne) ∙ g) j l e
      missing k g j e (inr s) (no ne) = ne (ap (λ z. node_key q (nth_node nodes z)) (sym s) ∙ e)
