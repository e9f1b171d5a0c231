-- Why a block can't stand, by its mark.
use Rattle.std.proofs.Common.{◌≡◌, ◌⊎◌, inl, inr, ℕ, ◌<◌, ◌≤◌, IsTrue, List, [], length, get_or, take, Contains, ap, sym, ◌∙◌, subst, arith}
use Rattle.std.proofs.lemmas.List.{get_or_default, get_or_read, get_or-take, length-take-le}
use Rattle.cqa_value.specs.declared.value.Value.{Value}
use Rattle.cqa_model.specs.declared.query.Query.{Query}
use Rattle.cqa_model.specs.Query.{atom_key}
use Rattle.cqa_model.specs.Repairs.{SharesKey}
use Rattle.cqa_value.proofs.Words.{cases_next}
use Rattle.cqa_model.proofs.Repairs.{shares-sym, shares-trans}
use Rattle.block_tree.specs.declared.node.Node.{Node}
use Rattle.block_tree.specs.declared.cause.BlockCause.TheVariants.{OtherRows, NotFitting}
use Rattle.block_tree.specs.Trees.{IsBlockOf, FitEach, ListAlike, AllAlike, first_row}
use Rattle.block_tree.specs.Judging.{Due, IsBlockFor, IsListed, CanStand, FailsBy}
use Rattle.block_check.specs.declared.marking.Mark.{Mark}
use Rattle.block_check.specs.Firsts.{OneKey, nth_node}
use Rattle.block_check.specs.Walking.{HasMark, HasMarks, node_mark}

pub nth_is : (nodes : List Node) (i : ℕ) (x : Node) → i < length nodes → x ≡ get_or nodes i x → x ≡ nth_node nodes i
nth_is nodes i x l e = get_or_read nodes i x l e (record { atom = 0; rows = [] })

least : (a b c : ℕ) → a ≤ b → b < c → a < c
least a b c l k = omega (arith, l, k)

below_or_at : (a b : ℕ) → a ≤ b → (a < b) ⊎ (a ≡ b)
below_or_at a b l = cases_next a b (omega (arith, l))

-- the blocks before a place are those at smaller places
take_holds : (nodes : List Node) (at j : ℕ) → j < at → at ≤ length nodes → Contains (take at nodes) (nth_node nodes j)
take_holds nodes at j l m = (
  j,
  subst (λ z. j < z) (sym (length-take-le at nodes m)) l,
  get_or-take at nodes j (nth_node nodes j) l ∙ get_or_default nodes j (nth_node nodes j) (record { atom = 0; rows = [] }) (omega (arith, l, m)),
)

take_where : (nodes : List Node) (at : ℕ) (a : Node) → at ≤ length nodes → Contains (take at nodes) a → (j : ℕ) × (j < at) × (a ≡ nth_node nodes j)
take_where nodes at a m (j, l, e) =
    let k : j < at = subst (λ z. j < z) (length-take-le at nodes m) l in
    (j, k, nth_is nodes j a (omega (arith, k, m)) (sym e ∙ get_or-take at nodes j a k))

module _ (q : Query) (nodes : List Node) (at : ℕ) (m : Mark) (l : at < length nodes) (marked : HasMark q nodes at m) where
  abbrev pub n : Node
  n = nth_node nodes at

  abbrev pub first : Node
  first = nth_node nodes m.first

  pub block_for : (d : Due) → IsTrue m.is_block → n.atom ≡ d.atom → IsBlockFor q d n
  block_for d b e = (e, subst (λ z. IsBlockOf (atom_key q z) n.rows) e (marked.block.0 b))

  pub other_rows : (d : Due) → (first.rows ≡ n.rows → ⊥) → IsListed q (take at nodes) d n → ⊥
  other_rows d differ listed = go (below_or_at m.first at marked.first.within)
    where
      go : (m.first < at) ⊎ (m.first ≡ at) → ⊥
      go (inl k) = differ (listed.1 first (take_holds nodes at m.first k (omega (arith, l))) marked.first.like.0 marked.first.like.1)
      go (inr e) = differ (ap (λ z. (nth_node nodes z).rows) e)

  pub listed_for : (d : Due) → IsTrue m.is_block → n.atom ≡ d.atom → AllAlike q (take at nodes) → first.rows ≡ n.rows → IsListed q (take at nodes) d n
  listed_for d b e alike same = (block_for d b e, λ a ma. go a ma (take_where nodes at a (omega (arith, l)) ma) (below_or_at m.first at marked.first.within))
    where
      go : (a : Node) → Contains (take at nodes) a → ((j : ℕ) × (j < at) × (a ≡ nth_node nodes j)) → (m.first < at) ⊎ (m.first ≡ at) → ListAlike q a n
      go a ma w (inl k) = λ atoms shares.
          let fa : first.atom ≡ a.atom = marked.first.like.0 ∙ sym atoms in
          let s : SharesKey (atom_key q a.atom) (first_row first) (first_row n) = subst (λ z. SharesKey (atom_key q z) (first_row first) (first_row n)) fa marked.first.like.1 in
          alike a first ma (take_holds nodes at m.first k (omega (arith, l))) (sym fa) (shares-trans (atom_key q a.atom) (first_row a) (first_row n) (first_row first) shares (shares-sym (atom_key q a.atom) (first_row first) (first_row n) s)) ∙ same
      go a ma w (inr f) = λ atoms shares. absurd (marked.first.none w.0 (subst (λ z. w.0 < z) (sym f) w.1) (subst (λ z. OneKey q z n) w.2 (atoms, shares)))

module _ (q : Query) (nodes : List Node) (marks : List Mark) (at : ℕ) (d : Due) (node first : Node) (l : at < length nodes) (marked : HasMarks q nodes (length nodes) marks) (is_node : node ≡ get_or nodes at node) (is_first : first ≡ get_or nodes (node_mark marks at).first first) (right : node.atom ≡ d.atom) (is_block : IsTrue (node_mark marks at).is_block) where
  abbrev m : Mark
  m = node_mark marks at

  eq_node : node ≡ nth_node nodes at
  eq_node = nth_is nodes at node l is_node

  eq_first : first ≡ nth_node nodes m.first
  eq_first = nth_is nodes m.first first (least m.first at (length nodes) (marked.each at l).first.within l) is_first

  right_there : (nth_node nodes at).atom ≡ d.atom
  right_there = ap (λ z. z.atom) (sym eq_node) ∙ right

  pub otherwise : (row : List Value) → (first.rows ≡ node.rows → ⊥) → FailsBy q row (take at nodes) d (nth_node nodes at) OtherRows
  otherwise row differ = (block_for q nodes at m l (marked.each at l) d is_block right_there, other_rows q nodes at m l (marked.each at l) d (λ e. differ (ap (λ z. z.rows) eq_first ∙ e ∙ ap (λ z. z.rows) (sym eq_node))))

  listed : AllAlike q (take at nodes) → first.rows ≡ node.rows → IsListed q (take at nodes) d (nth_node nodes at)
  listed alike same = listed_for q nodes at m l (marked.each at l) d is_block right_there alike (ap (λ z. z.rows) (sym eq_first) ∙ same ∙ ap (λ z. z.rows) eq_node)

  pub fits_not : (row : List Value) → AllAlike q (take at nodes) → first.rows ≡ node.rows → (FitEach q row d.taken d.atom node.rows → ⊥) → FailsBy q row (take at nodes) d (nth_node nodes at) NotFitting
  fits_not row alike same fails = (listed alike same, λ s. fails (subst (λ z. FitEach q row d.taken d.atom z.rows) (sym eq_node) s.1))

  pub stands : (row : List Value) → AllAlike q (take at nodes) → first.rows ≡ node.rows → FitEach q row d.taken d.atom node.rows → CanStand q row (take at nodes) d (nth_node nodes at)
  stands row alike same fit = (listed alike same, subst (λ z. FitEach q row d.taken d.atom z.rows) eq_node fit)
