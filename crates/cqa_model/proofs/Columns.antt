-- The columns of a query: their range, and the names of their variables.
use Rattle.std.proofs.Common.{◌≡◌, ℕ, ◌<◌, ◌≤◌, inl, inr, List, [], ◌∷◌, sym, ◌∙◌, subst, arith}
use Rattle.cqa_model.specs.declared.query.Cond.TheVariants.{Join}
use Rattle.cqa_model.specs.declared.query.ColRef.{ColRef}
use Rattle.cqa_model.specs.declared.query.Query.{Query}
use Rattle.cqa_model.specs.declared.variable_class.Variables.{Variables}
use Rattle.cqa_model.specs.Shape.{IsInRange}
use Rattle.cqa_model.specs.Variables.{number, IsJoined, IsChain, AreLinked, IsLeast, IsName}
use Rattle.cqa_model.specs.Labels.{label, column}
use Rattle.cqa_model.specs.Naming.{AreVariables, class_at}
use Rattle.cqa_model.proofs.Classic.{mem-head, mem-tail}
use Rattle.cqa_model.proofs.Views.{linked-self, linked-trans}
use Rattle.cqa_model.proofs.Labels.{AreNarrow, label-linked, linked-label, label-least}
use Rattle.cqa_model.proofs.Decisions.{column_eq}

pub column-number : (d : ColRef) → d.col < 16 → column (number d) ≡ d
column-number d l = column_eq (column (number d)) d (omega (arith, l)) (omega (arith, l))

module _ (q : Query) where
  pub range-small : (c : ColRef) → IsInRange q.atoms c → (c.atom < 12) × (c.col < 16)
  range-small c h = (omega (arith, h.0, q.kept.size.1), omega (arith, h.1, (q.kept.each c.atom h.0).width.1))

  pub number-small : (c : ColRef) → IsInRange q.atoms c → number c < 192
  number-small c r = let s = range-small c r in omega (arith, s.0, s.1)

  joined-in_range : (c d : ColRef) → IsJoined q.conds c d → IsInRange q.atoms d
  joined-in_range c d (inl m) = q.kept.conds_in_range (Join c d) m d (mem-tail d c (d ∷ []) (mem-head d []))
  joined-in_range c d (inr m) = q.kept.conds_in_range (Join d c) m d (mem-head d (c ∷ []))

  chain-in_range : (c d : ColRef) (es : List ColRef) → IsChain q.conds c es d → IsInRange q.atoms c → IsInRange q.atoms d
  chain-in_range c d [] p h = subst (λ z. IsInRange q.atoms z) p h
  chain-in_range c d (e ∷ es) p h = chain-in_range e d es p.1 (joined-in_range c e p.0)

  -- a column that is linked to one of the query's is one of its own
  pub linked-in_range : (c d : ColRef) → AreLinked q c d → IsInRange q.atoms c → IsInRange q.atoms d
  linked-in_range c d l h = chain-in_range c d l.0 l.1 h

  pub narrow : AreNarrow q.conds
  narrow k m c n = (range-small c (q.kept.conds_in_range k m c n)).1

  -- the label is the number of the least linked column
  pub label-of_least : (c d : ColRef) → IsInRange q.atoms d → AreLinked q c d → IsLeast q d → label q.conds c ≡ number d
  label-of_least c d r l least =
      let e : label q.conds c ≡ label q.conds d = label-linked q.conds c d l in
      let h = label-least q.conds narrow d (range-small d r).1 in
      let up : number d ≤ number h.0.0 = least h.0.0 h.0.1 in
      let same : number h.0.0 ≡ label q.conds d = h.0.3 in
      let low : label q.conds d ≤ number d = h.1 d (linked-self q d) in
      omega arith

  -- each column has a least linked one, and its number is the label
  pub least-of : (c : ColRef) → IsInRange q.atoms c → (d : ColRef) × IsInRange q.atoms d × AreLinked q c d × IsLeast q d × (number d ≡ label q.conds c)
  least-of c r =
      let n = label-least q.conds narrow c (range-small c r).1 in
      (n.0.0, linked-in_range c n.0.0 n.0.1 r, n.0.1, (λ e l. subst (λ z. z ≤ number e) (sym n.0.3) (n.1 e (linked-trans q c n.0.0 e n.0.1 l))), n.0.3)

  -- a name is the label
  pub name-label : (c : ColRef) (k : ℕ) → IsName q c k → label q.conds c ≡ k
  name-label c k n = label-of_least c n.0 n.1 n.2 n.3 ∙ n.4

  -- linked columns have one label, and columns of one label are linked
  pub label-same : (c d : ColRef) → IsInRange q.atoms c → IsInRange q.atoms d → label q.conds c ≡ label q.conds d → AreLinked q c d
  label-same c d rc rd e = linked-label q.conds narrow c d (range-small c rc).1 (range-small d rd).1 e

  -- the class that code has for a column is its label
  pub class-label : (v : Variables) → AreVariables q v → (c : ColRef) → IsInRange q.atoms c → class_at v c ≡ label q.conds c
  class-label v hv c r = sym (name-label c (class_at v c) (hv.names c r))

  -- columns have one class exactly where they are linked
  pub class-linked : (v : Variables) → AreVariables q v → (c d : ColRef) → IsInRange q.atoms c → IsInRange q.atoms d → class_at v c ≡ class_at v d → AreLinked q c d
  class-linked v hv c d rc rd e = label-same c d rc rd (sym (class-label v hv c rc) ∙ e ∙ class-label v hv d rd)

  pub linked-class : (v : Variables) → AreVariables q v → (c d : ColRef) → IsInRange q.atoms c → IsInRange q.atoms d → AreLinked q c d → class_at v c ≡ class_at v d
  linked-class v hv c d rc rd l = class-label v hv c rc ∙ label-linked q.conds c d l ∙ sym (class-label v hv d rd)
