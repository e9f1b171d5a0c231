-- Links between columns, and the views after rows that were taken.
use Rattle.std.proofs.Common.{◌≡◌, ℕ, ◌<◌, inl, inr, List, [], ◌∷◌, length, get_or, ap, sym, ◌∙◌, subst, Contains}
use Rattle.cqa_model.specs.declared.query.Op.TheVariants.{Eq}
use Rattle.cqa_model.specs.declared.query.Cond.{Cond}
use Rattle.cqa_model.specs.declared.query.Cond.TheVariants.{Join, Test}
use Rattle.cqa_model.specs.declared.query.ColRef.{ColRef}
use Rattle.cqa_model.specs.declared.query.Query.{Query}
use Rattle.cqa_value.specs.declared.value.Value.{Value}
use Rattle.cqa_model.specs.Query.{atom_at, value, CondHolds}
use Rattle.cqa_model.specs.Database.{nothing}
use Rattle.cqa_model.specs.Variables.{IsJoined, IsChain, AreLinked, IsConstantColumn, IsConstant, View, IsFree, after}
use Rattle.cqa_model.specs.Closures.{HasVariable}
use Rattle.cqa_model.proofs.Links
use Rattle.cqa_model.specs.Plan.{Placed}
use Rattle.cqa_model.specs.Partial.{view_of, AllFit, IsPartial}
use Rattle.cqa_model.proofs.Classic.{mem-head, mem-tail, mem-nil, mem-cases, map_agree}

module _ (q : Query) where
  pub linked-self : (c : ColRef) → AreLinked q c c
  linked-self c = Links.self q.conds c

  pub linked-join : (c d : ColRef) → IsJoined q.conds c d → AreLinked q c d
  linked-join c d j = Links.join q.conds c d j

  pub linked-trans : (c d e : ColRef) → AreLinked q c d → AreLinked q d e → AreLinked q c e
  linked-trans c d e l m = Links.trans q.conds c d e l m

  pub linked-sym : (c d : ColRef) → AreLinked q c d → AreLinked q d c
  linked-sym c d l = Links.turn q.conds c d l

  pub has_variable-linked : (vs : List ColRef) (u v : ColRef) → AreLinked q u v → HasVariable q vs v → HasVariable q vs u
  has_variable-linked vs u v l h = (h.0, h.1, linked-trans u v h.0 l h.2)

  -- a variable has one value in a witness
  module _ (w : List (List Value)) (holds : (k : Cond) → Contains q.conds k → CondHolds w k) where
    value-joined : (c d : ColRef) → IsJoined q.conds c d → value w c ≡ value w d
    value-joined c d (inl m) = holds (Join c d) m
    value-joined c d (inr m) = sym (holds (Join d c) m)

    value-chain : (c d : ColRef) (xs : List ColRef) → IsChain q.conds c xs d → value w c ≡ value w d
    value-chain c d [] p = ap (λ z. value w z) p
    value-chain c d (x ∷ xs) p = value-joined c x p.0 ∙ value-chain x d xs p.1

    pub value-linked : (c d : ColRef) → AreLinked q c d → value w c ≡ value w d
    value-linked c d l = value-chain c d l.0 l.1

  -- the atoms of a view are atoms of the query
  pub view-in_range : (taken : List Placed) (F : ℕ) → (view_of q taken).has F → F < length q.atoms
  view-in_range [] F h = h
  view-in_range (t ∷ ts) F h = view-in_range ts F h.0

  pub view-not_taken : (taken : List Placed) (t : Placed) → Contains taken t → (view_of q taken).has t.atom → ⊥
  view-not_taken [] t m h = mem-nil t m
  view-not_taken (u ∷ us) t m h = elim (mem-cases t u us m) [
    | inl e ↦ h.1 (ap (λ z. z.atom) (sym e))
    | inr n ↦ view-not_taken us t n h.0
  ]

  pub taken-in_range : (row : List Value) (taken : List Placed) → AllFit q row taken → (t : Placed) → Contains taken t → t.atom < length q.atoms
  taken-in_range row [] a t m = absurd (mem-nil t m)
  taken-in_range row (u ∷ us) a t m = elim (mem-cases t u us m) [
    | inl e ↦ subst (λ z. z.atom < length q.atoms) e (view-in_range us u.atom a.0)
    | inr n ↦ taken-in_range row us a.2 t n
  ]

  -- a fixed variable is of a column of a row that was taken
  pub fixed-taken : (taken : List Placed) (v : ColRef) → (view_of q taken).fixed v →
      (t : Placed) × Contains taken t × ((p : ℕ) × AreLinked q v (record { atom = t.atom; col = p }))
  fixed-taken [] v h = absurd h
  fixed-taken (t ∷ ts) v (inl h) = let r = fixed-taken ts v h in (r.0, mem-tail r.0 t ts r.1, r.2)
  fixed-taken (t ∷ ts) v (inr h) = (t, mem-head t ts, (h.1.0, h.1.2))

  pub free-before : (view : View) (F : ℕ) (v : ColRef) → IsFree q (after q view F) v → IsFree q view v
  free-before view F v f = (f.0, λ h. f.1 (inl h))

  -- an atom with a column of a free variable is left
  pub free-left : (taken : List Placed) (F : ℕ) → F < length q.atoms → (v : ColRef) → IsFree q (view_of q taken) v →
      (p : ℕ) → p < (atom_at q F).width → AreLinked q v (record { atom = F; col = p }) → (view_of q taken).has F
  free-left [] F l v f p lp k = l
  free-left (t ∷ ts) F l v f p lp k =
      let before : IsFree q (view_of q ts) v = free-before (view_of q ts) t.atom v f in
      (free-left ts F l v before p lp k, λ e. f.1 (inr (before, (p, subst (λ z. p < (atom_at q z).width) e lp, subst (λ z. AreLinked q v (record { atom = z; col = p })) e k))))

  -- two witnesses of a partial query agree on what is not free
  module _ (row : List Value) (taken : List Placed) (r s : List (List (List Value))) (S T : List (List Value))
      (hS : IsPartial q row taken r S) (hT : IsPartial q row taken s T) where
    agree-constant : (v : ColRef) → IsConstant q v → value S v ≡ value T v
    agree-constant v (c, l, k) = value-linked S hS.holds v c l ∙ at k ∙ sym (value-linked T hT.holds v c l)
      where
        at : IsConstantColumn q c → value S c ≡ value T c
        at (inl m) = map_agree (value S) (value T) q.answer (hS.answers ∙ sym hT.answers) c m
        at (inr (x, m)) = hS.holds (Test c Eq x) m ∙ sym (hT.holds (Test c Eq x) m)

    agree-fixed : (v : ColRef) → (view_of q taken).fixed v → value S v ≡ value T v
    agree-fixed v h = go (fixed-taken taken v h)
      where
        go : (t : Placed) × Contains taken t × ((p : ℕ) × AreLinked q v (record { atom = t.atom; col = p })) → value S v ≡ value T v
        go (t, m, (p, l)) =
            value-linked S hS.holds v (record { atom = t.atom; col = p }) l
            ∙ ap (λ x. get_or x p nothing) (hS.extends t m ∙ sym (hT.extends t m))
            ∙ sym (value-linked T hT.holds v (record { atom = t.atom; col = p }) l)

    pub agree-not_free : (v : ColRef) → (IsFree q (view_of q taken) v → ⊥) → (value S v ≡ value T v → ⊥) → ⊥
    agree-not_free v nf k = nf ((λ c. k (agree-constant v c)), (λ f. k (agree-fixed v f)))
