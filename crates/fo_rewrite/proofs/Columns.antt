-- The columns of which conditions speak are those that can be numbered.
use Rattle.std.proofs.Common.{◌≡◌, ℕ, ◌<◌, List, [], ◌∷◌, length, get_or, sym, subst, Contains}
use Rattle.cqa_value.specs.declared.value.Value.{Value}
use Rattle.cqa_model.specs.declared.query.ColRef.{ColRef}
use Rattle.cqa_model.specs.declared.query.Cond.{Cond}
use Rattle.cqa_model.specs.declared.query.Cond.TheVariants.{Join, Test}
use Rattle.cqa_model.specs.declared.query.Op.{Op}
use Rattle.cqa_model.specs.declared.query.Query.{Query}
use Rattle.cqa_model.specs.Naming.{IsSmall}
use Rattle.cqa_model.proofs.Classic.{mem-head, mem-tail}
use Rattle.cqa_model.proofs.Columns.{range-small}

module _ (q : Query) (conds : List Cond) (same : conds ≡ q.conds) (i : ℕ) (k : Cond) (there : i < length conds) (is : k ≡ get_or conds i k) where
  stands : Contains q.conds k
  stands = subst (λ z. Contains z k) same (i, there, sym is)

  pub sides-small : (l r : ColRef) → k ≡ Join l r → IsSmall l × IsSmall r
  sides-small l r e =
      let m : Contains q.conds (Join l r) = subst (Contains q.conds) e stands in
      (range-small q l (q.kept.conds_in_range (Join l r) m l (mem-head l (r ∷ []))), range-small q r (q.kept.conds_in_range (Join l r) m r (mem-tail r l (r ∷ []) (mem-head r []))))

  pub test-small : (c : ColRef) (op : Op) (x : Value) → k ≡ Test c op x → IsSmall c
  test-small c op x e = range-small q c (q.kept.conds_in_range (Test c op x) (subst (Contains q.conds) e stands) c (mem-head c []))
