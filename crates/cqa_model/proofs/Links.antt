-- Links between columns.
use Rattle.std.proofs.Common.{inl, inr, List, [], ◌∷◌, sym, subst, refl}
use Rattle.cqa_model.specs.declared.query.Cond.{Cond}
use Rattle.cqa_model.specs.declared.query.ColRef.{ColRef}
use Rattle.cqa_model.specs.Variables.{IsJoined, IsChain, IsLinked}

module _ (ks : List Cond) where
  pub joined-sym : (c d : ColRef) → IsJoined ks c d → IsJoined ks d c
  joined-sym c d (inl m) = inr m
  joined-sym c d (inr m) = inl m

  chain-append : (c d e : ColRef) (xs ys : List ColRef) → IsChain ks c xs d → IsChain ks d ys e → IsLinked ks c e
  chain-append c d e [] ys p r = (ys, subst (λ z. IsChain ks z ys e) (sym p) r)
  chain-append c d e (x ∷ xs) ys p r = let h = chain-append x d e xs ys p.1 r in (x ∷ h.0, (p.0, h.1))

  pub self : (c : ColRef) → IsLinked ks c c
  self c = ([], refl)

  pub join : (c d : ColRef) → IsJoined ks c d → IsLinked ks c d
  join c d j = (d ∷ [], (j, refl))

  pub trans : (c d e : ColRef) → IsLinked ks c d → IsLinked ks d e → IsLinked ks c e
  trans c d e l m = chain-append c d e l.0 m.0 l.1 m.1

  chain-sym : (c d : ColRef) (xs : List ColRef) → IsChain ks c xs d → IsLinked ks d c
  chain-sym c d [] p = ([], sym p)
  chain-sym c d (x ∷ xs) p = trans d x c (chain-sym x d xs p.1) (join x c (joined-sym c x p.0))

  pub turn : (c d : ColRef) → IsLinked ks c d → IsLinked ks d c
  turn c d l = chain-sym c d l.0 l.1
