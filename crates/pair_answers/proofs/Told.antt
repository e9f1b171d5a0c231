-- A pair, from the fact that the query is one: attacks are decided, and a weak one says which variables an atom has.
use Rattle.std.proofs.Common.{◌≡◌, ◌≢◌, ℕ, ◌<◌, [], ◌∷◌, length, inl, arith}
use Rattle.std.proofs.Math.Logic.{∥∥₁_elim}
use Rattle.std.proofs.Props.{props}
use native.Mathlib.Decide.{dec_lt}
use Rattle.cqa_model.specs.declared.query.ColRef.{ColRef}
use Rattle.cqa_model.specs.declared.query.Query.{Query}
use Rattle.cqa_model.specs.Variables.{IsVar, IsKeyVar, whole}
use Rattle.cqa_model.specs.Graph.{Attacks, IsWeak, IsPair}
use Rattle.cqa_model.proofs.Classic.{mem-head, stable}
use Rattle.cqa_model.proofs.Views.{linked-self}
use Rattle.cqa_model.proofs.Interface.{dec_free, dec_var, closure-keeps}
use Rattle.cqa_model.proofs.AttackDecisions.{dec_attacks}
use Rattle.weak_pairs.proofs.Structure.{crossed, whole-closed}

module _ (q : Query) (told : ∥ IsPair q ∥₁) where
  two : length q.atoms ≡ 2
  two = ∥∥₁_elim told (hlevel props) (λ pair. pair.two)

  free : (v : ColRef) → Dec ((whole q).fixed v)
  free v = no (λ h. h)

  attack : (F G : ℕ) → F < 2 → G < 2 → F ≢ G → Attacks q (whole q) F G
  attack F G lF lG ne = stable (dec_attacks q (whole q) (whole-closed q) (λ K l. l) (λ K. dec_lt K (length q.atoms)) free F G)
      (λ n. ∥∥₁_elim told (λ a b. absurd a) (λ pair. n (pair.weakly F G lF lG ne).0))

  across : (F G : ℕ) → F < 2 → G < 2 → F ≢ G → (v : ColRef) → IsKeyVar q (whole q) G v → IsVar q (whole q) F v
  across F G lF lG ne v key = stable (dec_var q (whole q) free F v)
      (λ n. ∥∥₁_elim told (λ a b. absurd a) (λ pair. n (crossed q pair F G lF lG ne v key)))

  weak : (F G : ℕ) → F < 2 → G < 2 → F ≢ G → IsWeak q (whole q) F G
  weak F G lF lG ne v key = closure-keeps q (whole q) (whole-closed q) (whole q).has (IsKeyVar q (whole q) F) (dec_free q (whole q) free) F (let t = two in omega (arith, t, lF))
      (λ u start. (u ∷ [], (inl start, tt), (u, mem-head u [], linked-self q u))) v (across F G lF lG ne v key)

  pub pair-told : IsPair q
  pair-told = record { two = two; weakly = λ F G lF lG ne. (attack F G lF lG ne, weak F G lF lG ne) }
