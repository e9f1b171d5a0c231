-- An atom of a strict table attacks nothing: its own dependency counts, so its variables are all in F+.
use Rattle.std.proofs.Common.{ℕ, inr, List, [], ◌∷◌}
use Rattle.cqa_model.specs.declared.query.ColRef.{ColRef}
use Rattle.cqa_model.specs.declared.query.Query.{Query}
use Rattle.cqa_model.specs.Query.{IsStrict}
use Rattle.cqa_model.specs.Variables.{View, IsVar, IsKeyVar, whole}
use Rattle.cqa_model.specs.Closures.{CountsFor, InPlus}
use Rattle.cqa_model.specs.Graph.{IsSequence, Attacks}
use Rattle.cqa_model.specs.Laws.{StrictAttacksNothing}
use Rattle.cqa_model.proofs.Classic.{Classically}
use Rattle.cqa_model.proofs.Attacks.{IsClosed, closure-rule, closure-start}

module _ (q : Query) (view : View) (closed : IsClosed q view) (F : ℕ) (hF : view.has F) (strict : IsStrict q F) where
  own-derived : (v : ColRef) → IsVar q view F v → Classically (InPlus q view F v)
  own-derived v h = closure-rule q view closed (CountsFor q view F) (IsKeyVar q view F) F (hF, inr strict) v h
      (λ u ku k. k (closure-start q view closed (CountsFor q view F) (IsKeyVar q view F) u ku))

  none-reached : (v : ColRef) (us : List ColRef) → IsSequence q view F v us → ⊥
  none-reached v [] h = own-derived v h.1 h.0
  none-reached v (u ∷ us) h = none-reached u us h.2

-- in every view whose fixed variables are whole ones
pub attacks-nothing : (q : Query) (view : View) → IsClosed q view → (F G : ℕ) → IsStrict q F → Attacks q view F G → ⊥
attacks-nothing q view closed F G strict (hF, hG, ne, (v, (us, s), var_v)) = none-reached q view closed F hF strict v us s

pub strict_attacks_nothing : StrictAttacksNothing
strict_attacks_nothing q F G strict attacks = attacks-nothing q (whole q) (λ u v l h. h) F G strict attacks
