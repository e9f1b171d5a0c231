-- The names of a query's variables, from the fact that there are some.
use Rattle.std.proofs.Common.{◌∙◌, sym}
use denote.Struct.Props.{props}
use Rattle.std.proofs.Math.Logic.{∥∥₁_elim}
use Rattle.cqa_model.specs.declared.query.ColRef.{ColRef}
use Rattle.cqa_model.specs.declared.query.Query.{Query}
use Rattle.cqa_model.specs.declared.variable_class.Variables.{Variables}
use Rattle.cqa_model.specs.Shape.{IsInRange}
use Rattle.cqa_model.specs.Variables.{IsConstant}
use Rattle.cqa_model.specs.Naming.{AreVariables, IsConstantClass, class_at}
use Rattle.cqa_model.proofs.Columns.{least-of, class-label}
use Rattle.cqa_model.proofs.Interface.{dec_constant}

-- each part is an equation, or decided: so it follows from the truncated fact
pub untold : (q : Query) (v : Variables) → ∥ AreVariables q v ∥₁ → AreVariables q v
untold q v told = record {
  names = λ c r. let n = least-of q c r in (n.0, n.1, n.2, n.3, n.4 ∙ ∥∥₁_elim told (hlevel props) (λ are. sym (class-label q v are c r)));
  constants = λ c r. (
    (λ h. constant c r h (dec_constant q c)),
    (λ h. ∥∥₁_elim told (hlevel props) (λ are. (are.constants c r).1 h)),
  );
}
  where
    constant : (c : ColRef) → IsInRange q.atoms c → IsConstantClass v (class_at v c) → Dec (IsConstant q c) → IsConstant q c
    constant c r h (yes is) = is
    constant c r h (no isnt) = let not : ⊥ = ∥∥₁_elim told (hlevel props) (λ are. isnt ((are.constants c r).0 h)) in absurd not
