-- Views with the same atoms and the same fixed variables.
use Rattle.std.proofs.Common.{◌≡◌, ℕ, ◌↔◌, ◌⊎◌, inl, inr, true, refl}
use Rattle.cqa_model.specs.declared.query.Query.{Query}
use Rattle.cqa_model.specs.Variables.{IsVar, after}
use Rattle.key_closure.specs.declared.variable_set.VarSet.{VarSet}
use Rattle.key_closure.specs.declared.view.View.{View}
use Rattle.key_closure.specs.Sets.{Has, HasAtom}
use Rattle.key_closure.specs.Members.{IsSetOf, seen, AreSame}
use Rattle.key_closure.proofs.Growing.{in_union, union_left, union_right}

pub view-after : (q : Query) (view new : View) (F : ℕ) (vars : VarSet) → ((k : ℕ) → HasAtom new.gone k ↔ (HasAtom view.gone k ⊎ ((true ≡ true) × (k ≡ F)))) →
    IsSetOf q vars (IsVar q (seen q view) F) → ((k : ℕ) → Has new.fixed k ↔ (Has view.fixed k ⊎ Has vars k)) → AreSame (after q (seen q view) F) (seen q new)
view-after q view new F vars hg hv hu = record {
  has = λ G. (
    (λ h. (h.0.0, λ m. elim ((hg G).0 m) [ inl o ↦ h.0.1 o | inr e ↦ h.1 e.1 ])),
    (λ h. ((h.0, λ m. h.1 ((hg G).1 (inl m))), λ e. h.1 ((hg G).1 (inr (refl, e))))),
  );
  fixed = λ c. (
    (λ h. elim h [ inl f ↦ union_left q view.fixed vars new.fixed hu c f | inr v ↦ union_right q view.fixed vars new.fixed hu c ((hv c).1 v) ]),
    (λ h. elim (in_union q view.fixed vars new.fixed hu c h) [ inl f ↦ inl f | inr v ↦ inr ((hv c).0 v) ]),
  );
}
