use Rattle.std.proofs.Common.{inl, inr, List, Contains, sym, subst}
use Rattle.std.proofs.lemmas.Result.{IfOk-weaker}
use Rattle.cqa_value.specs.declared.value.Value.{Value}
use Rattle.union_ask.proofs.candidates.put_candidates.Goals as goal

pub returns : goal.returns
returns c =
    IfOk-weaker c.put_rows.result _ _
    (λ done h row. (
      λ m. elim ((h row).0 m) [ inl o ↦ inl o | inr k ↦ inr ((c.in_ok-candidates.ensures.candidates row).0 (subst (λ (rows : List (List Value)). Contains rows row) c.into_vec-more.ensures k)) ],
      λ s. (h row).1 (elim s [ inl o ↦ inl o | inr k ↦ inr (subst (λ (rows : List (List Value)). Contains rows row) (sym c.into_vec-more.ensures) ((c.in_ok-candidates.ensures.candidates row).1 k)) ]),
    ))
    c.put_rows.ensures
