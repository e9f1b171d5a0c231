use Rattle.std.proofs.Common.{inl, inr, List, Contains, subst}
use Rattle.cqa_value.specs.declared.value.Value.{Value}
use Rattle.cqa_value.proofs.Words.{mem-nil}
use Rattle.union_ask.proofs.candidates.ordered.Goals as goal

pub returns-in-Ok-clause-same : goal.returns-in-Ok-clause-same
returns-in-Ok-clause-same c row =
    let put = c.in-Ok.ensures row in
    let same = c.listed.ensures.same row in (
      λ m. elim (put.0 (same.0 m)) [ inl o ↦ absurd (mem-nil row (subst (λ (rows : List (List Value)). Contains rows row) c.new-answers.ensures o)) | inr k ↦ k ],
      λ k. same.1 (put.1 (inr k)),
    )
