-- What is short in a certificate that isn't too long.
use Rattle.std.proofs.Common.{◌<◌, ◌≤◌, inl, inr, ℕ, List, [], ◌∷◌, ◌++◌, codes, Contains, length, arith, length-append}
use Rattle.std.proofs.lemmas.Bool.{cases_lt}
use Rattle.std.specs.List.{flat_map, join_by}
use Rattle.cqa_value.specs.declared.value.Value.{Value}
use Rattle.cqa_value.specs.Literals.{row_bytes}
use Rattle.cqa_model.specs.declared.query.Cond.{Cond}
use Rattle.cqa_model.specs.declared.query.Query.{Query}
use Rattle.cqa_model.specs.Database.{Table}
use Rattle.rewrite_text.specs.Certificates.{IsTooLong}
use Rattle.rewrite_text.specs.Texts.{condition_text, asked_text, from_text, where_text, certificate_prove}

pub each_short : (texts : List (List ℕ)) → (IsTooLong texts → ⊥) → (text : List ℕ) → Contains texts text → length text ≤ 1_048_576
each_short texts short text m = elim (cases_lt 1_048_576 (length text)) [ inl long ↦ absurd (short (inl (text, m, long))) | inr within ↦ within ]

-- with something before each, items are no more than bytes
few_items : {A : Type 0} (f : A → List ℕ) (sep : List ℕ) (xs : List A) → 0 < length sep → length xs ≤ length (flat_map (λ x. sep ++ f x) xs)
few_items f sep [] some = omega arith
few_items f sep (x ∷ xs) some = omega (arith, some, length-append (sep ++ f x) (flat_map (λ y. sep ++ f y) xs), length-append sep (f x), few_items f sep xs some)

module _ (db : List Table) (q : Query) where
  few_conditions : (conds : List Cond) → length conds ≤ length (where_text db q conds)
  few_conditions [] = omega arith
  few_conditions (k ∷ conds) =
      omega (
        arith,
        length-append (codes " where ") (join_by (condition_text db q) (codes " and ") (k ∷ conds)),
        length-append (condition_text db q k) (flat_map (λ c. codes " and " ++ condition_text db q c) conds),
        few_items (condition_text db q) (codes " and ") conds (omega arith),
      )

  pub few_written : (row : List Value) → length (certificate_prove db q row) ≤ 1_048_576 → length q.conds ≤ 1_048_576
  few_written row short =
      omega (
        arith,
        short,
        few_conditions q.conds,
        length-append (codes "prove row " ++ row_bytes row ++ codes " for " ++ asked_text db q q.answer ++ from_text db q.atoms) (where_text db q q.conds),
      )
