-- A list that has all rows of another may be left out.
use Rattle.std.proofs.Common.{◌≡◌, inl, inr, List, ◌∷◌, ◌++◌, subst}
use Rattle.std.proofs.lemmas.List.Elements.{Contains-append_left, Contains-append_right, Contains-append_cases}
use Rattle.cqa_value.proofs.Words.{mem-cases, mem-tail}
use Rattle.block_choices.specs.declared.row.BlockRow.{BlockRow}
use Rattle.block_choices.specs.Choices.{HoldsSome, HoldsWhole}
use Rattle.block_lists.specs.Laws.{WiderMayBeLeftOut}

pub wider_may_be_left_out : WiderMayBeLeftOut
wider_may_be_left_out before after wider names m has c = (with, without)
  where
    with : HoldsSome c (before ++ wider ∷ after) → HoldsSome c (before ++ after)
    with (found, i, whole) = elim (Contains-append_cases before (wider ∷ after) found i) [
      | inl j ↦ (found, Contains-append_left before after found j, whole)
      | inr j ↦ elim (mem-cases found wider after j) [
        | inl e ↦ (names, m, λ x k. subst (HoldsWhole c) (sym-eq e) whole x (has x k))
        | inr k ↦ (found, Contains-append_right before after found k, whole)
      ]
    ]
      where
        sym-eq : {a b : List BlockRow} → a ≡ b → b ≡ a
        sym-eq e = cc

    without : HoldsSome c (before ++ after) → HoldsSome c (before ++ wider ∷ after)
    without (found, i, whole) = elim (Contains-append_cases before after found i) [
      | inl j ↦ (found, Contains-append_left before (wider ∷ after) found j, whole)
      | inr j ↦ (found, Contains-append_right before (wider ∷ after) found (mem-tail found wider after j), whole)
    ]
