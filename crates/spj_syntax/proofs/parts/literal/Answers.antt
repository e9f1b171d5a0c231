use Rattle.std.proofs.Common.{refl, inl, inr, ◌∙◌, ap}
use Rattle.spj_syntax.specs.Reading.{seen}
use Rattle.spj_syntax.proofs.Steps.{int_takes, text_takes, literal_shut, literal_end}
use Rattle.spj_syntax.proofs.parts.literal.Goals as goal

pub returns-in-Int : goal.returns-in-Int
returns-in-Int c = rw c.advance.ensures (int_takes _ _ _ c.in-Int.ensures.front c.int_value.ensures)

pub returns-in_ok-text-in-Text : goal.returns-in_ok-text-in-Text
returns-in_ok-text-in-Text c = rw c.advance-in-Text.ensures (text_takes _ _ _ c.in-Text.ensures.front c.in_ok-text-in-Text.ensures)

pub returns-in-Word : goal.returns-in-Word
returns-in-Word c = elim c.in-Word.is [
  | inl word ↦ literal_shut _ _ (c.peek.ensures.front ∙ ap seen word.1) refl refl
  | inr other ↦ elim other [
    | inl symbol ↦ literal_shut _ _ (c.peek.ensures.front ∙ ap seen symbol.1) refl refl
    | inr end ↦ literal_end _ (c.peek.ensures.front ∙ ap seen end)
  ]
]
