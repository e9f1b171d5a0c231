use Rattle.std.proofs.Common.{refl, ◌∙◌, ap, ◌∷◌, [], codes, ℕ, List, Bor}
use Rattle.std.proofs.lemmas.Result.{IfOk-weaker}
use Rattle.cqa_value.specs.Literals.{integer_of}
use Rattle.spj_syntax.specs.Lexemes.{Lexeme, Word, Number}
use Rattle.spj_syntax.proofs.Steps.{word_first, fails_first, fails_then, exit, reads_then}
use Rattle.spj_syntax.proofs.statements.set.Goals as goal

abbrev number : Bor (List ℕ) → List Lexeme
number digits = Number (integer_of digits.now) ∷ []

pub returns-in_err-word-clause-reads : goal.returns-in_err-word-clause-reads
returns-in_err-word-clause-reads c = exit _ _ c.from_residual.ensures.1 (fails_first c.in_err-word.ensures)

pub returns-in_err-word-2-clause-reads : goal.returns-in_err-word-2-clause-reads
returns-in_err-word-2-clause-reads c = exit _ _ c.from_residual-in_err-word-2.ensures.1 (fails_then c.in_ok-word.ensures (fails_first c.in_err-word-2.ensures))

pub returns-clause-reads : goal.returns-clause-reads
returns-clause-reads c =
    let conflicts = reads_then _ number (λ digits. Word (codes "conflicts") ∷ number digits) c.int.result _ c.in_ok-word-2.ensures c.int.ensures.reads (IfOk-weaker c.int.result _ _ (λ _ _. refl) c.int.ensures.digits) in
    reads_then _ (λ digits. Word (codes "conflicts") ∷ number digits) (λ digits. Word (codes "set") ∷ Word (codes "conflicts") ∷ number digits) c.int.result _ c.in_ok-word.ensures conflicts (IfOk-weaker c.int.result _ _ (λ _ _. refl) c.int.ensures.digits)

pub returns-clause-whole : goal.returns-clause-whole
returns-clause-whole c =
    IfOk-weaker c.int.result _ _ (λ _ first. word_first c.in_ok-word.ensures ∙ ap (λ z. Word (codes "set") ∷ z) (word_first c.in_ok-word-2.ensures ∙ ap (λ z. Word (codes "conflicts") ∷ z) first)) c.int.ensures.first
