-- Which words stand for which commands.
use Rattle.std.proofs.Common.{◌≡◌, ℕ, List, [], ◌∷◌, ◌++◌, length, map, codes, slice_index_or, inl, inr, refl, sym, ◌∙◌, ap, arith, append-nil}
use Rattle.std.specs.Prelude.{String, string_bytes}
use Rattle.std.specs.declared.alloc.Global.{Global}
use Rattle.group_text.specs.declared.wanted.Wanted.{Wanted}
use Rattle.group_text.specs.declared.wanted.Wanted.TheVariants.{Verdicts, Reasons, Ranges}
use Rattle.command_shell.specs.declared.ending.Command.TheVariants.{Demo, Judge}
use Rattle.command_shell.specs.Judging.{judge_words}
use Rattle.command_shell.specs.Top.{AreWordsFor, StandFor}

apart : (m n : ℕ) → (m ≡ n → ⊥) → (a b : List (List ℕ)) → length a ≡ m → length b ≡ n → a ≡ b → ⊥
apart m n other a b k l e = other (sym k ∙ ap length e ∙ l)

two_not_one : (w : List ℕ) (v u : List ℕ) → w ∷ [] ≡ v ∷ u ∷ [] → ⊥
two_not_one w v u e = apart 1 2 (λ k. absurd (omega (arith, k))) (w ∷ []) (v ∷ u ∷ []) refl refl e

head_of : (w v : List ℕ) (ws vs : List (List ℕ)) → w ∷ ws ≡ v ∷ vs → w ≡ v
head_of w v ws vs e = ap (λ words. slice_index_or words 0 w) e

-- one word is no size of `demo`
pub no_demo : (words : List (String Global)) (word : List ℕ) (size : ℕ) → map string_bytes words ≡ word ∷ [] → AreWordsFor words (Demo size) → ⊥
no_demo words word size one sized = two_not_one word (codes "demo") sized.0 (sym one ∙ sized.1)

not_judge : codes "demo" ≡ codes "judge" → ⊥
not_judge e = let k : 4 ≡ 5 = ap length e in absurd (omega (arith, k))

-- `judge` and what follows it are no size of `demo`
no_demo_behind : (wanted : Wanted) (more : List (List ℕ)) (digits : List ℕ) → judge_words wanted ++ more ≡ codes "demo" ∷ digits ∷ [] → ⊥
no_demo_behind Verdicts more digits e = not_judge (sym (head_of (codes "judge") (codes "demo") more (digits ∷ []) e))
no_demo_behind Reasons more digits e = not_judge (sym (head_of (codes "judge") (codes "demo") (codes "reasons" ∷ more) (digits ∷ []) e))
no_demo_behind Ranges more digits e = not_judge (sym (head_of (codes "judge") (codes "demo") (codes "ranges" ∷ more) (digits ∷ []) e))

pub no_demo_judged : (words : List (List ℕ)) (wanted : Wanted) (budget size : ℕ) → StandFor words (Judge wanted budget) → StandFor words (Demo size) → ⊥
no_demo_judged words wanted budget size (inl is) sized = no_demo_behind wanted [] sized.0 (append-nil (judge_words wanted) ∙ sym is.0 ∙ sized.1)
no_demo_judged words wanted budget size (inr is) sized = no_demo_behind wanted (is.0 ∷ []) sized.0 (sym is.1 ∙ sized.1)
