-- Parts of a text, one after the other.
use Rattle.std.proofs.Common.{◌≡◌, ℕ, ◌+◌, ◌≤◌, ◌==◌, if◌then◌else◌, List, [], ◌++◌, sym, ap, ◌∙◌, add-one}
use Rattle.std.proofs.Math.Nat.{le_antisymm}
use Rattle.std.proofs.lemmas.List.{append_assoc}
use Rattle.sql_text.specs.Texts.{joined}

-- n parts stand behind what was there
pub record HasParts (old separator : List ℕ) (text : ℕ → List ℕ) (n : ℕ) (now : List ℕ) : Type 0 where
  pub parts : now ≡ old ++ joined separator text n

-- one more
pub part_more : {old separator : List ℕ} {text : ℕ → List ℕ} {n : ℕ} {before mid now part : List ℕ} → HasParts old separator text n before → mid ≡ before ++ (if n == 0 then [] else separator) → now ≡ mid ++ part → part ≡ text n → HasParts old separator text (n + 1) now
part_more {old} {separator} {text} {n} {before} {mid} {now} {part} has m e p =
    let gap = if n == 0 then [] else separator in
    let front = joined separator text n in
    record { parts = e ∙ ap (λ x. mid ++ x) p ∙ ap (λ x. x ++ text n) (m ∙ ap (λ x. x ++ gap) has.parts) ∙ append_assoc (old ++ front) gap (text n) ∙ append_assoc old front (gap ++ text n) ∙ ap (λ k. old ++ joined separator text k) (sym (add-one n)) }

-- all of them
pub parts_all : {old separator : List ℕ} {text : ℕ → List ℕ} {n m end : ℕ} {now : List ℕ} → HasParts old separator text n now → end ≤ n → n ≤ end → end ≡ m → now ≡ old ++ joined separator text m
parts_all {old} {separator} {text} has over within is = has.parts ∙ ap (λ k. old ++ joined separator text k) (le_antisymm within over ∙ is)

-- three parts, one after the other
pub three : (old a b c first second third : List ℕ) → first ≡ old ++ a → second ≡ first ++ b → third ≡ second ++ c → third ≡ old ++ (a ++ (b ++ c))
three old a b c first second third f s t = t ∙ ap (λ x. x ++ c) (s ∙ ap (λ x. x ++ b) f) ∙ append_assoc (old ++ a) b c ∙ append_assoc old a (b ++ c)
