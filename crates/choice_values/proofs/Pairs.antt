-- Weights and lists, one more of each, and at a place.
use Rattle.std.proofs.Common.{◌≡◌, ℕ, zero, suc, ◌+◌, ◌<◌, List, [], ◌∷◌, ◌++◌, length, get_or, map, Contains, inl, inr, Some, slice_get, refl, sym, ◌∙◌, ap, subst, arith}
use Rattle.std.specs.Prelude.{ℤ}
use Rattle.std.proofs.lemmas.List.Elements.{Contains-push_cases}
use Rattle.cqa_value.proofs.Words.{mem-tail, mem-head}
use Rattle.block_choices.specs.Choices.{IsThere, AreThere}
use Rattle.block_choices.specs.declared.row.BlockRow.{BlockRow}
use Rattle.choice_values.specs.Values.{Weighted}
use Rattle.choice_values.specs.Pairs.{weighted, list_at}

pub weighted-push : (ws : List ℤ) (ls : List (List BlockRow)) (w : ℤ) (l : List BlockRow) → length ws ≡ length ls → weighted (ws ++ w ∷ []) (ls ++ l ∷ []) ≡ weighted ws ls ++ record { weight = w; names = l } ∷ []
weighted-push [] [] w l e = refl
weighted-push [] (k ∷ ls) w l e = absurd (omega (arith, e))
weighted-push (v ∷ ws) [] w l e = absurd (omega (arith, e))
weighted-push (v ∷ ws) (k ∷ ls) w l e = ap (λ q. record { weight = v; names = k } ∷ q) (weighted-push ws ls w l (omega (arith, e)))

pub weighted-length : (ws : List ℤ) (ls : List (List BlockRow)) → length ws ≡ length ls → length (weighted ws ls) ≡ length ws
weighted-length [] ls e = refl
weighted-length (v ∷ ws) [] e = absurd (omega (arith, e))
weighted-length (v ∷ ws) (k ∷ ls) e = ap suc (weighted-length ws ls (omega (arith, e)))

pub weight-at : (ws : List ℤ) (ls : List (List BlockRow)) (at : ℕ) (d : ℤ) → length ws ≡ length ls → at < length ws → (list_at (weighted ws ls) at).weight ≡ get_or ws at d
weight-at [] ls at d e l = absurd (omega (arith, l))
weight-at (v ∷ ws) [] at d e l = absurd (omega (arith, e))
weight-at (v ∷ ws) (k ∷ ls) zero d e l = refl
weight-at (v ∷ ws) (k ∷ ls) (suc at) d e l = weight-at ws ls at d (omega (arith, e)) (omega (arith, l))

pub names-at : (ws : List ℤ) (ls : List (List BlockRow)) (at : ℕ) (names : List BlockRow) → length ws ≡ length ls → slice_get ls at ≡ Some names → names ≡ (list_at (weighted ws ls) at).names
names-at [] [] at names e g = cc
names-at [] (k ∷ ls) at names e g = absurd (omega (arith, e))
names-at (v ∷ ws) [] at names e g = absurd (omega (arith, e))
names-at (v ∷ ws) (k ∷ ls) zero names e g = cc
names-at (v ∷ ws) (k ∷ ls) (suc at) names e g = names-at ws ls at names (omega (arith, e)) g

-- ---- rows that are there

pub map-names-more : (lists : List Weighted) (l : Weighted) → map (λ k. k.names) (lists ++ l ∷ []) ≡ map (λ k. k.names) lists ++ l.names ∷ []
map-names-more [] l = refl
map-names-more (k ∷ lists) l = ap (λ ns. k.names ∷ ns) (map-names-more lists l)

pub there-more : (sizes : List ℕ) (lists : List Weighted) (l : Weighted) → AreThere sizes (map (λ k. k.names) lists) → ((x : BlockRow) → Contains l.names x → IsThere sizes x) → AreThere sizes (map (λ k. k.names) (lists ++ l ∷ []))
there-more sizes lists l h g names m x i = elim (Contains-push_cases (map (λ k. k.names) lists) l.names names (subst (λ (ns : List (List BlockRow)). Contains ns names) (map-names-more lists l) m)) [
  | inl k ↦ h names k x i
  | inr e ↦ g x (subst (λ (list : List BlockRow). Contains list x) (sym {A = List BlockRow} e) i)
]

pub there-at : (sizes : List ℕ) (lists : List Weighted) (at : ℕ) → at < length lists → AreThere sizes (map (λ k. k.names) lists) → (x : BlockRow) → Contains (list_at lists at).names x → IsThere sizes x
there-at sizes [] at l h = absurd (omega (arith, l))
there-at sizes (k ∷ lists) zero l h = h k.names (mem-head k.names (map (λ k. k.names) lists))
there-at sizes (k ∷ lists) (suc at) l h = there-at sizes lists at (omega (arith, l)) (λ names m. h names (mem-tail names k.names (map (λ k. k.names) lists) m))

pub same-list : (l : Weighted) (w : ℤ) (names : List BlockRow) → w ≡ l.weight → names ≡ l.names → record { weight = w; names = names } ≡ l
same-list l w names e f = ap (λ (n : ℤ). record { weight = n; names = names }) e ∙ ap (λ (ns : List BlockRow). record { weight = l.weight; names = ns }) f

-- the rows of each list
pub names-all : (ws : List ℤ) (ls : List (List BlockRow)) → length ws ≡ length ls → ls ≡ map (λ l. l.names) (weighted ws ls)
names-all [] [] e = refl
names-all [] (k ∷ ls) e = absurd (omega (arith, e))
names-all (v ∷ ws) [] e = absurd (omega (arith, e))
names-all (v ∷ ws) (k ∷ ls) e = ap (λ xs. k ∷ xs) (names-all ws ls (omega (arith, e)))
