-- Choices in order, and what a walk over them keeps.
use Rattle.std.proofs.Common.{◌≡◌, ℕ, zero, suc, ◌<◌, ◌≤◌, ◌+◌, ◌⊎◌, inl, inr, List, [], ◌∷◌, ◌++◌, length, get_or, take, Some, slice_get, sym, ◌∙◌, ap, subst, arith, Contains}
use Rattle.std.proofs.lemmas.List.{take_more}
use Rattle.std.proofs.lemmas.Option.{slice_get_within, get_or_from_slice_get}
use Rattle.std.proofs.lemmas.List.Elements.{Contains-push_cases}
use Rattle.cqa_value.proofs.Words.{cases_next}
use Rattle.block_choices.specs.declared.row.BlockRow.{BlockRow}
use Rattle.block_choices.specs.Choices.{IsChoice, HoldsWhole, HoldsSome}
use Rattle.block_lists.specs.Walks.{IsBegun}
use Rattle.block_lists.specs.Walks.{IsBefore, Begins}

-- ---- choices in order

-- nothing is before a first row
pub before-first : (c p : List ℕ) → IsBefore c (p ++ 0 ∷ []) → IsBefore c p
before-first [] [] h = absurd h
before-first (x ∷ c) [] (inl l) = absurd (omega (arith, l))
before-first (x ∷ c) [] (inr h) = absurd h.1
before-first [] (r ∷ p) h = absurd h
before-first (x ∷ c) (r ∷ p) (inl l) = inl l
before-first (x ∷ c) (r ∷ p) (inr h) = inr (h.0, before-first c p h.1)

-- what is before the next row is before the row, or begins with it
pub before-next : (c p : List ℕ) (r : ℕ) → IsBefore c (p ++ (r + 1) ∷ []) → IsBefore c (p ++ r ∷ []) ⊎ Begins c (p ++ r ∷ [])
before-next [] [] r h = absurd h
before-next (x ∷ c) [] r (inl l) = elim (cases_next x r l) [
  | inl k ↦ inl (inl k)
  | inr e ↦ inr (e, tt)
]
before-next (x ∷ c) [] r (inr h) = absurd h.1
before-next [] (q ∷ p) r h = absurd h
before-next (x ∷ c) (q ∷ p) r (inl l) = inl (inl l)
before-next (x ∷ c) (q ∷ p) r (inr h) = elim (before-next c p r h.1) [
  | inl b ↦ inl (inr (h.0, b))
  | inr b ↦ inr (h.0, b)
]

-- what is before first rows, or begins with them, is before the last row of the next block, or begins with it
pub last-row : (sizes c p : List ℕ) (r : ℕ) → IsChoice sizes c → IsBegun sizes (p ++ r ∷ []) → get_or sizes (length p) 0 ≤ r + 1 → IsBefore c p ⊎ Begins c p → IsBefore c (p ++ r ∷ []) ⊎ Begins c (p ++ r ∷ [])
last-row [] c [] r k b l h = absurd b
last-row [] c (q ∷ p) r k b l h = absurd b
last-row (s ∷ sizes) [] p r k b l h = absurd k
last-row (s ∷ sizes) (x ∷ c) [] r k b l h =
    let lx : x < s = k.0 in
    let ls : s ≤ r + 1 = l in
    elim (cases_next x r (omega (arith, lx, ls))) [
      | inl i ↦ inl (inl i)
      | inr e ↦ inr (e, tt)
    ]
last-row (s ∷ sizes) (x ∷ c) (q ∷ p) r k b l (inl (inl i)) = inl (inl i)
last-row (s ∷ sizes) (x ∷ c) (q ∷ p) r k b l (inl (inr h)) = elim (last-row sizes c p r k.1 b.1 l (inl h.1)) [
  | inl i ↦ inl (inr (h.0, i))
  | inr i ↦ inr (h.0, i)
]
last-row (s ∷ sizes) (x ∷ c) (q ∷ p) r k b l (inr h) = elim (last-row sizes c p r k.1 b.1 l (inr h.1)) [
  | inl i ↦ inl (inr (h.0, i))
  | inr i ↦ inr (h.0, i)
]

-- ---- rows of the first blocks

pub begun-long : (sizes p : List ℕ) → IsBegun sizes p → length p ≤ length sizes
begun-long sizes [] b = omega arith
begun-long [] (r ∷ p) b = absurd b
begun-long (s ∷ sizes) (r ∷ p) b = let l = begun-long sizes p b.1 in omega (arith, l)

pub begun-push : (sizes p : List ℕ) (r : ℕ) → IsBegun sizes p → length p < length sizes → r < get_or sizes (length p) 0 → IsBegun sizes (p ++ r ∷ [])
begun-push [] p r b l k = absurd (omega (arith, l))
begun-push (s ∷ sizes) [] r b l k = (k, tt)
begun-push (s ∷ sizes) (q ∷ p) r b l k = (b.0, begun-push sizes p r b.1 (omega (arith, l)) k)

pub begun-pop : (sizes p : List ℕ) (r : ℕ) → IsBegun sizes (p ++ r ∷ []) → IsBegun sizes p × (length p < length sizes) × (r < get_or sizes (length p) 0)
begun-pop [] [] r b = absurd b
begun-pop [] (q ∷ p) r b = absurd b
begun-pop (s ∷ sizes) [] r b = (tt, omega arith, b.0)
begun-pop (s ∷ sizes) (q ∷ p) r b =
    let h = begun-pop sizes p r b.1 in
    let l = h.1 in
    ((b.0, h.0), omega (arith, l), h.2)

pub full : (sizes p : List ℕ) → IsBegun sizes p → length p ≡ length sizes → IsChoice sizes p
full [] [] b e = tt
full [] (r ∷ p) b e = absurd b
full (s ∷ sizes) [] b e = absurd (omega (arith, e))
full (s ∷ sizes) (r ∷ p) b e = (b.0, full sizes p b.1 (omega (arith, e)))

-- a choice and a row of one block more
pub choice-push : (sizes c : List ℕ) (s r : ℕ) → IsChoice sizes c → r < s → IsChoice (sizes ++ s ∷ []) (c ++ r ∷ [])
choice-push [] [] s r k l = (l, tt)
choice-push [] (q ∷ c) s r k l = absurd k
choice-push (t ∷ sizes) [] s r k l = absurd k
choice-push (t ∷ sizes) (q ∷ c) s r k l = (k.0, choice-push sizes c s r k.1 l)

-- ---- what is held

pub chosen-on : (c p : List ℕ) (b r : ℕ) → Begins c p → slice_get p b ≡ Some r → slice_get c b ≡ Some r
chosen-on c [] b r h e = cc
chosen-on [] (q ∷ p) b r h e = absurd h
chosen-on (x ∷ c) (q ∷ p) zero r h e = ap Some h.0 ∙ e
chosen-on (x ∷ c) (q ∷ p) (suc b) r h e = chosen-on c p b r h.1 e

-- what begins with rows that hold a list holds it
pub held-on : (lists : List (List BlockRow)) (c p : List ℕ) → Begins c p → HoldsSome p lists → HoldsSome c lists
held-on lists c p h held = (held.0, held.1, λ x m. chosen-on c p x.block x.row h (held.2 x m))

-- ---- what a walk keeps: each choice before the rows so far holds a list
abbrev pub AreHeldBefore : List ℕ → List (List BlockRow) → List ℕ → Type 0
AreHeldBefore sizes lists p = (c : List ℕ) → IsChoice sizes c → IsBefore c p → HoldsSome c lists

pub held-passed : (sizes : List ℕ) (lists : List (List BlockRow)) (p : List ℕ) → AreHeldBefore sizes lists p → HoldsSome p lists → (c : List ℕ) → IsChoice sizes c → IsBefore c p ⊎ Begins c p → HoldsSome c lists
held-passed sizes lists p before held c k (inl b) = before c k b
held-passed sizes lists p before held c k (inr b) = held-on lists c p b held

-- ---- list by list

-- rows that hold a list among the first ones and one more hold it among these, or hold the last
pub none-more : (p : List ℕ) (lists : List (List BlockRow)) (i : ℕ) (names : List BlockRow) → slice_get lists i ≡ Some names → (HoldsSome p (take i lists) → ⊥) → (HoldsWhole p names → ⊥) → HoldsSome p (take (i + 1) lists) → ⊥
none-more p lists i names e none this (found, m, whole) = elim (Contains-push_cases (take i lists) names found (subst (λ xs. Contains xs found) (next lists i names e) m)) [
  | inl k ↦ none (found, k, whole)
  | inr s ↦ this (subst (HoldsWhole p) (sym s) whole)
]
  where
    next : (lists : List (List BlockRow)) (i : ℕ) (names : List BlockRow) → slice_get lists i ≡ Some names → take (i + 1) lists ≡ take i lists ++ names ∷ []
    next lists i names e = take_more lists i names (slice_get_within lists i names e) ∙ ap (λ x. take i lists ++ x ∷ []) (get_or_from_slice_get lists i names names e)

-- ---- one row taken away

pub popped : (sizes old p : List ℕ) (row : ℕ) → IsBegun sizes old → old ≡ p ++ row ∷ [] → IsBegun sizes p × (length p < length sizes) × (row < get_or sizes (length p) 0)
popped sizes old p row b e = begun-pop sizes p row (subst (IsBegun sizes) e b)
