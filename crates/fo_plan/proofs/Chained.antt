-- Lists of atoms that others are added to, and what stands behind an atom in an order.
use Rattle.std.proofs.Common.{◌≡◌, ◌∙◌, ℕ, ◌+◌, ◌<◌, ◌≤◌, inl, inr, List, [], ◌∷◌, ◌++◌, length, get_or, take, drop, Contains, refl, sym, ap, subst, append_assoc, arith, length-append, take-append-drop, zero, suc, false, ◌==◌, true≢false}
use Rattle.std.proofs.Math.Seq.{drop-append-add}
use Rattle.std.proofs.lemmas.List.{append-nil, length-take-le}
use Rattle.std.proofs.lemmas.List.Elements.{Contains-append_right, Contains-append_cases}
use Rattle.cqa_value.proofs.Words.{mem-nil, mem-cases, Contains-from_take}
use Rattle.cqa_model.specs.declared.query.Query.{Query}
use Rattle.cqa_model.specs.Shape.{AreDistinct}
use Rattle.plan_rows.specs.Left.{AreQueryAtoms}
use Rattle.fo_plan.specs.Chaining.{GoesOn}

-- nothing is added
pub goes-nowhere : (atoms old : List ℕ) → GoesOn atoms old old
goes-nowhere atoms old = record { added = []; is = sym (append-nil old); among = λ G m. absurd (mem-nil G m) }

-- one more is added
pub goes-further : (atoms old new : List ℕ) (F : ℕ) → GoesOn atoms old new → Contains atoms F → GoesOn atoms old (new ++ F ∷ [])
goes-further atoms old new F h there = record {
  added = h.added ++ F ∷ [];
  is = ap (λ z. z ++ F ∷ []) h.is ∙ append_assoc old h.added (F ∷ []);
  among = λ G m. elim (Contains-append_cases h.added (F ∷ []) G m) [
    | inl n ↦ h.among G n
    | inr n ↦ elim (mem-cases G F [] n) [ inl e ↦ subst (Contains atoms) e there | inr none ↦ absurd (mem-nil G none) ]
  ];
}

-- from fewer atoms
pub goes-wider : (some atoms old new : List ℕ) → GoesOn some old new → ((G : ℕ) → Contains some G → Contains atoms G) → GoesOn atoms old new
goes-wider some atoms old new h wider = record { added = h.added; is = h.is; among = λ G m. wider G (h.among G m) }

-- twice, the second time by some of the atoms
pub goes-twice : (some atoms old mid new : List ℕ) → GoesOn atoms old mid → GoesOn some mid new → ((G : ℕ) → Contains some G → Contains atoms G) → GoesOn atoms old new
goes-twice some atoms old mid new h k wider = record {
  added = h.added ++ k.added;
  is = k.is ∙ ap (λ z. z ++ k.added) h.is ∙ append_assoc old h.added k.added;
  among = λ G m. elim (Contains-append_cases h.added k.added G m) [ inl n ↦ h.among G n | inr n ↦ wider G (k.among G n) ];
}

-- what was begun with nothing has these atoms alone
pub all-among : (atoms old new : List ℕ) → old ≡ [] → GoesOn atoms old new → (G : ℕ) → Contains new G → Contains atoms G
all-among atoms old new none h G m = h.among G (subst (λ z. Contains z G) (h.is ∙ ap (λ z. z ++ h.added) none) m)

pub some-are : (count : ℕ) → false ≡ (count == 0) → 0 < count
some-are zero e = absurd (true≢false (sym e))
some-are (suc count) e = omega arith

-- atoms of a query go on by atoms of it
pub atoms-further : (q : Query) (atoms old new : List ℕ) → AreQueryAtoms q atoms → AreQueryAtoms q old → GoesOn atoms old new → AreQueryAtoms q new
atoms-further q atoms old new some front h F m = elim (Contains-append_cases old h.added F (subst (λ z. Contains z F) h.is m)) [
  | inl n ↦ front F n
  | inr n ↦ some F (h.among F n)
]

pub Contains-from_drop : (n : ℕ) (xs : List ℕ) (x : ℕ) → Contains (drop n xs) x → Contains xs x
Contains-from_drop n xs x m = subst (λ ys. Contains ys x) (take-append-drop n xs) (Contains-append_right (take n xs) (drop n xs) x m)

-- what goes on by later atoms of an order, behind its first ones, are atoms of the query
pub telling-atoms : (q : Query) (order : List ℕ) (place : ℕ) (atoms : List ℕ) → AreQueryAtoms q order → GoesOn (drop (place + 1) order) (take place order) atoms → AreQueryAtoms q atoms
telling-atoms q order place atoms own h =
    atoms-further q (drop (place + 1) order) (take place order) atoms (λ F m. own F (Contains-from_drop (place + 1) order F m)) (λ F m. own F (Contains-from_take place order F m)) h

-- one more is left out
pub drop-next : (n : ℕ) (xs : List ℕ) → n ≤ length xs → drop 1 (drop n xs) ≡ drop (n + 1) xs
drop-next n xs within =
    let size : length (take n xs) ≡ n = length-take-le n xs within in
    sym (ap (drop (n + 1)) (sym (take-append-drop n xs)) ∙ ap (λ k. drop (k + 1) (take n xs ++ drop n xs)) (sym size) ∙ drop-append-add (take n xs) (drop n xs) 1)

get-seam : (front rest : List ℕ) (F : ℕ) → get_or (front ++ F ∷ rest) (length front) 0 ≡ F
get-seam [] rest F = refl
get-seam (x ∷ front) rest F = get-seam front rest F

-- behind the place of an atom in an order stands the rest of the order
pub rest-behind : (order front rest : List ℕ) (F place : ℕ) → AreDistinct order → place < length order → get_or order place 0 ≡ F → order ≡ front ++ F ∷ rest → drop (place + 1) order ≡ rest
rest-behind order front rest F place apart there is whole =
    let size : length order ≡ length front + length (F ∷ rest) = ap length whole ∙ length-append front (F ∷ rest) in
    let own : get_or order (length front) 0 ≡ F = ap (λ z. get_or z (length front) 0) whole ∙ get-seam front rest F in
    let same : place ≡ length front = apart place (length front) there (omega arith) (is ∙ sym own) in
    ap (λ z. drop (place + 1) z) whole ∙ ap (λ n. drop (n + 1) (front ++ F ∷ rest)) same ∙ drop-append-add front (F ∷ rest) 1
