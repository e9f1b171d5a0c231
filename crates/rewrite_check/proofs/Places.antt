-- Places of names in an order, each of which stands once.
use Rattle.std.proofs.Common.{◌≡◌, ◌<◌, ◌+◌, ◌↔◌, ℕ, zero, suc, Bool, IsTrue, List, [], ◌∷◌, ◌++◌, length, get_or, take, nat_eq, Option, Some, Contains, refl, ap, sym, ◌∙◌, subst, arith, length-append, length-take}
use Rattle.std.proofs.lemmas.List.{get_or_append_left, get_or_push, get_or_default, get_or-take}
use Rattle.std.specs.List.{AllZip, list_any}
use Rattle.std.proofs.lemmas.Bool.{eqb-true, eq-eqb}
use native.Mathlib.Decide.{ℕ_discrete}
use Rattle.cqa_model.specs.Shape.{AreDistinct}
use Rattle.table_changes.proofs.Preferring.{any_from, any_to}
use Rattle.cqa_model.specs.declared.query.Query.{Query}
use Rattle.cqa_value.proofs.Words.{all_zip_right}
use Rattle.spj_syntax.specs.declared.tree.Select.{Select}
use Rattle.query_resolve.specs.Names.{name_place}
use Rattle.query_resolve.proofs.Lookups.{named_at, zip_at, zip_length}
use Rattle.rewrite_check.specs.Spelling.{IsOrderBy}
use Rattle.rewrite_check.proofs.Once.{zip_once}

-- whether a list has a number
pub has : (xs : List ℕ) (x : ℕ) (b : Bool) → b ≡ list_any (λ y. nat_eq y x) xs → IsTrue b ↔ Contains xs x
has xs x b e = (λ t. let found = any_from (λ y. nat_eq y x) xs (subst IsTrue e t) in subst (Contains xs) (eqb-true found.0 x found.2) found.1, λ m. subst IsTrue (sym e) (any_to (λ y. nat_eq y x) xs x m (eq-eqb x x refl)))

zip_take : {A B : Type 0} (R : A → B → Type 0) (xs : List A) (ys : List B) (i : ℕ) → AllZip R xs ys → AllZip R (take i xs) (take i ys)
zip_take R xs ys zero h = tt
zip_take R [] [] (suc i) h = tt
zip_take R [] (y ∷ ys) (suc i) h = absurd h
zip_take R (x ∷ xs) [] (suc i) h = absurd h
zip_take R (x ∷ xs) (y ∷ ys) (suc i) h = (h.0, zip_take R xs ys i h.1)

-- a name whose place stands before it has no list of different places
pub stands_twice : {A : Type 0} (f : A → Option ℕ) (names : List A) (i : ℕ) (name : A) (order other : List ℕ) → i < length names → get_or names i name ≡ name →
    AllZip (λ n F. f n ≡ Some F) (take i names) order → ((F : ℕ) → f name ≡ Some F → Contains order F) → AllZip (λ n F. f n ≡ Some F) names other → AreDistinct other → ⊥
stands_twice f names i name order other inside here so_far before named apart =
    let long = zip_length (λ n F. f n ≡ Some F) names other named in
    let front = zip_length (λ n F. f n ≡ Some F) (take i names) order so_far in
    let few : length order ≡ i = omega (arith, front, length-take i names) in
    let at = zip_at (λ n F. f n ≡ Some F) names other i name 0 named (omega arith) in
    let place : f name ≡ Some (get_or other i 0) = subst (λ n. f n ≡ Some (get_or other i 0)) here at.1 in
    let m = before (get_or other i 0) place in
    let same : order ≡ take i other = zip_once f (take i names) order (take i other) so_far (zip_take (λ n F. f n ≡ Some F) names other i named) in
    let below : m.0 < i = omega (arith, m.1, few) in
    let found : get_or order m.0 0 ≡ get_or other i 0 = get_or_default order m.0 0 (get_or other i 0) m.1 ∙ m.2 in
    let there : get_or other m.0 0 ≡ get_or other i 0 = sym (get_or-take i other m.0 0 below) ∙ ap (λ z. get_or z m.0 0) (sym same) ∙ found in
    let equal = apart m.0 i (omega arith) (omega arith) there in
    absurd (omega (arith, equal, below))

-- one more number that isn't there yet
pub apart_more : (xs : List ℕ) (x : ℕ) → AreDistinct xs → (Contains xs x → ⊥) → AreDistinct (xs ++ x ∷ [])
apart_more xs x apart new i j a b e = go (ℕ_discrete i (length xs)) (ℕ_discrete j (length xs))
  where
    inside : (k : ℕ) → k < length (xs ++ x ∷ []) → (k ≡ length xs → ⊥) → k < length xs
    inside k h other = omega (arith, h, other, length-append xs (x ∷ []))

    there : (k : ℕ) → k < length xs → get_or (xs ++ x ∷ []) k 0 ≡ get_or xs k 0
    there k h = get_or_append_left xs (x ∷ []) 0 k h

    last : (k : ℕ) → k ≡ length xs → get_or (xs ++ x ∷ []) k 0 ≡ x
    last k h = get_or_push xs x 0 k (sym h)

    found : (k : ℕ) → k < length xs → get_or xs k 0 ≡ x → ⊥
    found k h same = new (k, h, get_or_default xs k x 0 h ∙ same)

    go : Dec (i ≡ length xs) → Dec (j ≡ length xs) → i ≡ j
    go (yes p) (yes q) = p ∙ sym q
    go (yes p) (no q) = let h = inside j b q in absurd (found j h (sym (there j h) ∙ sym e ∙ last i p))
    go (no p) (yes q) = let h = inside i a p in absurd (found i h (sym (there i h) ∙ e ∙ last j q))
    go (no p) (no q) = let h = inside i a p in let k = inside j b q in apart i j h k (sym (there i h) ∙ e ∙ there j k)

module _ (select : Select) (q : Query) (names tables : List (List ℕ)) (order seen : List ℕ) (atoms : ℕ) (tables_are : tables ≡ select.tables) (seen_is : seen ≡ order) (atoms_are : atoms ≡ length q.atoms)
    (named : AllZip (λ n F. name_place tables n ≡ Some F) names order) where
  among : AllZip (λ n F. name_place select.tables n ≡ Some F) names order
  among = subst (λ z. AllZip (λ n F. name_place z n ≡ Some F) names order) tables_are named

  -- places of names that have each atom, and none twice
  pub whole_order : length select.tables ≡ length q.atoms → AreDistinct order → ((atom : ℕ) → atom < atoms → Contains seen atom) → IsOrderBy select q names order
  whole_order long apart all = (
    among,
    record {
      inside = λ F m. let found = all_zip_right (λ n F. name_place select.tables n ≡ Some F) names order F among m in omega (arith, long, (named_at (λ (n : List ℕ). n) [] select.tables found.0 F found.2).0);
      all = λ F below. subst (λ z. Contains z F) seen_is (all F (subst (λ n. F < n) (sym atoms_are) below));
      apart = apart;
    },
  )

  -- places of names that don't have each atom
  pub not_whole : (((atom : ℕ) → atom < atoms → Contains seen atom) → ⊥) → (other : List ℕ) → IsOrderBy select q names other → ⊥
  not_whole none other by =
      let same : other ≡ order = zip_once (λ n. name_place select.tables n) names other order by.0 among in
      none (λ atom below. subst (λ z. Contains z atom) (same ∙ sym seen_is) (by.1.all atom (subst (λ n. atom < n) atoms_are below)))
