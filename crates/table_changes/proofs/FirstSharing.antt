-- The first of some rows that shares a row's key.
use Rattle.std.proofs.Common.{◌≡◌, inl, inr, ℕ, Bool, true, false, not, ◌&&◌, cond, List, [], ◌∷◌, ◌++◌, get_or, slice_get, Contains, Option, Some, None, refl, sym, ap, ◌∙◌, subst, true≢false}
use Rattle.std.specs.List.{filter}
use Rattle.std.proofs.lemmas.List.Elements.{filter-append, Contains-append_cases}
use Rattle.std.proofs.lemmas.Bool.{and_parts}
use Rattle.cqa_value.specs.declared.value.Value.{Value}
use Rattle.cqa_value.specs.Values.{row_eq, row_decides}
use Rattle.cqa_value.proofs.Words.{mem-tail, mem-cases, mem-head, mem-nil, Contains-slice_get, Contains-filter}
use Rattle.cqa_model.specs.Database.{SharesKey, AreConsistent, nothing}
use Rattle.table_blocks.specs.Keys.{same_key}
use Rattle.table_blocks.proofs.Sharing.{same_decides, same_self, same_trans}
use Rattle.table_changes.specs.Taken.{first_sharing, first_other}

-- a list that has nothing at its first place is empty
pub first_of_filter : {A : Type 0} (xs : List A) → slice_get xs 0 ≡ None → (x : A) → Contains xs x → ⊥
first_of_filter [] e x m = mem-nil x m
first_of_filter {A} (y ∷ xs) e x m = clash e
  where
    clash : {z : A} → Some z ≡ None → ⊥
    clash e = (cc)

-- no row passes
pub none_passes : (p : List Value → Bool) (rows : List (List Value)) → ((x : List Value) → Contains rows x → p x ≡ true → ⊥) → slice_get (filter p rows) 0 ≡ None
none_passes p rows h = go (filter p rows) refl
  where
    go : (xs : List (List Value)) → filter p rows ≡ xs → slice_get (filter p rows) 0 ≡ None
    go [] e = ap (λ l. slice_get l 0) e
    go (x ∷ xs) e = let k = (Contains-filter p rows x).0 (subst (λ l. Contains l x) (sym e) (mem-head x xs)) in absurd (h x k.0 k.1)

-- tests that agree at each row
filter_alike : (p q : List Value → Bool) (rows : List (List Value)) → ((x : List Value) → Contains rows x → p x ≡ q x) → filter p rows ≡ filter q rows
filter_alike p q [] h = refl
filter_alike p q (x ∷ rows) h =
    let more = filter_alike p q rows (λ y m. h y (mem-tail y x rows m)) in
    (λ i. cond (h x (mem-head x rows) i) (x ∷ more i) (more i))

-- the first that passes is there, and passes
passing : (p : List Value → Bool) (rows : List (List Value)) (k : List Value) → slice_get (filter p rows) 0 ≡ Some k → Contains rows k × (p k ≡ true)
passing p rows k e = (Contains-filter p rows k).0 (Contains-slice_get (filter p rows) 0 k e)

first_of_two : {A : Type 0} (xs ys : List A) (x : A) → slice_get xs 0 ≡ Some x → slice_get (xs ++ ys) 0 ≡ Some x
first_of_two [] ys x e = absurd (none e)
  where
    none : None ≡ Some x → ⊥
    none e = (cc)
first_of_two (y ∷ xs) ys x e = e

pub second_of_two : {A : Type 0} (xs ys : List A) → slice_get xs 0 ≡ None → slice_get (xs ++ ys) 0 ≡ slice_get ys 0
second_of_two [] ys e = refl
second_of_two {A} (y ∷ xs) ys e = absurd (some e)
  where
    some : {z : A} → Some z ≡ None → ⊥
    some e = (cc)

module _ (key : List ℕ) where
  -- the first in one list, else the first in the other
  pub first_left : (rows others : List (List Value)) (row k : List Value) → first_sharing key rows row ≡ Some k → first_sharing key (rows ++ others) row ≡ Some k
  first_left rows others row k e = ap (λ l. slice_get l 0) (filter-append (same_key key row) rows others) ∙ first_of_two (filter (same_key key row) rows) (filter (same_key key row) others) k e

  pub first_right : (rows others : List (List Value)) (row : List Value) → first_sharing key rows row ≡ None → first_sharing key (rows ++ others) row ≡ first_sharing key others row
  first_right rows others row e = ap (λ l. slice_get l 0) (filter-append (same_key key row) rows others) ∙ second_of_two (filter (same_key key row) rows) (filter (same_key key row) others) e

  first_here : (row : List Value) (rows : List (List Value)) → first_sharing key (row ∷ rows) row ≡ Some row
  first_here row rows = ap (λ b. slice_get (cond b (row ∷ filter (same_key key row) rows) (filter (same_key key row) rows)) 0) (same_self key row)

  -- rows before a row, of which those that share a key are one
  module _ (before rest : List (List Value)) (row kept : List Value) (one : AreConsistent key before) (first : first_sharing key (before ++ (row ∷ rest)) row ≡ Some kept) where
    shares_kept : first_sharing key before row ≡ Some kept → (x : List Value) → Contains before x → same_key key row x ≡ true → x ≡ kept
    shares_kept found x m s =
        let k = passing (same_key key row) before kept found in
        one x kept m k.0 ((same_decides key x kept).0 (same_trans key row x kept s k.1))

    -- the row is kept: it is none but itself that shares its key
    pub none_other : kept ≡ row → first_other key before row ≡ None
    none_other e = go (first_sharing key before row) refl
      where
        other : List Value → Bool
        other x = same_key key row x && not (row_eq row x)

        go : (o : Option (List Value)) → first_sharing key before row ≡ o → first_other key before row ≡ None
        go None none = none_passes _ before (λ x m p. let b = and_parts _ _ p in first_of_filter (filter (same_key key row) before) none x ((Contains-filter (same_key key row) before x).1 (m, b.0)))
        go (Some k) found = none_passes _ before (λ x m p. let b = and_parts _ _ p in
            let same : kept ≡ k = some_same (sym first ∙ first_left before (row ∷ rest) row k found) in
            let is : x ≡ row = shares_kept (found ∙ ap Some (sym same)) x m b.0 ∙ e in
            true≢false (sym b.1 ∙ ap not ((row_decides row x).1 (sym is))))
          where
            some_same : {a b : List Value} → Some a ≡ Some b → a ≡ b
            some_same e = (cc)

    -- another row is kept, and is the first that shares its key
    pub other_found : (kept ≡ row → ⊥) → first_other key before row ≡ Some kept
    other_found differs = go (first_sharing key before row) refl
      where
        some_same : {a b : List Value} → Some a ≡ Some b → a ≡ b
        some_same e = (cc)

        is_other : (x : List Value) → x ≡ kept → not (row_eq row x) ≡ true
        is_other x e = tells (row_eq row x) refl
          where
            tells : (b : Bool) → row_eq row x ≡ b → not (row_eq row x) ≡ true
            tells true q = absurd (differs (sym e ∙ sym ((row_decides row x).0 q)))
            tells false q = ap not q

        go : (o : Option (List Value)) → first_sharing key before row ≡ o → first_other key before row ≡ Some kept
        go None none = absurd (differs (some_same (sym first ∙ first_right before (row ∷ rest) row none ∙ first_here row rest)))
        go (Some k) found =
            let same : kept ≡ k = some_same (sym first ∙ first_left before (row ∷ rest) row k found) in
            let here : first_sharing key before row ≡ Some kept = found ∙ ap Some (sym same) in
            ap (λ l. slice_get l 0)
            (filter_alike (λ x. same_key key row x && not (row_eq row x)) (same_key key row) before (λ x m. agree x m here (same_key key row x) refl))
            ∙ here
          where
            agree : (x : List Value) → Contains before x → first_sharing key before row ≡ Some kept → (b : Bool) → same_key key row x ≡ b → same_key key row x && not (row_eq row x) ≡ same_key key row x
            agree x m here true q = (λ i. q i && is_other x (shares_kept here x m q) i) ∙ sym q
            agree x m here false q = ap (λ b. b && not (row_eq row x)) q ∙ sym q

    -- a row that is kept itself joins those before it
    pub joined : kept ≡ row → AreConsistent key (before ++ row ∷ [])
    joined e x y mx my s = elim (Contains-append_cases before (row ∷ []) x mx) [
      | inl l ↦ elim (Contains-append_cases before (row ∷ []) y my) [
        | inl r ↦ one x y l r s
        | inr r ↦ elim (mem-cases y row [] r) [ inl q ↦ beside x l (λ p m. sym (s p m ∙ ap (λ z. get_or z p nothing) (sym q))) ∙ q | inr n ↦ absurd (mem-nil y n) ]
      ]
      | inr l ↦ elim (mem-cases x row [] l) [
        | inl q ↦ elim (Contains-append_cases before (row ∷ []) y my) [
          | inl r ↦ sym q ∙ sym (beside y r (λ p m. ap (λ z. get_or z p nothing) q ∙ s p m))
          | inr r ↦ elim (mem-cases y row [] r) [ inl t ↦ sym q ∙ t | inr n ↦ absurd (mem-nil y n) ]
        ]
        | inr n ↦ absurd (mem-nil x n)
      ]
    ]
      where
        some_same : {a b : List Value} → Some a ≡ Some b → a ≡ b
        some_same e = (cc)

        -- a row before that shares its key is the row
        beside : (x : List Value) → Contains before x → SharesKey key row x → x ≡ row
        beside x m s = go (first_sharing key before row) refl
          where
            go : (o : Option (List Value)) → first_sharing key before row ≡ o → x ≡ row
            go None none = absurd (first_of_filter (filter (same_key key row) before) none x ((Contains-filter (same_key key row) before x).1 (m, (same_decides key row x).1 s)))
            go (Some k) found =
                let same : kept ≡ k = some_same (sym first ∙ first_left before (row ∷ rest) row k found) in
                shares_kept (found ∙ ap Some (sym same)) x m ((same_decides key row x).1 s) ∙ e
