-- Members of a list that are found by their names.
use Rattle.std.proofs.Common.{◌≡◌, inl, inr, ℕ, zero, suc, ◌<◌, ◌≤◌, List, [], ◌∷◌, ◌++◌, length, take, get_or, Option, Some, None, Bool, true, false, not, nat_eq, nat_le, is_some, is_none, refl, sym, ap, ◌∙◌, arith, append_assoc, true≢false}
use Rattle.std.specs.List.{AllZip, position, position_or_len}
use Rattle.std.specs.Cmp.Lexicographic.{pointwise, same_text, bytes_decides}
use Rattle.std.proofs.lemmas.Bool.{cases_lt}
use Rattle.std.proofs.lemmas.Bool.Decides.{nat_tests}
use Rattle.std.proofs.lemmas.Grind.{common_steps}
use Rattle.std.proofs.lemmas.List.{get_or-take, length-take-le, append-nil}
use Rattle.std.proofs.lemmas.List.Sums.{fails_before_first}
use Rattle.std.proofs.lemmas.List.Quantifiers.{position-Some}
use Rattle.std.proofs.lemmas.Option.{none-some}
use Rattle.refusals.proofs.Faults.{both_none}
use Rattle.cqa_value.specs.declared.value.Kind.TheVariants.{Int}
use Rattle.cqa_model.specs.declared.schema.Column.{Column}
use Rattle.refusals.specs.declared.refusal.Refusal.{Refusal}
use Rattle.query_resolve.specs.Names.{column_named}
use Rattle.query_resolve.specs.Checks.{fault_unless, first_fault}

-- a check that passes
pub passes : (b : Bool) (refusal : Refusal) → fault_unless b refusal ≡ None → b ≡ true
passes true refusal e = refl
passes false refusal e = absurd (none-some refusal (sym e))

pub at_most : (m n : ℕ) → nat_le m n ≡ true → m ≤ n
at_most m n e = grind (arith, nat_tests)

pub none_is : {A : Type 0} (o : Option A) → is_none o ≡ true → o ≡ None
none_is None e = refl
none_is (Some x) e = absurd (true≢false (sym e))

pub some_is : {A : Type 0} (o : Option A) → is_some o ≡ true → (x : A) × (o ≡ Some x)
some_is None e = absurd (true≢false (sym e))
some_is (Some x) e = (x, refl)

pub not_some : {A : Type 0} (o : Option A) → not (is_some o) ≡ true → o ≡ None
not_some None e = refl
not_some (Some x) e = absurd (true≢false (sym e))

pub position-None : {A : Type 0} (p : A → Bool) (xs : List A) (k : ℕ) (d : A) → position p xs ≡ None → k < length xs → p (get_or xs k d) ≡ false
position-None p xs k d e inside = fails_before_first p xs k d (let past : length xs ≤ position_or_len p xs = grind (arith, common_steps) in omega (arith, past, inside))

-- members with names
module _ {A : Type 0} (f : A → List ℕ) (d : A) (xs : List A) where
  pub named_at : (name : List ℕ) (at : ℕ) → position (λ x. pointwise nat_eq name (f x)) xs ≡ Some at → (at < length xs) × (f (get_or xs at d) ≡ name)
  named_at name at e = let found = position-Some (λ x. pointwise nat_eq name (f x)) xs at d e in (found.0, sym (same_text name (f (get_or xs at d)) (sym found.1)))

  pub named_nowhere : (name : List ℕ) (k : ℕ) → position (λ x. pointwise nat_eq name (f x)) xs ≡ None → k < length xs → f (get_or xs k d) ≡ name → ⊥
  named_nowhere name k e inside same = true≢false (sym ((bytes_decides name (f (get_or xs k d))).1 (sym same)) ∙ position-None (λ x. pointwise nat_eq name (f x)) xs k d e inside)

module _ {A : Type 0} (f : A → List ℕ) (d : A) (xs : List A) (fresh : (j : ℕ) → j < length xs → position (λ x. pointwise nat_eq (f (get_or xs j d)) (f x)) (take j xs) ≡ None) where
  earlier : (i j : ℕ) → i < j → j < length xs → f (get_or xs i d) ≡ f (get_or xs j d) → ⊥
  earlier i j below inside same =
      named_nowhere f d (take j xs) (f (get_or xs j d)) i (fresh j inside) (let long = length-take-le j xs (omega (arith, inside)) in omega (arith, long, below)) (ap f (get_or-take j xs i d below) ∙ same)

  -- members none of whose names stood before have different names
  pub named_apart : (i j : ℕ) → i < length xs → j < length xs → f (get_or xs i d) ≡ f (get_or xs j d) → i ≡ j
  named_apart i j a b same = elim (cases_lt i j) [
    | inl below ↦ absurd (earlier i j below b same)
    | inr above ↦ elim (cases_lt j i) [ inl below ↦ absurd (earlier j i below a (sym same)) | inr le ↦ omega (arith, above, le) ]
  ]

module _ {A : Type 0} (check : List A → A → Option Refusal) where
  pub passes_from : (before xs : List A) (j : ℕ) (d : A) → first_fault check before xs ≡ None → j < length xs → check (before ++ take j xs) (get_or xs j d) ≡ None
  passes_from before [] j d e inside = absurd (omega (arith, inside))
  passes_from before (x ∷ xs) zero d e inside = ap (λ l. check l x) (append-nil before) ∙ (both_none (check before x) (first_fault check (before ++ x ∷ []) xs) e).0
  passes_from before (x ∷ xs) (suc j) d e inside =
      ap (λ l. check l (get_or xs j d)) (sym (append_assoc before (x ∷ []) (take j xs))) ∙ passes_from (before ++ x ∷ []) xs j d (both_none (check before x) (first_fault check (before ++ x ∷ []) xs) e).1 (omega (arith, inside))

  -- each member of a list without a fault passes its check
  pub passes_at : (xs : List A) (j : ℕ) (d : A) → first_fault check [] xs ≡ None → j < length xs → check (take j xs) (get_or xs j d) ≡ None
  passes_at xs j d e inside = passes_from [] xs j d e inside

pub zip_at : {A B : Type 0} (R : A → B → Type 0) (xs : List A) (ys : List B) (i : ℕ) (d : A) (e : B) → AllZip R xs ys → i < length ys → (i < length xs) × R (get_or xs i d) (get_or ys i e)
zip_at R [] [] i d e so inside = absurd (omega (arith, inside))
zip_at R [] (y ∷ ys) i d e so inside = absurd so
zip_at R (x ∷ xs) [] i d e so inside = absurd so
zip_at R (x ∷ xs) (y ∷ ys) zero d e so inside = (omega arith, so.0)
zip_at R (x ∷ xs) (y ∷ ys) (suc i) d e so inside = let more = zip_at R xs ys i d e so.1 (omega (arith, inside)) in (omega (arith, more.0), more.1)

pub zip_length : {A B : Type 0} (R : A → B → Type 0) (xs : List A) (ys : List B) → AllZip R xs ys → length ys ≡ length xs
zip_length R [] [] so = refl
zip_length R [] (y ∷ ys) so = absurd so
zip_length R (x ∷ xs) [] so = absurd so
zip_length R (x ∷ xs) (y ∷ ys) so = ap suc (zip_length R xs ys so.1)

pub column_inside : (columns : List Column) (name : List ℕ) (col : ℕ) → column_named columns name ≡ Some col → col < length columns
column_inside columns name col e = (named_at (λ (c : Column). c.name) (record { name = []; kind = Int }) columns name col e).0
