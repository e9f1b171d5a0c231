-- The first fault, a column or a row further on.
use Rattle.std.proofs.Common.{◌≡◌, ℕ, zero, suc, ◌+◌, ◌<◌, List, [], ◌∷◌, length, map, drop, get_or, slice_get, Option, Some, None, refl, sym, ap, ◌∙◌, subst, arith, rules, Bool, true, false, ◌==◌, inl, inr, Contains}
use Rattle.std.specs.Prelude.{if◌then◌else◌}
use Rattle.std.proofs.lemmas.Option.{slice_get_within, slice_get_read, get_or_from_slice_get, none-some}
use Rattle.cqa_value.specs.declared.value.Kind.{Kind}
use Rattle.cqa_value.specs.declared.value.Kind.TheVariants.{Int as IntKind, Text as TextKind}
use Rattle.cqa_value.specs.declared.value.Value.{Value}
use Rattle.cqa_value.specs.Values.{kind_of}
use Rattle.cqa_value.proofs.Words.{mem-cases, mem-nil}
use Rattle.refusals.specs.declared.refusal.Refusal.{Refusal}
use Rattle.refusals.specs.declared.refusal.Refusal.TheVariants.{WrongArity, TypeMismatch}
use Rattle.refusals.specs.declared.refusal.Place.TheVariants.{Cell}
use Rattle.refusals.specs.Refusal.{first_of}
use Rattle.refusals.specs.Kinds.{same_kind, cell_fault, kind_fault, row_fault, rows_fault}

kind_fault-step : (row column at : ℕ) (kinds : List Kind) (values : List Value) (kind : Kind) (value : Value)
    → slice_get kinds at ≡ Some kind → slice_get values at ≡ Some value
    → kind_fault row column (drop at kinds) (drop at values) ≡ first_of (cell_fault row column kind value) (kind_fault row (column + 1) (drop (suc at) kinds) (drop (suc at) values))
kind_fault-step row column at [] values kind value k v = absurd (omega (arith, slice_get_within [] at kind k))
kind_fault-step row column at (x ∷ kinds) [] kind value k v = absurd (omega (arith, slice_get_within [] at value v))
kind_fault-step row column zero (x ∷ kinds) (y ∷ values) kind value k v =
    let same_kind : x ≡ kind = get_or_from_slice_get (x ∷ kinds) 0 kind kind k in
    let same_value : y ≡ value = get_or_from_slice_get (y ∷ values) 0 value value v in
    (λ i. first_of (cell_fault row column (same_kind i) (same_value i)) (kind_fault row (column + 1) kinds values))
kind_fault-step row column (suc at) (x ∷ kinds) (y ∷ values) kind value k v = kind_fault-step row column at kinds values kind value k v

rows_fault-step : (kinds : List Kind) (number at : ℕ) (rows : List (List Value)) (row : List Value) → slice_get rows at ≡ Some row
    → rows_fault kinds number (drop at rows) ≡ first_of (row_fault kinds number row) (rows_fault kinds (number + 1) (drop (suc at) rows))
rows_fault-step kinds number at [] row e = absurd (omega (arith, slice_get_within [] at row e))
rows_fault-step kinds number zero (x ∷ rows) row e = let same : x ≡ row = get_or_from_slice_get (x ∷ rows) 0 row row e in (λ i. first_of (row_fault kinds number (same i)) (rows_fault kinds (number + 1) rows))
rows_fault-step kinds number (suc at) (x ∷ rows) row e = rows_fault-step kinds number at rows row e

plus_one : (n : ℕ) → n + 1 ≡ suc n
plus_one n = omega arith

module _ (row at : ℕ) (kinds : List Kind) (values : List Value) (kind : Kind) (value : Value) where
  pub kind_more : kind_fault row 1 kinds values ≡ kind_fault row (at + 1) (drop at kinds) (drop at values) → slice_get kinds at ≡ Some kind → slice_get values at ≡ Some value
      → cell_fault row (at + 1) kind value ≡ None → kind_fault row 1 kinds values ≡ kind_fault row (at + 1 + 1) (drop (at + 1) kinds) (drop (at + 1) values)
  kind_more so_far k v none =
      so_far ∙ kind_fault-step row (at + 1) at kinds values kind value k v
      ∙ ap (λ o. first_of o (kind_fault row (at + 1 + 1) (drop (suc at) kinds) (drop (suc at) values))) none
      ∙ ap (λ n. kind_fault row (at + 1 + 1) (drop n kinds) (drop n values)) (sym (plus_one at))

  pub kind_found : kind_fault row 1 kinds values ≡ kind_fault row (at + 1) (drop at kinds) (drop at values) → slice_get kinds at ≡ Some kind → slice_get values at ≡ Some value
      → (fault : Refusal) → cell_fault row (at + 1) kind value ≡ Some fault → kind_fault row 1 kinds values ≡ Some fault
  kind_found so_far k v fault some =
      so_far ∙ kind_fault-step row (at + 1) at kinds values kind value k v ∙ ap (λ o. first_of o (kind_fault row (at + 1 + 1) (drop (suc at) kinds) (drop (suc at) values))) some

pub kind_over : (row at column : ℕ) (kinds : List Kind) (values : List Value) → length kinds ≡ length values → length values ≡ at → kind_fault row column (drop at kinds) (drop at values) ≡ None
kind_over row zero column [] values a b = refl
kind_over row zero column (x ∷ kinds) values a b = absurd (omega (arith, a, b))
kind_over row (suc at) column kinds [] a b = absurd (omega (arith, b))
kind_over row (suc at) column [] (y ∷ values) a b = absurd (omega (arith, a))
kind_over row (suc at) column (x ∷ kinds) (y ∷ values) a b = kind_over row at column kinds values (omega (arith, a)) (omega (arith, b))

module _ (kinds : List Kind) (at : ℕ) (rows : List (List Value)) (row : List Value) where
  pub rows_more : rows_fault kinds 1 rows ≡ rows_fault kinds (at + 1) (drop at rows) → slice_get rows at ≡ Some row → row_fault kinds (at + 1) row ≡ None
      → rows_fault kinds 1 rows ≡ rows_fault kinds (at + 1 + 1) (drop (at + 1) rows)
  rows_more so_far e none =
      so_far ∙ rows_fault-step kinds (at + 1) at rows row e ∙ ap (λ o. first_of o (rows_fault kinds (at + 1 + 1) (drop (suc at) rows))) none
      ∙ ap (λ n. rows_fault kinds (at + 1 + 1) (drop n rows)) (sym (plus_one at))

  pub rows_found : rows_fault kinds 1 rows ≡ rows_fault kinds (at + 1) (drop at rows) → slice_get rows at ≡ Some row → (fault : Refusal) → row_fault kinds (at + 1) row ≡ Some fault
      → rows_fault kinds 1 rows ≡ Some fault
  rows_found so_far e fault some = so_far ∙ rows_fault-step kinds (at + 1) at rows row e ∙ ap (λ o. first_of o (rows_fault kinds (at + 1 + 1) (drop (suc at) rows))) some

-- a value that was read
pub value_read : (values seen : List Value) (at : ℕ) (value : Value) → seen ≡ values → at < length values → value ≡ get_or seen at value → slice_get values at ≡ Some value
value_read values seen at value same inside read = slice_get_read values (length values) at value refl inside (read ∙ ap (λ l. get_or l at value) same)

-- neither of two faults is there
pub both_none : (a b : Option Refusal) → first_of a b ≡ None → (a ≡ None) × (b ≡ None)
both_none None b e = (refl, e)
both_none (Some f) b e = absurd (none-some f (sym e))

kind_same : (row column : ℕ) (kind : Kind) (value : Value) → cell_fault row column kind value ≡ None → kind_of value ≡ kind
kind_same row column kind value e = go (kind_of value) kind e
  where
    go : (a b : Kind) → (if same_kind a b then None else Some (TypeMismatch (Cell row column))) ≡ None → a ≡ b
    go IntKind IntKind e = refl
    go IntKind TextKind e = absurd (none-some _ (sym e))
    go TextKind IntKind e = absurd (none-some _ (sym e))
    go TextKind TextKind e = refl

kinds_same : (row column : ℕ) (kinds : List Kind) (values : List Value) → length values ≡ length kinds → kind_fault row column kinds values ≡ None → map kind_of values ≡ kinds
kinds_same row column [] [] l e = refl
kinds_same row column [] (v ∷ values) l e = absurd (omega (arith, l))
kinds_same row column (k ∷ kinds) [] l e = absurd (omega (arith, l))
kinds_same row column (k ∷ kinds) (v ∷ values) l e =
    let none = both_none (cell_fault row column k v) (kind_fault row (column + 1) kinds values) e in
    (λ i. kind_same row column k v none.0 i ∷ kinds_same row (column + 1) kinds values (omega (arith, l)) none.1 i)

row_fits : (kinds : List Kind) (number : ℕ) (row : List Value) → row_fault kinds number row ≡ None → map kind_of row ≡ kinds
row_fits kinds number row e =
    let none = both_none (if length row == length kinds then None else Some (WrongArity number)) (kind_fault number 1 kinds row) e in
    kinds_same number 1 kinds row (long (length row == length kinds) refl none.0) none.1
  where
    long : (b : Bool) → (length row == length kinds) ≡ b → (if b then None else Some (WrongArity number)) ≡ None → length row ≡ length kinds
    long true e n = search (rules, e)
    long false e n = absurd (none-some _ (sym n))

-- rows without a fault have a value of the right kind in each column
pub rows_fit : (kinds : List Kind) (number : ℕ) (rows : List (List Value)) → rows_fault kinds number rows ≡ None → (row : List Value) → Contains rows row → map kind_of row ≡ kinds
rows_fit kinds number [] e row h = absurd (mem-nil row h)
rows_fit kinds number (r ∷ rows) e row h =
    let none = both_none (row_fault kinds number r) (rows_fault kinds (number + 1) rows) e in
    elim (mem-cases row r rows h) [ inl q ↦ subst (λ x. map kind_of x ≡ kinds) q (row_fits kinds number r none.0) | inr l ↦ rows_fit kinds (number + 1) rows none.1 row l ]
