-- The rows of a statement one after the other, beside the rows of a strict table.
use Rattle.std.proofs.Common.{◌≡◌, ◌<◌, ◌≤◌, ◌+◌, ℕ, List, [], ◌∷◌, ◌++◌, length, take, drop, get_or, slice_get, Contains, Option, Some, None, refl, sym, ap, ◌∙◌, subst, arith, append_assoc}
use Rattle.std.specs.List.{filter}
use Rattle.std.proofs.lemmas.List.{drop_more, take_more, take-append-drop, take_all, length-drop}
use Rattle.std.proofs.lemmas.List.Elements.{filter-append}
use Rattle.cqa_value.specs.declared.value.Value.{Value}
use Rattle.refusals.specs.declared.refusal.Refusal.{Refusal}
use Rattle.refusals.specs.declared.refusal.Refusal.TheVariants.{KeyTaken}
use Rattle.cqa_model.specs.Database.{AreConsistent}
use Rattle.refusals.specs.Refusal.{first_of, Checked}
use Rattle.std.specs.Prelude.{Result, Ok, Err}
use Rattle.cqa_value.specs.declared.memory.Fail.{Fail}
use Rattle.cqa_value.proofs.Words.{Contains-filter}
use Rattle.table_blocks.specs.Keys.{same_key}
use Rattle.table_blocks.proofs.Sharing.{same_self}
use Rattle.table_changes.specs.Taken.{first_sharing, first_other, taken_by, taken_fault}
use Rattle.table_changes.proofs.FirstSharing.{none_other, other_found, joined}

-- rows of which some share a row's key are among those that were sorted
pub still_there : (key : List ℕ) (sorted rows : List (List Value)) → ((row : List Value) → filter (same_key key row) sorted ≡ filter (same_key key row) rows) → (row : List Value) → Contains rows row → Contains sorted row
still_there key sorted rows stable row m =
    ((Contains-filter (same_key key row) sorted row).0 (subst (λ l. Contains l row) (sym (stable row)) ((Contains-filter (same_key key row) rows row).1 (m, same_self key row)))).0

module _ (key : List ℕ) (stored sorted rows : List (List Value)) (stable : (row : List Value) → filter (same_key key row) sorted ≡ filter (same_key key row) rows) (at : ℕ) (row : List Value) (inside : at < length rows) (is : row ≡ get_or rows at row)
    (so_far : taken_fault key stored 1 rows ≡ taken_fault key (stored ++ take at rows) (at + 1) (drop at rows)) (consistent : AreConsistent key (stored ++ take at rows)) (kept : List Value) (first : first_sharing key (stored ++ sorted) row ≡ Some kept) where
  abbrev before : List (List Value)
  before = stored ++ take at rows

  abbrev rest : List (List Value)
  rest = drop (at + 1) rows

  split : drop at rows ≡ row ∷ rest
  split = drop_more rows at row inside ∙ ap (λ x. x ∷ rest) (sym is)

  grown : before ++ row ∷ [] ≡ stored ++ take (at + 1) rows
  grown = append_assoc stored (take at rows) (row ∷ []) ∙ ap (λ l. stored ++ l) (ap (λ x. take at rows ++ x ∷ []) is ∙ sym (take_more rows at row inside))

  here : first_sharing key (before ++ (row ∷ rest)) row ≡ Some kept
  here =
      ap (λ l. slice_get (filter (same_key key row) l) 0) (append_assoc stored (take at rows) (row ∷ rest) ∙ ap (λ l. stored ++ l) (ap (λ l. take at rows ++ l) (sym split) ∙ take-append-drop at rows))
      ∙ ap (λ l. slice_get l 0) (filter-append (same_key key row) stored rows ∙ ap (λ l. filter (same_key key row) stored ++ l) (sym (stable row)) ∙ sym (filter-append (same_key key row) stored sorted))
      ∙ first

  step : taken_fault key stored 1 rows ≡ first_of (taken_by (at + 1) row (first_other key before row)) (taken_fault key (before ++ row ∷ []) (at + 1 + 1) rest)
  step = so_far ∙ ap (taken_fault key before (at + 1)) split

  pub goes_on : kept ≡ row → (taken_fault key stored 1 rows ≡ taken_fault key (stored ++ take (at + 1) rows) (at + 1 + 1) (drop (at + 1) rows)) × AreConsistent key (stored ++ take (at + 1) rows)
  goes_on e = (
    step ∙ ap (λ o. first_of (taken_by (at + 1) row o) (taken_fault key (before ++ row ∷ []) (at + 1 + 1) rest)) (none_other key before rest row kept consistent here e)
        ∙ ap (λ l. taken_fault key l (at + 1 + 1) rest) grown,
    subst (AreConsistent key) grown (joined key before rest row kept consistent here e),
  )

  pub stops : (kept ≡ row → ⊥) → taken_fault key stored 1 rows ≡ Some (KeyTaken (at + 1) kept row)
  stops differs = step ∙ ap (λ o. first_of (taken_by (at + 1) row o) (taken_fault key (before ++ row ∷ []) (at + 1 + 1) rest)) (other_found key before rest row kept consistent here differs)

-- all rows are kept
pub all_kept : (key : List ℕ) (stored rows : List (List Value)) (at : ℕ) → length rows ≤ at → taken_fault key stored 1 rows ≡ taken_fault key (stored ++ take at rows) (at + 1) (drop at rows) → AreConsistent key (stored ++ take at rows)
    → (taken_fault key stored 1 rows ≡ None) × AreConsistent key (stored ++ rows)
all_kept key stored rows at ended so_far consistent =
    let none : drop at rows ≡ [] = nothing_left (drop at rows) (let n = length-drop at rows in omega (arith, n, ended)) in
    (so_far ∙ ap (taken_fault key (stored ++ take at rows) (at + 1)) none, subst (λ l. AreConsistent key (stored ++ l)) (take_all at rows ended) consistent)
  where
    nothing_left : (xs : List (List Value)) → length xs ≡ 0 → xs ≡ []
    nothing_left [] e = refl
    nothing_left (x ∷ xs) e = absurd (omega (arith, e))

-- what a call gives that has checked, told as something weaker
pub checked_weaker : {T : Type 0} (r : Result T (Fail Refusal)) (fault : Option Refusal) (P Q : T → Type 0) → ((v : T) → P v → Q v) → Checked r fault P → Checked r fault Q
checked_weaker (Ok v) fault P Q f c = record { refused = c.refused; valid = c.valid; is = f v c.is }
checked_weaker (Err e) fault P Q f c = record { refused = c.refused; valid = c.valid; is = tt }
