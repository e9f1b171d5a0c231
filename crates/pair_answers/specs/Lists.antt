-- The lists of rows: a row that fits has its values in the shared columns, and no other row has a list.
use Rattle.std.specs.Prelude.{◌≡◌, ◌↔◌, ◌+◌, ◌<◌, ℕ, zero, suc, List, [], length, map, Option, Some, None, slice_index_or}
use Rattle.cqa_value.specs.declared.value.Value.{Value}
use Rattle.cqa_model.specs.declared.query.Query.{Query}
use Rattle.cqa_model.specs.Database.{key_of}
use Rattle.weak_pairs.specs.Pairs.{FitsAlone}
use Rattle.weak_pairs.specs.Numbering.{AreShared, AreLists}
use Rattle.pair_answers.specs.Numbers.{numbered, place_of}

-- the columns of an atom among pairs of columns
abbrev pub columns_of_side : ℕ → List (ℕ × ℕ) → List ℕ
columns_of_side zero cols = map (λ c. c.0) cols
columns_of_side (suc F) cols = map (λ c. c.1) cols

-- columns of both atoms: the two at each place are of one variable, and no variable that both have is left out but constants
pub record AreColumnPairs (q : Query) (left right : List ℕ) : Type 0 where
  pub cols : List (ℕ × ℕ)
  pub shared : AreShared q cols
  pub left_are : left ≡ columns_of_side 0 cols
  pub right_are : right ≡ columns_of_side 1 cols

-- the list of a row: its values in the columns, where it fits
abbrev pub IsListOf : Query → List Value → List ℕ → ℕ → List Value → Option (List Value) → Type 0
IsListOf q row columns F x list = (values : List Value) → (list ≡ Some values) ↔ (FitsAlone q row F x × (values ≡ key_of columns x))

-- the lists of an atom's first n rows stand behind those that were there
pub record AreListsAdded (q : Query) (row : List Value) (columns : List ℕ) (F : ℕ) (rows : List (List Value)) (n : ℕ) (old new : List (Option (List Value))) : Type 0 where
  pub size : length new ≡ length old + n
  pub kept : (j : ℕ) → j < length old → slice_index_or new j None ≡ slice_index_or old j None
  pub added : (i : ℕ) → i < n → IsListOf q row columns F (slice_index_or rows i []) (slice_index_or new (length old + i) None)

-- each row of both tables has its list, for some columns that both atoms share
pub record AreRowLists (q : Query) (tables : List (List (List Value))) (row : List Value) (lists : List (Option (List Value))) : Type 0 where
  pub cols : List (ℕ × ℕ)
  pub shared : AreShared q cols
  pub size : length lists ≡ length (numbered q tables)
  pub lists_are : AreLists q row cols (place_of q tables) (length lists) lists
