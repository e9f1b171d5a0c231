-- What always holds of a group that is under way.
use Rattle.std.specs.Prelude.{◌≡◌, ℕ, ◌≤◌, List, length}
use Rattle.std.specs.List.{sum_by}
use Rattle.choice_values.specs.Values.{Weighted}
use Rattle.block_lists.specs.Groups.{IsGroup}
use Rattle.group_text.specs.Weights.{names_in}
use Rattle.group_text.specs.declared.limits.TheConstants.{MOST_NAMES}

-- it is a group, whose lists name so many rows, which aren't too many
pub record IsFit (sizes : List ℕ) (lists : List Weighted) (named : ℕ) : Type 0 where
  pub group : IsGroup sizes (names_in lists)
  pub counted : named ≡ sum_by length (names_in lists)
  pub few : named ≤ MOST_NAMES
