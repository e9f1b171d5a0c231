-- A machine that stands between two lines.
use Rattle.std.specs.Prelude.{◌≡◌, ℕ, ◌+◌, Bool, List}
use Rattle.group_text.specs.declared.wanted.Wanted.{Wanted}
use Rattle.group_text.specs.declared.machine.Place.{Place}
use Rattle.group_text.specs.declared.machine.Place.TheVariants as place
use Rattle.group_text.specs.Groups.{Draft, Underway, asked, next}
use Rattle.group_text.specs.Groups.Underway.{Outside, Within, Passing}
use Rattle.group_text.specs.Replies.{Appends}
use Rattle.group_text.specs.Saying.{Said}

-- what is said of groups, the budget of a search, how many lines have come, and what is under way
pub record Standing : Type 0 where
  pub wanted : Wanted
  pub budget : ℕ
  pub number : ℕ
  pub underway : Underway

abbrev pub underway_at : Place → Draft → Underway
underway_at place.Outside d = Outside
underway_at place.Within d = Within d
underway_at place.Passing d = Passing

-- one more line has come
abbrev pub numbered : Standing → Standing
numbered m = record m { number = m.number + 1 }

-- A line says something: the machine goes on, and what it replies is appended.
abbrev pub Steps : Said → Standing → Standing → Bool → List ℕ → List ℕ → Type 0
Steps s m new refused old_text new_text = (new ≡ record m { underway = next m.wanted m.underway s }) × Appends m.wanted m.budget (asked m.wanted m.number m.underway s) refused old_text new_text
