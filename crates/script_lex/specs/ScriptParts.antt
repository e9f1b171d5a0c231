-- What the parts of the cut answer.
use Rattle.std.specs.Prelude.{◌≡◌, ◌<◌, ◌≤◌, ℕ, Bool, true, false, List, length, take, drop, slice_index, slice_range}
use Rattle.std.specs.List.{AllByRecursion}
use Rattle.script_lex.specs.declared.blocks.BlockEnd.{BlockEnd}
use Rattle.script_lex.specs.declared.modes.Mode.{Mode}
use Rattle.script_lex.specs.declared.modes.Mode.TheVariants.{Outside}
use Rattle.script_lex.specs.declared.modes.Region.{Region}
use Rattle.script_lex.specs.declared.modes.Region.TheVariants as regions
use Rattle.script_lex.specs.declared.modes.Stop.{Stop}
use Rattle.script_lex.specs.declared.blocks.Lines.{Lines}
use Rattle.script_lex.specs.Bytes.{semicolon, line_feed, is_not_line_feed, AllPass}
use Rattle.script_lex.specs.Scripts.{is_outside, Leads, is_gap_byte, is_text_byte, IsGap, BeginsOutright, Skips, IsBlockLine, IsEndingLine, lines_text, IsCopyBlock}

-- the bytes of a region
abbrev pub passes_in : Region → Mode → ℕ → Bool
passes_in regions.Gap mode b = is_gap_byte mode b
passes_in regions.Statement mode b = is_text_byte mode b

-- the bytes before the place belong to the region
pub record Reaches (region : Region) (bytes : List ℕ) (stop : Stop) : Type 0 where
  pub within : stop.at ≤ length bytes
  pub leads : Leads (passes_in region) Outside (take stop.at bytes) stop.mode

-- the first so many bytes belong to the region, and lead from a mode to itself
pub record Stays (region : Region) (mode : Mode) (bytes : List ℕ) (n : ℕ) : Type 0 where
  pub within : n ≤ length bytes
  pub leads : Leads (passes_in region) mode (take n bytes) mode

-- the bytes before the place belong to the region, and the one there doesn't
pub record Stands (region : Region) (bytes : List ℕ) (stop : Stop) : Type 0 where
  pub within : stop.at ≤ length bytes
  pub leads : Leads (passes_in region) Outside (take stop.at bytes) stop.mode
  pub here : stop.at < length bytes → passes_in region stop.mode (slice_index bytes stop.at) ≡ false

-- a gap goes to the place, and something else begins there
pub record BeginsAt (bytes : List ℕ) (at : ℕ) : Type 0 where
  pub within : at < length bytes
  pub gap : IsGap (take at bytes)
  pub outright : BeginsOutright (drop at bytes)

-- the first `;` outside texts and comments stands at the place
pub record EndsAt (bytes : List ℕ) (at : ℕ) : Type 0 where
  pub within : at < length bytes
  pub ends : Mode
  pub leads : Leads is_text_byte Outside (take at bytes) ends
  pub closed : is_outside ends ≡ true
  pub here : slice_index bytes at ≡ semicolon

-- no `;` stands outside texts and comments
pub record HasNoEnd (bytes : List ℕ) : Type 0 where
  pub ends : Mode
  pub leads : Leads is_text_byte Outside bytes ends

-- so many bytes are skipped before a block
pub record SkipsAt (bytes : List ℕ) (at : ℕ) : Type 0 where
  pub within : at ≤ length bytes
  pub skips : Skips bytes (take at bytes) (drop at bytes)

-- The lines up to one are lines of a block, and up to a place no line feed ends that one.
pub record LinesSoFar (bytes : List ℕ) (line i : ℕ) : Type 0 where
  pub order : line ≤ i
  pub within : i ≤ length bytes
  pub lines : List (List ℕ)
  pub each : AllByRecursion IsBlockLine lines
  pub are : take line bytes ≡ lines_text lines
  pub open_line : AllPass is_not_line_feed (slice_range bytes line i)

-- the last of them ends the block with the line feed there, or the bytes are over
pub record StandAt (bytes : List ℕ) (lines : Lines) : Type 0 where
  pub so_far : LinesSoFar bytes lines.line lines.seen
  pub feed : lines.seen < length bytes → slice_index bytes lines.seen ≡ line_feed
  pub ends : lines.seen < length bytes → IsEndingLine (slice_range bytes lines.line lines.seen)

-- a block ends at the place, and its ending line before the rest
pub record BlockEndsAt (ended : Bool) (bytes : List ℕ) (end : BlockEnd) : Type 0 where
  pub order : end.at ≤ end.rest
  pub within : end.rest ≤ length bytes
  pub block : IsCopyBlock ended bytes (take end.at bytes) (drop end.rest bytes)

-- no block is whole
pub record HasNoBlock (ended : Bool) (bytes : List ℕ) : Type 0 where
  pub none : (block rest : List ℕ) → IsCopyBlock ended bytes block rest → ⊥
