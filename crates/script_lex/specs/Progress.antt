-- What earlier looks at the bytes of a script have found.
use Rattle.std.specs.Prelude.{◌≤◌, ℕ, List, length, take, drop}
use Rattle.script_lex.specs.declared.modes.Mode.TheVariants.{Outside}
use Rattle.script_lex.specs.declared.modes.Region.TheVariants as regions
use Rattle.script_lex.specs.declared.modes.Stop.{Stop}
use Rattle.script_lex.specs.declared.scan.Known.{Known}
use Rattle.script_lex.specs.declared.scan.Reached.{Reached}
use Rattle.script_lex.specs.declared.scan.Blanks.{Blanks}
use Rattle.script_lex.specs.declared.scan.Block.{Block}
use Rattle.script_lex.specs.Bytes.{is_line_blank, AllPass}
use Rattle.script_lex.specs.ScriptParts.{Reaches, LinesSoFar}

-- what is known of a statement's text that begins at a place
pub record KnowsText (bytes : List ℕ) (known : Reached) : Type 0 where
  pub within : known.from ≤ length bytes
  pub reaches : Reaches regions.Statement (drop known.from bytes) known.stop

-- so many blanks stand at a place, all of one line
pub record KnowsBlanks (bytes : List ℕ) (known : Blanks) : Type 0 where
  pub within : known.from ≤ length bytes
  pub few : known.count ≤ length (drop known.from bytes)
  pub each : AllPass is_line_blank (take known.count (drop known.from bytes))

-- what is known of a block that begins at a place
pub record KnowsLines (bytes : List ℕ) (known : Block) : Type 0 where
  pub within : known.from ≤ length bytes
  pub so_far : LinesSoFar (drop known.from bytes) known.lines.line known.lines.seen

-- what is known of the bytes holds
pub record Holds (bytes : List ℕ) (known : Known) : Type 0 where
  pub gap : Reaches regions.Gap bytes known.gap
  pub text : KnowsText bytes known.text
  pub blanks : KnowsBlanks bytes known.blanks
  pub lines : KnowsLines bytes known.block

abbrev pub start : Stop
start = record { at = 0; mode = Outside }

-- nothing
abbrev pub unknown : Known
unknown = record {
  gap = start;
  text = record { from = 0; stop = start };
  blanks = record { from = 0; count = 0 };
  block = record { from = 0; lines = record { line = 0; seen = 0 } };
}
