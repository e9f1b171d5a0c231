-- The line about an input.
use Rattle.std.specs.Prelude.{◌≡◌, ℕ, Bool, true, false, List, ◌++◌, codes, take}
use Rattle.std.specs.Fmt.{decimal}
use Rattle.block_tree.specs.declared.cause.BlockCause.{BlockCause}
use Rattle.block_tree.specs.declared.cause.BlockCause.TheVariants.{WrongTable, NotABlock, OtherRows, NotFitting, Missing, Surplus}
use Rattle.proof_check.specs.Verdicts.{text_line, log_line}
use Rattle.input_check.specs.declared.reply.CheckReply.{CheckReply}
use Rattle.input_check.specs.declared.reply.CheckReply.TheVariants.{Verified, BadText, BadLog, BadStatement, BadBlock}
use Rattle.input_check.specs.Inputs.{ChecksInput, IsShown}

-- the name of the cause that a block can't stand by
abbrev pub block_word : BlockCause → List ℕ
block_word WrongTable = codes "WrongTable"
block_word NotABlock = codes "NotABlock"
block_word OtherRows = codes "OtherRows"
block_word NotFitting = codes "NotFitting"
block_word Missing = codes "Missing"
block_word Surplus = codes "Surplus"

-- refused statement S BadText
abbrev pub statement_line : ℕ → List ℕ
statement_line statement = codes "refused statement " ++ (decimal statement ++ codes " BadText\n")

-- refused block B CAUSE
abbrev pub block_line : ℕ → BlockCause → List ℕ
block_line number cause = codes "refused block " ++ (decimal number ++ (codes " " ++ (block_word cause ++ codes "\n")))

-- the line of a reply
abbrev pub input_line : CheckReply → List ℕ
input_line Verified = codes "verified\n"
input_line (BadText fault) = text_line fault
input_line (BadLog fault) = log_line fault
input_line (BadStatement statement) = statement_line statement
input_line (BadBlock number cause) = block_line number cause

-- the input shows what it is to show
abbrev pub is_shown : CheckReply → Bool
is_shown Verified = true
is_shown (BadText fault) = false
is_shown (BadLog fault) = false
is_shown (BadStatement statement) = false
is_shown (BadBlock number cause) = false

-- The line is that of the reply to the bytes, and what is verified is shown.
pub record IsVerdict (bytes : List ℕ) (verified : Bool) (line : List ℕ) : Type 0 where
  pub reply : CheckReply
  pub checks : ChecksInput bytes reply
  pub verified_is : verified ≡ is_shown reply
  pub line_is : line ≡ input_line reply
  pub shown : verified ≡ true → IsShown bytes

-- what begins the line of the reply to the bytes
pub record BeginsVerdict (bytes written : List ℕ) : Type 0 where
  pub verified : Bool
  pub line : List ℕ
  pub verdict : IsVerdict bytes verified line
  pub count : ℕ
  pub written_is : written ≡ take count line
