-- Inputs are cut.
use Rattle.std.specs.Prelude.{ℕ, Bool, List}
use Rattle.script_lex.specs.Scripts.{Statement, Cuts}

-- The law: each input, whether it has ended or not, has a cut into all its complete statements and a rest without any.
abbrev pub InputsAreCut : Type 0
InputsAreCut = (ended : Bool) (input : List ℕ) → (statements : List Statement) × (rest : List ℕ) × Cuts ended input statements rest
