-- One token ahead decides each step of the factored grammar.
use Rattle.std.proofs.Common.{◌≡◌, true, refl}
use Rattle.spj_syntax.specs.First.{decided}
use Rattle.spj_syntax.specs.Factored.{statement}

pub statement_decided : decided statement ≡ true
statement_decided = refl
