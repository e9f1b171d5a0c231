use Rattle.std.proofs.Common.{take}
use Rattle.script_lex.specs.Bytes.{test_of, AllPass}
use Rattle.script_lex.proofs.bytes.run_length.Given as goal

abbrev pub invariant-loop-count : goal.invariant-loop-count
invariant-loop-count l = AllPass (test_of l.class) (take l.count l.bytes)
