use Rattle.std.proofs.Common.{◌≡◌, take}
use Rattle.csv_rows.specs.Dumps.{dump_text}
use Rattle.session_state.proofs.dump.dump.Given as goal

-- the script of the tables so far
abbrev pub invariant-loop-table : goal.invariant-loop-table
invariant-loop-table l = l.script.items ≡ dump_text (take l.table l.database)
