use Rattle.std.proofs.Common.{◌≡◌, List, length, take}
use Rattle.std.specs.Option.{option_copied}
use Rattle.cqa_value.specs.declared.value.Value.{Value}
use Rattle.cqa_model.specs.Database.{key_of}
use Rattle.plan_rows.specs.Knowing.{MayFit}
use Rattle.plan_rows.specs.Over.{look_query, look_taken}
use Rattle.plan_rows.proofs.known.known_values.Given as goal

-- the values of the columns so far
abbrev pub invariant-loop-col : goal.invariant-loop-col
invariant-loop-col l = record {
  size : length l.probe ≡ l.col-index;
  known : (y : List Value) → MayFit (look_query l.look) (option_copied l.row) (look_taken l.look) l.look.atom y → key_of (take l.col-index l.columns) y ≡ l.probe;
}
