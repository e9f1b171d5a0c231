use Rattle.std.proofs.Common.{◌≡◌, List, length, take}
use Rattle.cqa_value.specs.declared.value.Value.{Value}
use Rattle.cqa_model.specs.Database.{key_of}
use Rattle.table_blocks.specs.Tables.{TestsHold}
use Rattle.table_blocks.proofs.test.known_key.Given as goal

-- the key's values so far
abbrev pub invariant-loop-place : goal.invariant-loop-place
invariant-loop-place l = record {
  size : length l.probe ≡ l.place-index;
  known : (row : List Value) → TestsHold l.tests row → key_of (take l.place-index l.key) row ≡ l.probe;
}
