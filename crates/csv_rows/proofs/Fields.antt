-- Bytes that are no name give a text column no value.
use Rattle.std.proofs.Common.{◌≡◌, ◌≤◌, ◌<◌, ◌↔◌, ℕ, List, Result, Err, length, IsUtf8, arith}
use Rattle.std.specs.Str.{IsValidUpTo}
use Rattle.cqa_value.specs.declared.memory.Fail.{Fail}
use Rattle.cqa_value.specs.declared.memory.Fail.TheVariants.{Refused}
use Rattle.cqa_value.specs.declared.name.NameFault.{NameFault}
use Rattle.cqa_value.specs.declared.name.NameFault.TheVariants.{NotUtf8, TooLong}
use Rattle.cqa_value.specs.declared.value.Kind.{Kind}
use Rattle.cqa_value.specs.declared.value.Kind.TheVariants.{Text as TextKind}
use Rattle.cqa_value.specs.declared.value.Value.{Value}
use Rattle.cqa_value.specs.declared.value.Value.TheVariants.{Int, Text}
use Rattle.cqa_value.proofs.Prefixes.{no_fault}
use Rattle.csv_rows.specs.Blocks.{IsFieldOf}

pub no_name : {T : Type 0} (r : Result T (Fail NameFault)) (field : List ℕ) (fault : NameFault) → r ≡ Err (Refused fault)
    → ((at : ℕ) → (r ≡ Err (Refused (NotUtf8 at))) ↔ IsValidUpTo field at) → (r ≡ Err (Refused TooLong)) ↔ (IsUtf8 field × (1024 < length field))
    → IsUtf8 field → length field ≤ 1024 → ⊥
no_name r field (NotUtf8 at) e n t u s = no_fault field at u ((n at).0 e)
no_name r field TooLong e n t u s = omega (arith, s, (t.0 e).1)

pub no_text : (kind : Kind) (field : List ℕ) (value : Value) → kind ≡ TextKind → (IsUtf8 field → length field ≤ 1024 → ⊥) → IsFieldOf kind field value → ⊥
no_text kind field (Int n) e deny h = cc (e, h.0)
no_text kind field (Text b) e deny h = deny h.2.utf8 h.2.short
