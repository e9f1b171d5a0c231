-- The longest UTF-8 prefix is one, and text that is UTF-8 has no fault.
use Rattle.std.proofs.Common.{◌≡◌, ℕ, List, Result, Ok, Err, IsErrAnd, sym, ◌∙◌, arith, IsUtf8}
use Rattle.std.proofs.lemmas.Str.{utf8_valid_len-IsUtf8, utf8_valid_len-IsValidUpTo}
use Rattle.std.specs.Str.{IsValidUpTo}
use Rattle.cqa_value.specs.declared.memory.Fail.TheVariants.{NoMemory, Refused}
use Rattle.cqa_value.specs.declared.name.NameFault.{NameFault}
use Rattle.cqa_value.specs.declared.name.NameFault.TheVariants.{NotUtf8}
use Rattle.cqa_value.specs.declared.memory.Fail.{Fail}

pub one_prefix : (text : List ℕ) (m n : ℕ) → IsValidUpTo text m → IsValidUpTo text n → m ≡ n
one_prefix text m n v w = sym (utf8_valid_len-IsValidUpTo text m v) ∙ utf8_valid_len-IsValidUpTo text n w

pub no_fault : (text : List ℕ) (n : ℕ) → IsUtf8 text → IsValidUpTo text n → ⊥
no_fault text n u v = omega (arith, utf8_valid_len-IsUtf8 text u, utf8_valid_len-IsValidUpTo text n v, v.short)

-- want of memory is no fault of the text
pub other_fault : {T : Type 0} (r : Result T (Fail NameFault)) (at : ℕ) → IsErrAnd r (λ e. e ≡ NoMemory) → r ≡ Err (Refused (NotUtf8 at)) → ⊥
other_fault (Ok x) at w e = (cc)
other_fault (Err fault) at w e = (cc)
