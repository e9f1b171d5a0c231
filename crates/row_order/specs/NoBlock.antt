-- What lets a block go back to an allocator that gives none.
use mir.Syntax.{Ty}
use base.Fml.{Fml, ffalse}
use denote.RawPtr.{Ptr}

-- no block comes from it, so none goes back
abbrev pub no_block : {A : Type 0} → A → Ty → Ptr → Fml
no_block allocator type block = ffalse
