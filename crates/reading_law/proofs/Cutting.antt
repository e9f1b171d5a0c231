-- An input is cut by recursion on its length: behind its first statement fewer bytes are left.
use Rattle.std.proofs.Common.{ℕ, zero, suc, ◌+◌, ◌<◌, Bool, List, [], ◌∷◌, length, drop, length-drop, refl, arith}
use Rattle.script_lex.specs.declared.cutting.Cut.{Cut}
use Rattle.script_lex.specs.declared.cutting.Cut.TheVariants as cuts
use Rattle.script_lex.specs.Scripts.{Statement, statement_at, Cuts, IsCut}
use Rattle.script_lex.proofs.Statements.{Cuts-blank, Cuts-part, Cuts-statement}
use Rattle.reading_law.specs.Inputs.{InputsAreCut}
use Rattle.reading_law.proofs.Firsts.{first_cut}

cut_below : (ended : Bool) (n : ℕ) (bytes : List ℕ) → length bytes < n → (statements : List Statement) × (rest : List ℕ) × Cuts ended bytes statements rest
cut_below ended zero bytes l = absurd (omega (arith, l))
cut_below ended (suc n) bytes l = let first = first_cut ended bytes in go (λ at less. cut_below ended n (drop at bytes) less) first.0 first.1
  where
    go : ((at : ℕ) → length (drop at bytes) < n → (statements : List Statement) × (rest : List ℕ) × Cuts ended (drop at bytes) statements rest) →
        (cut : Cut) → IsCut ended bytes cut → (statements : List Statement) × (rest : List ℕ) × Cuts ended bytes statements rest
    go behind (cuts.Statement text block at) h =
        let ends = h.0.ends in
        let within = h.0.within in
        let more = behind at (omega (arith, l, ends, within, length-drop at bytes)) in
        (statement_at bytes text block ∷ more.0, more.1, Cuts-statement ended bytes text block at more.0 more.1 h more.2)
    go behind cuts.Blank h = ([], bytes, Cuts-blank ended bytes [] bytes refl h)
    go behind cuts.Part h = ([], bytes, Cuts-part ended bytes [] bytes refl h)

pub inputs_are_cut : InputsAreCut
inputs_are_cut ended input = cut_below ended (length input + 1) input (omega arith)
