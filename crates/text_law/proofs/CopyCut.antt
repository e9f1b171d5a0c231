-- How a copy with its block is cut.
use Rattle.std.proofs.Common.{inl, ℕ, true, List, [], ◌∷◌, ◌++◌, codes, Some, refl, ap, ◌∙◌, append_assoc}
use Rattle.script_lex.specs.Scripts.{IsText, IsCopy}
use Rattle.reading_law.proofs.Cut.{IsCutInto, no_gap}
use Rattle.text_law.proofs.DumpBlocks.{AreLines, block_is}

-- a copy with its block
pub copy_cut : (text block : List ℕ) → IsText text → IsCopy text → AreLines block → IsCutInto (text ++ (codes ";\n" ++ (block ++ codes "\\.\n"))) ((text, Some block) ∷ [])
copy_cut text block is copy lines gap g = (
  [],
  no_gap,
  λ more. (
    more,
    record {
      gap = gap;
      block = Some (10 ∷ [], block);
      first = record {
        is_gap = g;
        is_text = is;
        more = 10 ∷ (block ++ (codes "\\.\n" ++ more));
        whole = ap (λ z. gap ++ z) (append_assoc text (codes ";\n" ++ (block ++ codes "\\.\n")) more ∙ ap (λ z. text ++ (59 ∷ 10 ∷ z)) (append_assoc block (codes "\\.\n") more));
        follows = (copy, block ++ (codes "\\.\n" ++ more), record { whole = refl; is = inl (record { blanks = []; each = tt; is = refl }) }, block_is true block more lines);
      };
      is_block = refl;
    },
    refl,
  ),
)
