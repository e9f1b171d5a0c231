-- The rows that can stand in a block, and the others.
use Rattle.std.proofs.Common.{◌≡◌, ◌++◌, ◌∙◌, ◌∷◌, [], ℕ, Bool, true, false, inl, inr, not, List, codes, refl, ap, append_assoc}
use Rattle.std.proofs.lemmas.Bool.{cases_Bool, true≢false}
use Rattle.std.specs.List.{filter, list_any}
use Rattle.cqa_value.specs.declared.value.Value.{Value}
use Rattle.csv_rows.specs.Ends.{plain_rows, row_has_end}
use Rattle.csv_rows.specs.Texts.{rows_bytes}
use Rattle.csv_rows.specs.Dumps.{copy_text}

-- five pieces, one after the other
pub appended : (old a b c d e x1 x2 x3 x4 x5 : List ℕ) → x1 ≡ old ++ a → x2 ≡ x1 ++ b → x3 ≡ x2 ++ c → x4 ≡ x3 ++ d → x5 ≡ x4 ++ e → x5 ≡ old ++ (a ++ b ++ c ++ d ++ e)
appended old a b c d e x1 x2 x3 x4 x5 e1 e2 e3 e4 e5 = two old (a ++ b ++ c ++ d) x4 e x5 (two old (a ++ b ++ c) x3 d x4 (two old (a ++ b) x2 c x3 (two old a x1 b x2 e1 e2) e3) e4) e5
  where
    two : (old piece now rest new : List ℕ) → now ≡ old ++ piece → new ≡ now ++ rest → new ≡ old ++ (piece ++ rest)
    two old piece now rest new before after = after ∙ ap (λ l. l ++ rest) before ∙ append_assoc old piece rest

-- where no item passes, none is kept
none_kept : {X : Type 0} (test : X → Bool) (xs : List X) → list_any test xs ≡ false → filter test xs ≡ []
none_kept test [] none = refl
none_kept test (x ∷ xs) none = elim (cases_Bool (test x)) [
  | inl is ↦ absurd (true≢false (rw is at none))
  | inr is ↦ rw is (none_kept test xs (rw is at none))
]

-- where no row can stand in a block, none is copied
pub copy_none : (name : List ℕ) (rows : List (List Value)) → list_any (λ row. not (row_has_end row)) rows ≡ false → copy_text name (plain_rows rows) ≡ []
copy_none name rows none = ap (copy_text name) (none_kept (λ row. not (row_has_end row)) rows none)

-- where a row can, a block is copied
pub copy_some : (name : List ℕ) (rows : List (List Value)) → list_any (λ row. not (row_has_end row)) rows ≡ true → copy_text name (plain_rows rows) ≡ codes "copy " ++ name ++ codes ";\n" ++ rows_bytes (plain_rows rows) ++ codes "\\.\n"
copy_some name [] some = absurd (cc some)
copy_some name (row ∷ rows) some = elim (cases_Bool (not (row_has_end row))) [
  | inl is ↦ rw is refl
  | inr is ↦ rw is (copy_some name rows (rw is at some))
]
