-- The records of rows that can stand in a block are lines of a block.
use Rattle.std.proofs.Common.{◌≡◌, ◌⊎◌, inl, inr, ◌==◌, not, ℕ, Bool, true, false, List, [], ◌∷◌, ◌++◌, Contains, codes, map, refl, sym, ap, ◌∙◌, subst, arith, append_assoc, nat_eq}
use Rattle.std.proofs.lemmas.Bool.Decides.{nat_tests}
use Rattle.std.specs.List.{AllByRecursion, flat_map}
use Rattle.std.proofs.lemmas.List.Folds.{flat_map-map}
use Rattle.std.proofs.lemmas.Bool.{not-true, or_from, or_parts}
use Rattle.cqa_value.specs.declared.value.Value.{Value}
use Rattle.cqa_value.specs.declared.value.Value.TheVariants.{Int, Text}
use Rattle.cqa_value.specs.Valid.{IsValidValue}
use Rattle.cqa_value.proofs.Words.{mem-tail, mem-head, clash, Contains-filter}
use Rattle.cqa_value.proofs.Integers.{fits_to}
use Rattle.script_lex.specs.Bytes.{is_not_line_feed, is_digit, AllPass}
use Rattle.script_lex.specs.Scripts.{IsEndingLine, IsBlockLine, lines_text, IsCopyBlock}
use Rattle.script_lex.proofs.Runs.{AllPass-push}
use Rattle.csv_rows.specs.Ends.{begins_with_end, has_end, value_has_end, row_has_end, plain_rows}
use Rattle.csv_rows.specs.Texts.{quotes_doubled, field_bytes, record_bytes, rows_bytes, value_bytes}
use Rattle.reading_law.proofs.Numbers.{is_written, IsWritten}

-- the bytes are lines of a block
pub record AreLines (bytes : List ℕ) : Type 0 where
  pub lines : List (List ℕ)
  pub each : AllByRecursion IsBlockLine lines
  pub is : bytes ≡ lines_text lines

pub no_lines : AreLines []
no_lines = record { lines = []; each = tt; is = refl }

pub one_line : (line rest : List ℕ) → IsBlockLine line → AreLines rest → AreLines (line ++ 10 ∷ rest)
one_line line rest l h = record { lines = line ∷ h.lines; each = (l, h.each); is = ap (λ z. line ++ 10 ∷ z) h.is }

-- a line that holds a double quote ends no block
abbrev Holds : List ℕ → Type 0
Holds [] = ⊥
Holds (b ∷ bytes) = (b ≡ 34) ⊎ Holds bytes

holds_last : (bytes : List ℕ) → Holds (bytes ++ 34 ∷ [])
holds_last [] = inl refl
holds_last (b ∷ bytes) = inr (holds_last bytes)

holds_more : (bytes more : List ℕ) → Holds bytes → Holds (bytes ++ more)
holds_more [] more h = absurd h
holds_more (b ∷ bytes) more (inl e) = inl e
holds_more (b ∷ bytes) more (inr h) = inr (holds_more bytes more h)

no_end : (line : List ℕ) → Holds line → IsEndingLine line → ⊥
no_end line h (inl e) = never (subst Holds e h)
  where
    never : Holds (codes "\\.") → ⊥
    never (inl e) = omega (arith, e)
    never (inr (inl e)) = omega (arith, e)
    never (inr (inr e)) = e
no_end line h (inr e) = never (subst Holds e h)
  where
    never : Holds (codes "\\.\r") → ⊥
    never (inl e) = omega (arith, e)
    never (inr (inl e)) = omega (arith, e)
    never (inr (inr (inl e))) = omega (arith, e)
    never (inr (inr (inr e))) = e

not_10 : (b : ℕ) → (b == 10) ≡ false → is_not_line_feed b ≡ true
not_10 b e = rw e refl

is_10 : (b : ℕ) → (b == 10) ≡ true → b ≡ 10
is_10 b e = grind (arith, nat_tests)

is_34 : (b : ℕ) → (b == 34) ≡ true → b ≡ 34
is_34 b e = grind (arith, nat_tests)

-- behind an open line that holds a double quote the bytes are lines
abbrev Closes : List ℕ → Type 0
Closes bytes = (line : List ℕ) → AllPass is_not_line_feed line → Holds line → AreLines (line ++ bytes)

closes_feed : (rest : List ℕ) → AreLines rest → Closes (10 ∷ rest)
closes_feed rest h line a q = one_line line rest (record { one = a; inner = no_end line q }) h

closes_more : (b : ℕ) (bytes : List ℕ) → is_not_line_feed b ≡ true → Closes bytes → Closes (b ∷ bytes)
closes_more b bytes e f line a q = subst AreLines (append_assoc line (b ∷ []) bytes) (f (line ++ b ∷ []) (AllPass-push is_not_line_feed line b a e) (holds_more line (b ∷ []) q))

end_later : (xs ys : List ℕ) → has_end (xs ++ ys) ≡ false → has_end ys ≡ false
end_later [] ys e = e
end_later (x ∷ xs) ys e = end_later xs ys (or_parts (begins_with_end (x ∷ (xs ++ ys))) (has_end (xs ++ ys)) e).1

-- a line between two line feeds of a text without an end
line_between : (line rest : List ℕ) → has_end (10 ∷ (line ++ 10 ∷ rest)) ≡ false → IsEndingLine line → ⊥
line_between line rest e (inl h) = clash (has_end (10 ∷ (line ++ 10 ∷ rest))) (rw h refl) e
line_between line rest e (inr h) = clash (has_end (10 ∷ (line ++ 10 ∷ rest))) (rw h refl) e

-- what stands in a field, from an open line that holds a double quote, or from a line that holds what the text has had since a line feed
pub record InField (text more : List ℕ) : Type 0 where
  pub safe : has_end text ≡ false → Closes (quotes_doubled text ++ 34 ∷ more)
  pub fresh : (line : List ℕ) → has_end (10 ∷ (line ++ text)) ≡ false → AllPass is_not_line_feed line → AreLines (line ++ (quotes_doubled text ++ 34 ∷ more))

in_field : (text more : List ℕ) → Closes more → InField text more
in_field [] more f = record {
  safe = λ e. closes_more 34 more refl f;
  fresh = λ line e a. subst AreLines (append_assoc line (34 ∷ []) more) (f (line ++ 34 ∷ []) (AllPass-push is_not_line_feed line 34 a refl) (holds_last line));
}
in_field (b ∷ text) more f = go (b == 10) (b == 34) refl refl (in_field text more f)
  where
    go : (t u : Bool) → (b == 10) ≡ t → (b == 34) ≡ u → InField text more → InField (b ∷ text) more
    go true u e k h =
        let ten = is_10 b e in
        let out : quotes_doubled (b ∷ text) ≡ 10 ∷ quotes_doubled text = rw ten refl in
        record {
          safe = λ n. subst (λ z. Closes (z ++ 34 ∷ more)) (sym out) (closes_feed (quotes_doubled text ++ 34 ∷ more) (h.fresh [] (subst (λ z. has_end (z ∷ text) ≡ false) ten n) tt));
          fresh = λ line n a.
              let n2 : has_end (10 ∷ (line ++ 10 ∷ text)) ≡ false = subst (λ z. has_end (10 ∷ (line ++ z ∷ text)) ≡ false) ten n in
              subst (λ z. AreLines (line ++ (z ++ 34 ∷ more))) (sym out)
              (one_line line (quotes_doubled text ++ 34 ∷ more) (record { one = a; inner = line_between line text n2 }) (h.fresh [] (end_later (10 ∷ line) (10 ∷ text) n2) tt));
        }
    go false true e k h =
        let is = is_34 b k in
        let out : quotes_doubled (b ∷ text) ≡ 34 ∷ 34 ∷ quotes_doubled text = rw is refl in
        record {
          safe = λ n. subst (λ z. Closes (z ++ 34 ∷ more)) (sym out) (closes_more 34 (34 ∷ (quotes_doubled text ++ 34 ∷ more)) refl (closes_more 34 (quotes_doubled text ++ 34 ∷ more) refl (h.safe (end_later (b ∷ []) text n))));
          fresh = λ line n a.
              subst (λ z. AreLines (line ++ (z ++ 34 ∷ more))) (sym out)
              (subst AreLines (append_assoc line (34 ∷ []) (34 ∷ (quotes_doubled text ++ 34 ∷ more)))
              (closes_more 34 (quotes_doubled text ++ 34 ∷ more) refl (h.safe (end_later (10 ∷ (line ++ b ∷ [])) text (subst (λ z. has_end (10 ∷ z) ≡ false) (sym (append_assoc line (b ∷ []) text)) n))) (line ++ 34 ∷ []) (AllPass-push is_not_line_feed line 34 a refl) (holds_last line)));
        }
    go false false e k h =
        let out : quotes_doubled (b ∷ text) ≡ b ∷ quotes_doubled text = rw k refl in
        record {
          safe = λ n. subst (λ z. Closes (z ++ 34 ∷ more)) (sym out) (closes_more b (quotes_doubled text ++ 34 ∷ more) (not_10 b e) (h.safe (end_later (b ∷ []) text n)));
          fresh = λ line n a.
              subst (λ z. AreLines (line ++ (z ++ 34 ∷ more))) (sym out)
              (subst AreLines (append_assoc line (b ∷ []) (quotes_doubled text ++ 34 ∷ more))
              (h.fresh (line ++ b ∷ []) (subst (λ z. has_end (10 ∷ z) ≡ false) (sym (append_assoc line (b ∷ []) text)) n) (AllPass-push is_not_line_feed line b a (not_10 b e))));
        }

-- fields, each behind a comma, and a line feed
abbrev tail_bytes : List (List ℕ) → List ℕ
tail_bytes fields = flat_map (λ field. (44 ∷ []) ++ field_bytes field) fields ++ 10 ∷ []

-- no field has a line that ends a block
abbrev pub NoEnds : List (List ℕ) → Type 0
NoEnds fields = AllByRecursion (λ field. has_end field ≡ false) fields

field_then : (field more : List ℕ) → field_bytes field ++ more ≡ 34 ∷ (quotes_doubled field ++ 34 ∷ more)
field_then field more = ap (λ z. 34 ∷ z) (append_assoc (quotes_doubled field) (34 ∷ []) more)

tail_closes : (fields : List (List ℕ)) (rest : List ℕ) → NoEnds fields → AreLines rest → Closes (tail_bytes fields ++ rest)
tail_closes [] rest n h = closes_feed rest h
tail_closes (field ∷ fields) rest n h =
    let more = tail_bytes fields ++ rest in
    let text : tail_bytes (field ∷ fields) ++ rest ≡ 44 ∷ 34 ∷ (quotes_doubled field ++ 34 ∷ more) =
    ap (λ z. 44 ∷ z) (ap (λ z. z ++ rest) (append_assoc (field_bytes field) (flat_map (λ f. (44 ∷ []) ++ field_bytes f) fields) (10 ∷ [])) ∙ append_assoc (field_bytes field) (tail_bytes fields) rest ∙ field_then field more) in
    subst Closes (sym text)
    (closes_more 44 (34 ∷ (quotes_doubled field ++ 34 ∷ more)) refl (closes_more 34 (quotes_doubled field ++ 34 ∷ more) refl ((in_field field more (tail_closes fields rest n.1 h)).safe n.0)))

first_lines : (field more : List ℕ) → has_end field ≡ false → Closes more → AreLines (34 ∷ (quotes_doubled field ++ 34 ∷ more))
first_lines field more n f = (in_field field more f).safe n (34 ∷ []) (refl, tt) (inl refl)

-- a record is lines of a block
record_lines : (fields : List (List ℕ)) (rest : List ℕ) → NoEnds fields → AreLines rest → AreLines (record_bytes fields ++ rest)
record_lines [] rest n h = first_lines [] (10 ∷ rest) refl (closes_feed rest h)
record_lines (field ∷ fields) rest n h =
    let more = tail_bytes fields ++ rest in
    let text : record_bytes (field ∷ fields) ++ rest ≡ 34 ∷ (quotes_doubled field ++ 34 ∷ more) =
    ap (λ z. z ++ rest) (append_assoc (field_bytes field) (flat_map (λ f. (44 ∷ []) ++ field_bytes f) fields) (10 ∷ [])) ∙ append_assoc (field_bytes field) (tail_bytes fields) rest ∙ field_then field more in
    subst AreLines (sym text) (first_lines field more n.0 (tail_closes fields rest n.1 h))

pub records_lines : (records : List (List (List ℕ))) → AllByRecursion NoEnds records → AreLines (flat_map record_bytes records)
records_lines [] a = no_lines
records_lines (fields ∷ records) a = record_lines fields (flat_map record_bytes records) a.0 (records_lines records a.1)

-- lines, an ending line and a rest
pub block_is : (ended : Bool) (block rest : List ℕ) → AreLines block → IsCopyBlock ended (block ++ (codes "\\.\n" ++ rest)) block rest
block_is ended block rest h = record {
  lines = h.lines;
  each = h.each;
  is = h.is;
  tail = codes "\\.\n" ++ rest;
  whole = refl;
  ends = (codes "\\.", inl refl, inl refl);
}

no_feed_first : (b : ℕ) (bytes : List ℕ) → is_not_line_feed b ≡ true → begins_with_end (b ∷ bytes) ≡ false
no_feed_first b bytes h = let n : nat_eq 10 b ≡ false = grind (arith, nat_tests) in rw n refl

-- bytes without a line feed have no line that ends a block
no_feeds : (bytes : List ℕ) → AllPass is_not_line_feed bytes → has_end bytes ≡ false
no_feeds [] a = refl
no_feeds (b ∷ bytes) a = or_from (begins_with_end (b ∷ bytes)) (has_end bytes) (no_feed_first b bytes a.0) (no_feeds bytes a.1)

digit_no_feed : (b : ℕ) → is_digit b ≡ true → is_not_line_feed b ≡ true
digit_no_feed b h = grind (arith, nat_tests)

digits_no_feed : (bytes : List ℕ) → AllPass is_digit bytes → AllPass is_not_line_feed bytes
digits_no_feed [] a = tt
digits_no_feed (b ∷ bytes) a = (digit_no_feed b a.0, digits_no_feed bytes a.1)

number_no_end : (bytes : List ℕ) → IsWritten bytes → has_end bytes ≡ false
number_no_end bytes w = no_feeds bytes (elim w.is [
  | inl e ↦ subst (AllPass is_not_line_feed) (sym e) (digits_no_feed (w.digit ∷ w.digits) w.each)
  | inr e ↦ subst (AllPass is_not_line_feed) (sym e) (refl, digits_no_feed (w.digit ∷ w.digits) w.each)
])

value_no_end : (v : Value) → IsValidValue v → value_has_end v ≡ false → has_end (value_bytes v) ≡ false
value_no_end (Int n) valid h = number_no_end (value_bytes (Int n)) (is_written n (fits_to n valid))
value_no_end (Text t) valid h = h

row_no_ends : (row : List Value) → AllByRecursion IsValidValue row → row_has_end row ≡ false → NoEnds (map value_bytes row)
row_no_ends [] valid h = tt
row_no_ends (v ∷ row) valid h = let k = or_parts (value_has_end v) (row_has_end row) h in (value_no_end v valid.0 k.0, row_no_ends row valid.1 k.1)

-- the rows that can stand in a block
pub plain_no_end : (rows : List (List Value)) (row : List Value) → Contains (plain_rows rows) row → row_has_end row ≡ false
plain_no_end rows row m = not-true (row_has_end row) ((Contains-filter (λ r. not (row_has_end r)) rows row).0 m).1

each_no_ends : (rows : List (List Value)) → ((row : List Value) → Contains rows row → AllByRecursion IsValidValue row × (row_has_end row ≡ false)) → AllByRecursion NoEnds (map (map value_bytes) rows)
each_no_ends [] h = tt
each_no_ends (row ∷ rows) h = (row_no_ends row (h row (mem-head row rows)).0 (h row (mem-head row rows)).1, each_no_ends rows (λ x m. h x (mem-tail x row rows m)))

-- what is written of such rows is lines of a block
pub rows_lines : (rows : List (List Value)) → ((row : List Value) → Contains rows row → AllByRecursion IsValidValue row × (row_has_end row ≡ false)) → AreLines (rows_bytes rows)
rows_lines rows h = subst AreLines (flat_map-map record_bytes (map value_bytes) rows) (records_lines (map (map value_bytes) rows) (each_no_ends rows h))
