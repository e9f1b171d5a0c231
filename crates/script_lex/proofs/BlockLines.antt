-- Blocks, line by line.
use Rattle.std.proofs.Common.{◌≡◌, ◌⊎◌, inl, inr, ◌+◌, ◌-◌, ◌<◌, ◌≤◌, ℕ, zero, suc, Bool, true, false, List, [], ◌∷◌, ◌++◌, length, take, drop, get_or, slice_range, refl, sym, ◌∙◌, ap, subst, arith, append_assoc, length-drop, take-add, zero-add, suc-add, add-one, drop-cons}
use Rattle.std.proofs.lemmas.List.{take_more, take_all, take-append-drop}
use Rattle.std.proofs.lemmas.List.Folds.{drop_split}
use Rattle.std.proofs.lemmas.Bool.{cases_lt}
use Rattle.std.proofs.lemmas.Grind.{common_steps}
use Rattle.std.proofs.lemmas.Bool.Decides.{nat_tests}
use Rattle.std.specs.List.{AllByRecursion}
use Rattle.script_lex.specs.Bytes.{is_line_blank, is_not_line_feed, AllPass}
use Rattle.script_lex.specs.ScriptParts.{LinesSoFar, HasNoBlock}
use Rattle.script_lex.specs.Scripts.{IsLineEnd, Skips, IsEndingLine, IsBlockLine, lines_text, EndsBlock, IsCopyBlock}
use Rattle.script_lex.proofs.Runs.{AllPass-push, run_same, run_none}

ending_one : (line : List ℕ) → IsEndingLine line → AllPass is_not_line_feed line
ending_one line h = elim h [ inl e ↦ rw e (refl, (refl, tt)) | inr e ↦ rw e (refl, (refl, (refl, tt))) ]

-- no ending line begins with a line of the block
ending_no_line : (ended : Bool) (line more rest : List ℕ) → IsBlockLine line → EndsBlock ended (line ++ 10 ∷ more) rest → ⊥
ending_no_line ended line more rest h e = elim e.2 [
  | inl k ↦
      let same = run_same is_not_line_feed line e.0 more rest 10 10 h.one refl (ending_one e.0 e.1) refl k in
      h.inner (subst IsEndingLine (sym same.0) e.1)
  | inr k ↦ run_none is_not_line_feed line more 10 (subst (AllPass is_not_line_feed) (sym k.1) (ending_one e.0 e.1)) refl
]

ends_same : (ended : Bool) (tail r q : List ℕ) → EndsBlock ended tail r → EndsBlock ended tail q → r ≡ q
ends_same ended tail r q e f = elim e.2 [
  | inl k ↦ elim f.2 [
    | inl l ↦
        let same = run_same is_not_line_feed e.0 f.0 r q 10 10 (ending_one e.0 e.1) refl (ending_one f.0 f.1) refl (sym k ∙ l) in
        let heads = same.1 in (cc)
    | inr l ↦ absurd (run_none is_not_line_feed e.0 r 10 (subst (AllPass is_not_line_feed) (sym l.1 ∙ k) (ending_one f.0 f.1)) refl)
  ]
  | inr k ↦ elim f.2 [
    | inl l ↦ absurd (run_none is_not_line_feed f.0 q 10 (subst (AllPass is_not_line_feed) (sym k.1 ∙ l) (ending_one e.0 e.1)) refl)
    | inr l ↦ k.2 ∙ sym l.2
  ]
]

regroup : (line : List ℕ) (lines : List (List ℕ)) (tail : List ℕ) → lines_text (line ∷ lines) ++ tail ≡ line ++ 10 ∷ (lines_text lines ++ tail)
regroup line lines tail = append_assoc line (10 ∷ lines_text lines) tail

lines_same : (ended : Bool) (ls ms : List (List ℕ)) (x y r q : List ℕ) → AllByRecursion IsBlockLine ls → EndsBlock ended x r → AllByRecursion IsBlockLine ms → EndsBlock ended y q
    → lines_text ls ++ x ≡ lines_text ms ++ y → (ls ≡ ms) × (x ≡ y)
lines_same ended [] [] x y r q h e k f same = (refl, same)
lines_same ended [] (m ∷ ms) x y r q h e k f same =
    absurd (ending_no_line ended m (lines_text ms ++ y) r k.0 (subst (λ z. EndsBlock ended z r) (same ∙ regroup m ms y) e))
lines_same ended (l ∷ ls) [] x y r q h e k f same =
    absurd (ending_no_line ended l (lines_text ls ++ x) q h.0 (subst (λ z. EndsBlock ended z q) (sym same ∙ regroup l ls x) f))
lines_same ended (l ∷ ls) (m ∷ ms) x y r q h e k f same =
    let heads = run_same is_not_line_feed l m (lines_text ls ++ x) (lines_text ms ++ y) 10 10 h.0.one refl k.0.one refl (sym (regroup l ls x) ∙ same ∙ regroup m ms y) in
    let later : lines_text ls ++ x ≡ lines_text ms ++ y = let tails = heads.1 in (cc) in
    let rest = lines_same ended ls ms x y r q h.1 e k.1 f later in
    (ap (λ z. z ∷ ls) heads.0 ∙ ap (λ z. m ∷ z) rest.0, rest.1)

-- a block is one alone
pub block_same : (ended : Bool) (bytes b c r q : List ℕ) → IsCopyBlock ended bytes b r → IsCopyBlock ended bytes c q → (b ≡ c) × (r ≡ q)
block_same ended bytes b c r q h k =
    let same : lines_text h.lines ++ h.tail ≡ lines_text k.lines ++ k.tail = ap (λ z. z ++ h.tail) (sym h.is) ∙ sym h.whole ∙ k.whole ∙ ap (λ z. z ++ k.tail) k.is in
    let parts = lines_same ended h.lines k.lines h.tail k.tail r q h.each h.ends k.each k.ends same in
    (h.is ∙ ap lines_text parts.0 ∙ sym k.is, ends_same ended k.tail r q (subst (λ z. EndsBlock ended z r) parts.1 h.ends) k.ends)

-- a block whose ending line is whole stands, whatever follows
pub IsBlock-append : (ended : Bool) (bytes more block rest : List ℕ) → IsCopyBlock false bytes block rest → IsCopyBlock ended (bytes ++ more) block (rest ++ more)
IsBlock-append ended bytes more block rest h = record {
  lines = h.lines;
  each = h.each;
  is = h.is;
  tail = h.tail ++ more;
  whole = ap (λ z. z ++ more) h.whole ∙ append_assoc block h.tail more;
  ends = let e = h.ends in elim e.2 [
    | inl k ↦ (e.0, e.1, inl (ap (λ z. z ++ more) k ∙ append_assoc e.0 (10 ∷ rest) more))
    | inr k ↦ absurd (cc k.0)
  ];
}

-- the first line of a block or its ending line, whole
first_line : (bytes block rest : List ℕ) → IsCopyBlock false bytes block rest → (line more : List ℕ) × AllPass is_not_line_feed line × (bytes ≡ line ++ 10 ∷ more)
first_line bytes block rest h = go h.lines h.each (h.whole ∙ ap (λ z. z ++ h.tail) h.is)
  where
    go : (lines : List (List ℕ)) → AllByRecursion IsBlockLine lines → bytes ≡ lines_text lines ++ h.tail → (line more : List ℕ) × AllPass is_not_line_feed line × (bytes ≡ line ++ 10 ∷ more)
    go [] k e = let ends = h.ends in elim ends.2 [
      | inl f ↦ (ends.0, rest, ending_one ends.0 ends.1, e ∙ f)
      | inr f ↦ absurd (cc f.0)
    ]
    go (l ∷ ls) k e = (l, lines_text ls ++ h.tail, k.0.one, e ∙ regroup l ls h.tail)

blank_not_feed : (b : ℕ) → is_line_blank b ≡ true → is_not_line_feed b ≡ true
blank_not_feed b h = grind (arith, nat_tests)

blanks_one : (xs : List ℕ) → AllPass is_line_blank xs → AllPass is_not_line_feed xs
blanks_one [] h = h
blanks_one (x ∷ xs) h = (blank_not_feed x h.0, blanks_one xs h.1)

-- a line end and what follows it
end_then : (line more : List ℕ) (h : IsLineEnd line) → line ++ more ≡ h.blanks ++ 10 ∷ more
end_then line more h = ap (λ z. z ++ more) h.is ∙ append_assoc h.blanks (10 ∷ []) more

-- what is skipped stays so, whatever follows a whole line
pub Skips-append : (bytes skipped body more block rest : List ℕ) → Skips bytes skipped body → IsCopyBlock false body block rest → Skips (bytes ++ more) skipped (body ++ more)
Skips-append bytes skipped body more block rest h b = record {
  whole = ap (λ z. z ++ more) h.whole ∙ append_assoc skipped body more;
  is = elim h.is [
    | inl k ↦ inl k
    | inr k ↦ inr (
      k.0,
      λ line later end e.
          let first = first_line body block rest b in
          let here : bytes ≡ first.0 ++ 10 ∷ first.1 = h.whole ∙ ap (λ z. z ++ body) k.0 ∙ first.3 in
          let longer : first.0 ++ 10 ∷ (first.1 ++ more) ≡ end.blanks ++ 10 ∷ later = sym (append_assoc first.0 (10 ∷ first.1) more) ∙ ap (λ z. z ++ more) (sym here) ∙ e ∙ end_then line later end in
          let same = run_same is_not_line_feed first.0 end.blanks (first.1 ++ more) later 10 10 first.2 refl (blanks_one end.blanks end.each) refl longer in
          k.1 line first.1 end (here ∙ ap (λ z. z ++ 10 ∷ first.1) same.0 ∙ sym (end_then line first.1 end)),
    )
  ];
}

pub skips_same : (bytes s t b c : List ℕ) → Skips bytes s b → Skips bytes t c → (s ≡ t) × (b ≡ c)
skips_same bytes s t b c h k = elim h.is [
  | inl m ↦ elim k.is [
    | inl n ↦
        let both : m.blanks ++ 10 ∷ b ≡ n.blanks ++ 10 ∷ c = sym (end_then s b m) ∙ sym h.whole ∙ k.whole ∙ end_then t c n in
        let same = run_same is_line_blank m.blanks n.blanks b c 10 10 m.each refl n.each refl both in
        (m.is ∙ ap (λ z. z ++ 10 ∷ []) same.0 ∙ sym n.is, let tails = same.1 in (cc))
    | inr n ↦ absurd (n.1 s b m h.whole)
  ]
  | inr m ↦ elim k.is [
    | inl n ↦ absurd (m.1 t c n k.whole)
    | inr n ↦ (m.0 ∙ sym n.0, ap (λ z. z ++ b) (sym m.0) ∙ sym h.whole ∙ k.whole ∙ ap (λ z. z ++ c) n.0)
  ]
]

pub lines_start : (bytes : List ℕ) → LinesSoFar bytes 0 0
lines_start bytes = record { order = omega arith; within = omega arith; lines = []; each = tt; are = grind (arith, common_steps); open_line = subst (AllPass is_not_line_feed) (nothing (drop 0 bytes)) tt }
  where
    nothing : (xs : List ℕ) → [] ≡ take (0 - 0) xs
    nothing [] = refl
    nothing (x ∷ xs) = refl

-- a range and one byte more
range_more : (bytes : List ℕ) (from i : ℕ) → from ≤ i → i < length bytes → slice_range bytes from (i + 1) ≡ slice_range bytes from i ++ get_or bytes i 0 ∷ []
range_more bytes from i le lt =
    let here : get_or (drop from bytes) (i - from) 0 ≡ get_or bytes i 0 = get_or-drop bytes from (i - from) ∙ ap (λ z. get_or bytes z 0) (omega arith) in
    let longer : (i + 1) - from ≡ (i - from) + 1 = omega arith in
    ap (λ z. take z (drop from bytes)) longer ∙ take_more (drop from bytes) (i - from) 0 (omega (arith, length-drop from bytes)) ∙ ap (λ z. slice_range bytes from i ++ z ∷ []) here
  where
    get_or-drop : (bytes : List ℕ) (from i : ℕ) → get_or (drop from bytes) i 0 ≡ get_or bytes (from + i) 0
    get_or-drop bytes zero i = rw zero-add refl
    get_or-drop [] (suc from) i = grind (arith, common_steps)
    get_or-drop (b ∷ bytes) (suc from) i = rw suc-add (get_or-drop bytes from i)

pub lines_more : (bytes : List ℕ) (line i : ℕ) → LinesSoFar bytes line i → i < length bytes → (get_or bytes i 0 ≡ 10 → ⊥) → LinesSoFar bytes line (i + 1)
lines_more bytes line i h lt n = record {
  order = omega (arith, h.order);
  within = omega arith;
  lines = h.lines;
  each = h.each;
  are = h.are;
  open_line = subst (AllPass is_not_line_feed) (sym (range_more bytes line i h.order lt)) (AllPass-push is_not_line_feed (slice_range bytes line i) (get_or bytes i 0) h.open_line (not_feed (get_or bytes i 0) n));
}
  where
    not_feed : (b : ℕ) → (b ≡ 10 → ⊥) → is_not_line_feed b ≡ true
    not_feed b n = grind (arith, nat_tests)

lines_text-push : (lines : List (List ℕ)) (line : List ℕ) → lines_text (lines ++ line ∷ []) ≡ lines_text lines ++ (line ++ 10 ∷ [])
lines_text-push [] line = refl
lines_text-push (l ∷ lines) line = ap (λ z. l ++ 10 ∷ z) (lines_text-push lines line) ∙ sym (append_assoc l (10 ∷ lines_text lines) (line ++ 10 ∷ []))

each-push : (lines : List (List ℕ)) (line : List ℕ) → AllByRecursion IsBlockLine lines → IsBlockLine line → AllByRecursion IsBlockLine (lines ++ line ∷ [])
each-push [] line h k = (k, tt)
each-push (l ∷ lines) line h k = (h.0, each-push lines line h.1 k)

-- the front of a list, up to a place and from there to another
front_parted : (bytes : List ℕ) (line i : ℕ) → line ≤ i → take i bytes ≡ take line bytes ++ slice_range bytes line i
front_parted bytes line i le = ap (λ z. take z bytes) (omega arith) ∙ take-add line (i - line) bytes

pub line_more : (bytes : List ℕ) (line i : ℕ) → LinesSoFar bytes line i → i < length bytes → get_or bytes i 0 ≡ 10 → (IsEndingLine (slice_range bytes line i) → ⊥) → LinesSoFar bytes (i + 1) (i + 1)
line_more bytes line i h lt feed inner = record {
  order = omega arith;
  within = omega arith;
  lines = h.lines ++ slice_range bytes line i ∷ [];
  each = each-push h.lines (slice_range bytes line i) h.each (record { one = h.open_line; inner = inner });
  are =
      let feed_last : slice_range bytes line (i + 1) ≡ slice_range bytes line i ++ 10 ∷ [] = subst (λ z. slice_range bytes line (i + 1) ≡ slice_range bytes line i ++ z ∷ []) feed (range_more bytes line i h.order lt) in
      let order = h.order in
      front_parted bytes line (i + 1) (omega arith) ∙ ap (λ z. z ++ slice_range bytes line (i + 1)) h.are ∙ ap (λ z. lines_text h.lines ++ z) feed_last ∙ sym (lines_text-push h.lines (slice_range bytes line i));
  open_line = subst (AllPass is_not_line_feed) (nothing (i + 1) (drop (i + 1) bytes)) tt;
}
  where
    nothing : (n : ℕ) (xs : List ℕ) → [] ≡ take (n - n) xs
    nothing n [] = grind (arith, common_steps)
    nothing n (x ∷ xs) = grind (arith, common_steps)

parted_at : (bytes : List ℕ) (line i : ℕ) → line ≤ i → i < length bytes → get_or bytes i 0 ≡ 10 → drop line bytes ≡ slice_range bytes line i ++ 10 ∷ drop (i + 1) bytes
parted_at bytes line i le lt feed =
    drop_split bytes line i le ∙ ap (λ z. slice_range bytes line i ++ z) (subst (λ z. drop i bytes ≡ z ∷ drop (i + 1) bytes) feed (headed bytes i lt))
  where
    headed : (bytes : List ℕ) (i : ℕ) → i < length bytes → drop i bytes ≡ get_or bytes i 0 ∷ drop (i + 1) bytes
    headed bytes i lt = rw (add-one, drop-cons bytes i 0) refl

pub block_found : (ended : Bool) (bytes : List ℕ) (line i : ℕ) → LinesSoFar bytes line i → i < length bytes → get_or bytes i 0 ≡ 10 → IsEndingLine (slice_range bytes line i) → IsCopyBlock ended bytes (take line bytes) (drop (i + 1) bytes)
block_found ended bytes line i h lt feed ends = record {
  lines = h.lines;
  each = h.each;
  is = h.are;
  tail = drop line bytes;
  whole = sym (take-append-drop line bytes);
  ends = (slice_range bytes line i, ends, inl (parted_at bytes line i h.order lt feed));
}

-- the last line, which has no line feed
last_line : (bytes : List ℕ) (line : ℕ) → slice_range bytes line (length bytes) ≡ drop line bytes
last_line bytes line = take_all (length bytes - line) (drop line bytes) (omega (arith, length-drop line bytes))

pub block_at_end : (bytes : List ℕ) (line : ℕ) → LinesSoFar bytes line (length bytes) → IsEndingLine (slice_range bytes line (length bytes)) → IsCopyBlock true bytes (take line bytes) (drop (length bytes) bytes)
block_at_end bytes line h ends = record {
  lines = h.lines;
  each = h.each;
  is = h.are;
  tail = drop line bytes;
  whole = sym (take-append-drop line bytes);
  ends = (slice_range bytes line (length bytes), ends, inr (refl, sym (last_line bytes line), grind (arith, common_steps)));
}

-- lines of a block, and a last one without line feed that doesn't end it
no_ending : (ended : Bool) (ls ms : List (List ℕ)) (x y r : List ℕ) → AllByRecursion IsBlockLine ls → AllPass is_not_line_feed x → (ended ≡ true → IsEndingLine x → ⊥) → AllByRecursion IsBlockLine ms → EndsBlock ended y r
    → lines_text ls ++ x ≡ lines_text ms ++ y → ⊥
no_ending ended [] [] x y r h o n k e same = elim e.2 [
  | inl f ↦ run_none is_not_line_feed e.0 r 10 (subst (AllPass is_not_line_feed) (same ∙ f) o) refl
  | inr f ↦ n f.0 (subst IsEndingLine (sym (same ∙ f.1)) e.1)
]
no_ending ended [] (m ∷ ms) x y r h o n k e same = run_none is_not_line_feed m (lines_text ms ++ y) 10 (subst (AllPass is_not_line_feed) (same ∙ regroup m ms y) o) refl
no_ending ended (l ∷ ls) [] x y r h o n k e same = ending_no_line ended l (lines_text ls ++ x) r h.0 (subst (λ z. EndsBlock ended z r) (sym same ∙ regroup l ls x) e)
no_ending ended (l ∷ ls) (m ∷ ms) x y r h o n k e same =
    let heads = run_same is_not_line_feed l m (lines_text ls ++ x) (lines_text ms ++ y) 10 10 h.0.one refl k.0.one refl (sym (regroup l ls x) ∙ same ∙ regroup m ms y) in
    let later : lines_text ls ++ x ≡ lines_text ms ++ y = let tails = heads.1 in (cc) in
    no_ending ended ls ms x y r h.1 o n k.1 e later

pub no_block : (ended : Bool) (bytes : List ℕ) (line : ℕ) → LinesSoFar bytes line (length bytes) → (ended ≡ true → IsEndingLine (slice_range bytes line (length bytes)) → ⊥) → HasNoBlock ended bytes
no_block ended bytes line h n = record {
  none = λ block rest k.
      let same : lines_text h.lines ++ slice_range bytes line (length bytes) ≡ lines_text k.lines ++ k.tail =
      ap (λ z. z ++ slice_range bytes line (length bytes)) (sym h.are) ∙ ap (λ z. take line bytes ++ z) (last_line bytes line) ∙ take-append-drop line bytes ∙ k.whole ∙ ap (λ z. z ++ k.tail) k.is in
      no_ending ended h.lines k.lines (slice_range bytes line (length bytes)) k.tail rest h.each h.open_line n k.each k.ends same;
}

-- the rest of a blank line
pub skips_line : (bytes : List ℕ) (n : ℕ) → n < length bytes → AllPass is_line_blank (take n bytes) → get_or bytes n 0 ≡ 10 → Skips bytes (take (n + 1) bytes) (drop (n + 1) bytes)
skips_line bytes n lt each feed = record {
  whole = sym (take-append-drop (n + 1) bytes);
  is = inl (record { blanks = take n bytes; each = each; is = subst (λ z. take (n + 1) bytes ≡ take n bytes ++ z ∷ []) feed (take_more bytes n 0 lt) });
}

pub skips_none : (bytes : List ℕ) (n : ℕ) → AllPass is_line_blank (take n bytes) → (n < length bytes → is_line_blank (get_or bytes n 0) ≡ false) → (n < length bytes → get_or bytes n 0 ≡ 10 → ⊥) → n ≤ length bytes → Skips bytes (take 0 bytes) (drop 0 bytes)
skips_none bytes n each stop other le = record {
  whole = sym (take-append-drop 0 bytes);
  is = inr (nothing bytes, λ line more end e. go line more end e (cases_lt n (length bytes)));
}
  where
    nothing : (xs : List ℕ) → take 0 xs ≡ []
    nothing [] = refl
    nothing (x ∷ xs) = refl

    go : (line more : List ℕ) (end : IsLineEnd line) → bytes ≡ line ++ more → (n < length bytes) ⊎ (length bytes ≤ n) → ⊥
    go line more end e c = elim c [
      | inl lt ↦
          let parts : bytes ≡ take n bytes ++ get_or bytes n 0 ∷ drop (n + 1) bytes = sym (take-append-drop n bytes) ∙ ap (λ z. take n bytes ++ z) (rw (add-one, drop-cons bytes n 0) refl) in
          let same = run_same is_line_blank (take n bytes) end.blanks (drop (n + 1) bytes) more (get_or bytes n 0) 10 each (stop lt) end.each refl (sym parts ∙ e ∙ end_then line more end) in
          let heads = same.1 in
          other lt (cc)
      | inr ge ↦ run_none is_line_blank end.blanks more 10 (subst (AllPass is_line_blank) (take_all n bytes ge ∙ e ∙ end_then line more end) each) refl
    ]
