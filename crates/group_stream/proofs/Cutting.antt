-- Lines, and what is held of them.
use Rattle.std.proofs.Common.{◌≡◌, ℕ, zero, suc, ◌+◌, ◌-◌, ◌<◌, ◌≤◌, ◌==◌, Bool, true, false, cond, List, [], ◌∷◌, ◌++◌, take, drop, take-append-drop, drop-cons, get_or, length, refl, sym, ◌∙◌, ap, subst, arith, append_assoc, inl, inr}
use Rattle.std.specs.Prelude.{nat_lt}
use Rattle.std.specs.List.{AllByRecursion, flat_map}
use Rattle.std.proofs.lemmas.List.{length-take}
use Rattle.std.proofs.lemmas.List.{take_more as take_more_of}
use Rattle.std.proofs.lemmas.Bool.Decides.{nat_tests}
use Rattle.cqa_value.proofs.Words.{cases_le}
use Rattle.cnf_form.specs.Lines.{front, is_comment, line_of, lines, tokens}
use Rattle.group_text.specs.Saying.{Said, said, said_by, said_within}
use Rattle.group_text.specs.Saying.Said.{Skipped}
use Rattle.group_text.proofs.Parts.{split_line}
use Rattle.group_stream.specs.Cuts.{CutsAreLines, IsLine, ended_line, last_line}

-- ---- lines

pub line_joins : (l m : List ℕ) → IsLine l → IsLine m → IsLine (l ++ m)
line_joins [] m a b = b
line_joins (x ∷ l) m a b = ap (λ (c : Bool). cond c [] (x ∷ line_of (l ++ m))) (split_line x l a).0 ∙ ap (λ (xs : List ℕ). x ∷ xs) (line_joins l m (split_line x l a).1 b)

one_line : (l rest : List ℕ) → IsLine l → lines (l ++ 10 ∷ rest) ≡ l ∷ lines rest
one_line [] rest a = refl
one_line (x ∷ l) rest a = ap (λ (c : Bool). cond c ([] ∷ lines (l ++ 10 ∷ rest)) (front x (lines (l ++ 10 ∷ rest)))) (split_line x l a).0 ∙ ap (front x) (one_line l rest (split_line x l a).1)

rest_line : (l : List ℕ) → IsLine l → lines l ≡ last_line l
rest_line [] a = refl
rest_line (x ∷ l) a = ap (λ (c : Bool). cond c ([] ∷ lines l) (front x (lines l))) (split_line x l a).0 ∙ ap (front x) (rest_line l (split_line x l a).1) ∙ joined l
  where
    joined : (m : List ℕ) → front x (last_line m) ≡ (x ∷ m) ∷ []
    joined [] = refl
    joined (y ∷ m) = refl

pub cuts_are_lines : CutsAreLines
cuts_are_lines bytes done rest cut = ap lines cut.bytes_are ∙ go done cut.each
  where
    go : (ls : List (List ℕ)) → AllByRecursion IsLine ls → lines (flat_map ended_line ls ++ rest) ≡ ls ++ last_line rest
    go [] each = rest_line rest cut.rest_is
    go (l ∷ ls) each =
        ap lines (append_assoc (ended_line l) (flat_map ended_line ls) rest ∙ append_assoc l (10 ∷ []) (flat_map ended_line ls ++ rest)) ∙ one_line l (flat_map ended_line ls ++ rest) each.0
        ∙ ap (λ (ms : List (List ℕ)). l ∷ ms) (go ls each.1)

-- ---- what is held

-- the first bytes of what joins
pub take_more : (n : ℕ) (xs ys : List ℕ) → take n xs ++ take (n - length (take n xs)) ys ≡ take n (xs ++ ys)
take_more zero xs ys = refl
take_more (suc n) [] ys = let e : suc n - 0 ≡ suc n = omega arith in ap (λ k. take k ys) e
take_more (suc n) (x ∷ xs) ys =
    let e : suc n - length (x ∷ take n xs) ≡ n - length (take n xs) = omega arith in
    ap (λ (zs : List ℕ). x ∷ zs) (ap (λ k. take n xs ++ take k ys) e ∙ take_more n xs ys)

pub take_none : (n : ℕ) (xs : List ℕ) → take (suc n) xs ≡ [] → xs ≡ []
take_none n [] e = refl
take_none n (x ∷ xs) e = cc

pub take_short : (n : ℕ) (xs : List ℕ) → length xs ≤ n → take n xs ≡ xs
take_short zero [] h = refl
take_short zero (x ∷ xs) h = absurd (omega (arith, h))
take_short (suc n) [] h = refl
take_short (suc n) (x ∷ xs) h = ap (λ (ys : List ℕ). x ∷ ys) (take_short n xs (omega (arith, h)))

take_twice : (n : ℕ) (xs : List ℕ) → take n (take (suc n) xs) ≡ take n xs
take_twice zero xs = refl
take_twice (suc n) [] = refl
take_twice (suc n) (x ∷ xs) = ap (λ (ys : List ℕ). x ∷ ys) (take_twice n xs)

comment_kept : (n : ℕ) (xs : List ℕ) → is_comment (take (suc n) xs) ≡ is_comment xs
comment_kept n [] = refl
comment_kept n (x ∷ xs) = refl

less : (a b : ℕ) → a < b → nat_lt a b ≡ true
less a b h = grind (arith, nat_tests, h)

-- what a line says, where so many bytes are allowed
abbrev said_at : ℕ → List ℕ → Said
said_at n l = cond (is_comment l) Skipped (cond (nat_lt n (length l)) (said_within (take n l)) (said_by (tokens l)))

kept : (n : ℕ) (l : List ℕ) → said_at n (take (suc n) l) ≡ said_at n l
kept n l = elim (cases_le (length l) (suc n)) [
  | inl short ↦ ap (said_at n) (take_short (suc n) l short)
  | inr long ↦ both (omega (arith, length-take (suc n) l, long)) (omega (arith, long))
]
  where
    within : (m : List ℕ) → n < length m → said_at n m ≡ cond (is_comment m) Skipped (said_within (take n m))
    within m h = ap (λ (c : Bool). cond (is_comment m) Skipped (cond c (said_within (take n m)) (said_by (tokens m)))) (less n (length m) h)

    both : n < length (take (suc n) l) → n < length l → said_at n (take (suc n) l) ≡ said_at n l
    both h k =
        within (take (suc n) l) h ∙ ap (λ (c : Bool). cond c Skipped (said_within (take n (take (suc n) l)))) (comment_kept n l)
        ∙ ap (λ (m : List ℕ). cond (is_comment l) Skipped (said_within m)) (take_twice n l) ∙ sym (within l k)

-- what is held of a line tells what it says
pub said_kept : (l : List ℕ) → said (take 16777217 l) ≡ said l
said_kept l = kept 16777216 l

-- ---- the first line of a text

pub line_step : (t : List ℕ) (n : ℕ) → n < length t → (get_or t n 0 == 10) ≡ false → IsLine (take n t) → IsLine (take (n + 1) t)
line_step t n l e is = subst IsLine (sym (take_more_of t n 0 l)) (line_joins (take n t) (get_or t n 0 ∷ []) is (ap (λ (c : Bool). cond c [] (get_or t n 0 ∷ [])) e))

pub cut_at : (t : List ℕ) (n : ℕ) → n < length t → get_or t n 0 ≡ 10 → t ≡ ended_line (take n t) ++ drop (n + 1) t
cut_at t n l e =
    let s : n + 1 ≡ suc n = omega arith in
    sym (take-append-drop n t) ∙ ap (λ (xs : List ℕ). take n t ++ xs) (drop-cons t n 0 l ∙ ap (λ b. b ∷ drop (suc n) t) e) ∙ sym (append_assoc (take n t) (10 ∷ []) (drop (suc n) t)) ∙ ap (λ k. ended_line (take n t) ++ drop k t) (sym s)
