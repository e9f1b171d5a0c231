-- What follows the blanks and the token that a text begins with.
use Rattle.std.proofs.Common.{◌≡◌, ℕ, suc, ◌<◌, ◌≤◌, ◌-◌, ◌==◌, ◌||◌, Bool, true, false, cond, List, [], ◌∷◌, refl, sym, ◌∙◌, ap, arith, length, get_or, take, drop, eq-eqb}
use Rattle.std.proofs.lemmas.List.{take_all}
use Rattle.std.proofs.lemmas.Bool.{ne_eqb}
use Rattle.cnf_form.specs.Lines.{after_blanks, after_line, after_token, begins_blank, ends_token, front, is_blank, line_of, token_of, tokens}
use Rattle.cnf_form.specs.Scans.{IsNextToken, cons_token}

-- no blank is an LF
not_both : (b : ℕ) → is_blank b ≡ true → (b == 10) ≡ false
not_both b h = grind (arith)

blank_line : (b : ℕ) (bs : List ℕ) → is_blank b ≡ true → tokens (line_of (b ∷ bs)) ≡ tokens (line_of bs)
blank_line b bs h = ap (λ (c : Bool). tokens (cond c [] (b ∷ line_of bs))) (not_both b h)
    ∙ ap (λ (c : Bool). cond c (tokens (line_of bs)) (cond (begins_blank (line_of bs)) ((b ∷ []) ∷ tokens (line_of bs)) (front b (tokens (line_of bs))))) h

pub blanks_tokens : (bs : List ℕ) → tokens (line_of bs) ≡ tokens (line_of (after_blanks bs))
blanks_tokens [] = refl
blanks_tokens (b ∷ bs) = go (is_blank b) refl (blanks_tokens bs)
  where
    go : (c : Bool) → is_blank b ≡ c → tokens (line_of bs) ≡ tokens (line_of (after_blanks bs)) → tokens (line_of (b ∷ bs)) ≡ tokens (line_of (cond c (after_blanks bs) (b ∷ bs)))
    go true h r = blank_line b bs h ∙ r
    go false h r = refl

pub blanks_line : (bs : List ℕ) → after_line bs ≡ after_line (after_blanks bs)
blanks_line [] = refl
blanks_line (b ∷ bs) = go (is_blank b) refl (blanks_line bs)
  where
    go : (c : Bool) → is_blank b ≡ c → after_line bs ≡ after_line (after_blanks bs) → after_line (b ∷ bs) ≡ after_line (cond c (after_blanks bs) (b ∷ bs))
    go true h r = ap (λ (c : Bool). cond c bs (after_line bs)) (not_both b h) ∙ r
    go false h r = refl

pub blanks_shorter : (bs : List ℕ) → length (after_blanks bs) ≤ length bs
blanks_shorter [] = omega arith
blanks_shorter (b ∷ bs) = go (is_blank b) (blanks_shorter bs)
  where
    go : (c : Bool) → length (after_blanks bs) ≤ length bs → length (cond c (after_blanks bs) (b ∷ bs)) ≤ length (b ∷ bs)
    go true r = omega (arith, r)
    go false r = omega arith

-- what follows blanks begins with none
pub no_blank : (text rest : List ℕ) (b : ℕ) → b ∷ rest ≡ after_blanks text → is_blank b ≡ false
no_blank [] rest b = λ e. absurd (cc)
no_blank (x ∷ xs) rest b = go (is_blank x) refl (no_blank xs rest b)
  where
    head : (a c : ℕ) (xs ys : List ℕ) → a ∷ xs ≡ c ∷ ys → a ≡ c
    head a c xs ys e = cc

    go : (c : Bool) → is_blank x ≡ c → (b ∷ rest ≡ after_blanks xs → is_blank b ≡ false) → b ∷ rest ≡ cond c (after_blanks xs) (x ∷ xs) → is_blank b ≡ false
    go true h f e = f e
    go false h f e = ap is_blank (head b x rest xs e) ∙ h

-- a line that is at its end
pub ended : (text skipped : List ℕ) → skipped ≡ after_blanks text → length skipped < 1 → (tokens (line_of text) ≡ []) × (after_line text ≡ skipped) × (length skipped ≤ length text)
ended text [] e h = (
  blanks_tokens text ∙ ap (λ (s : List ℕ). tokens (line_of s)) (sym e),
  blanks_line text ∙ ap after_line (sym e),
  omega arith,
)
ended text (b ∷ bs) e h = absurd (omega (arith, h))

pub newline : (text skipped : List ℕ) → skipped ≡ after_blanks text → 1 ≤ length skipped → get_or skipped 0 0 ≡ 10
    → (tokens (line_of text) ≡ []) × (after_line text ≡ take (length skipped - 1) (drop 1 skipped)) × (length (take (length skipped - 1) (drop 1 skipped)) ≤ length text)
newline text [] e h n = absurd (omega (arith, h))
newline text (b ∷ bs) e h n =
    let all : take (length (b ∷ bs) - 1) bs ≡ bs = take_all (length (b ∷ bs) - 1) bs (omega arith) in (
      blanks_tokens text ∙ ap (λ (s : List ℕ). tokens (line_of s)) (sym e) ∙ ap (λ (c : Bool). tokens (cond c [] (b ∷ line_of bs))) (eq-eqb b 10 n),
      blanks_line text ∙ ap after_line (sym e) ∙ ap (λ (c : Bool). cond c bs (after_line bs)) (eq-eqb b 10 n) ∙ sym all,
      let s = blanks_shorter text in let k = ap length e in let m = ap length all in omega (arith, s, k, m),
    )

ends : (b : ℕ) → is_blank b ≡ false → (b ≡ 10 → ⊥) → ends_token b ≡ false
ends b h n = ap (λ (c : Bool). c || b == 10) h ∙ ne_eqb b 10 n

-- one byte of a token and the bytes after it
token_more : (b : ℕ) (bs : List ℕ) → is_blank b ≡ false → (b == 10) ≡ false → tokens (line_of (b ∷ bs)) ≡ cond (begins_blank (line_of bs)) ((b ∷ []) ∷ tokens (line_of bs)) (front b (tokens (line_of bs)))
token_more b bs h n = ap (λ (c : Bool). tokens (cond c [] (b ∷ line_of bs))) n
    ∙ ap (λ (c : Bool). cond c (tokens (line_of bs)) (cond (begins_blank (line_of bs)) ((b ∷ []) ∷ tokens (line_of bs)) (front b (tokens (line_of bs))))) h

-- where a token ends, nothing or a blank is next in the line
begins : (x : ℕ) (xs : List ℕ) → ends_token x ≡ true → begins_blank (line_of (x ∷ xs)) ≡ true
begins x xs h = go (x == 10) (is_blank x) refl refl h
  where
    go : (n k : Bool) → x == 10 ≡ n → is_blank x ≡ k → k || n ≡ true → begins_blank (cond (x == 10) [] (x ∷ line_of xs)) ≡ true
    go true k e f t = ap (λ (c : Bool). begins_blank (cond c [] (x ∷ line_of xs))) e
    go false true e f t = ap (λ (c : Bool). begins_blank (cond c [] (x ∷ line_of xs))) e ∙ f
    go false false e f t = absurd (cc)

goes_on : (x : ℕ) (xs : List ℕ) → is_blank x ≡ false → (x == 10) ≡ false → begins_blank (line_of (x ∷ xs)) ≡ false
goes_on x xs h n = ap (λ (c : Bool). begins_blank (cond c [] (x ∷ line_of xs))) n ∙ h

no_end : (x : ℕ) → ends_token x ≡ false → (is_blank x ≡ false) × ((x == 10) ≡ false)
no_end x h = go (is_blank x) (x == 10) h
  where
    go : (k n : Bool) → k || n ≡ false → (k ≡ false) × (n ≡ false)
    go true n e = absurd (cc)
    go false n e = (refl, e)

-- the token and what follows it, after one byte of it
abbrev TokenNext : ℕ → List ℕ → Type 0
TokenNext b bs = tokens (line_of (b ∷ bs)) ≡ token_of (b ∷ bs) ∷ tokens (line_of (after_token (b ∷ bs)))

after_byte : (b : ℕ) (x : ℕ) (xs : List ℕ) (c : Bool) → ends_token x ≡ c → (ends_token x ≡ false → TokenNext x xs)
    → cond (begins_blank (line_of (x ∷ xs))) ((b ∷ []) ∷ tokens (line_of (x ∷ xs))) (front b (tokens (line_of (x ∷ xs)))) ≡ (b ∷ cond c [] (x ∷ token_of xs)) ∷ tokens (line_of (cond c (x ∷ xs) (after_token xs)))
after_byte b x xs true e f = ap (λ (c : Bool). cond c ((b ∷ []) ∷ tokens (line_of (x ∷ xs))) (front b (tokens (line_of (x ∷ xs))))) (begins x xs e)
after_byte b x xs false e f = let k = no_end x e in
    ap (λ (c : Bool). cond c ((b ∷ []) ∷ tokens (line_of (x ∷ xs))) (front b (tokens (line_of (x ∷ xs))))) (goes_on x xs k.0 k.1)
    ∙ ap (front b) (f e)
    ∙ ap (λ (c : Bool). (b ∷ cond c [] (x ∷ token_of xs)) ∷ tokens (line_of (cond c (x ∷ xs) (after_token xs)))) e

one_byte : (b : ℕ) (bs : List ℕ) → ends_token b ≡ false → cond (begins_blank (line_of bs)) ((b ∷ []) ∷ tokens (line_of bs)) (front b (tokens (line_of bs))) ≡ (b ∷ token_of bs) ∷ tokens (line_of (after_token bs)) → TokenNext b bs
one_byte b bs h r = let k = no_end b h in token_more b bs k.0 k.1 ∙ r ∙ sym (ap (λ (c : Bool). cond c [] (b ∷ token_of bs) ∷ tokens (line_of (cond c (b ∷ bs) (after_token bs)))) h)

pub token_next : (b : ℕ) (bs : List ℕ) → ends_token b ≡ false → TokenNext b bs
token_next b [] h = one_byte b [] h refl
token_next b (x ∷ xs) h = one_byte b (x ∷ xs) h (after_byte b x xs (ends_token x) refl (token_next x xs))

pub token_line : (bs : List ℕ) → after_line bs ≡ after_line (after_token bs)
token_line [] = refl
token_line (b ∷ bs) = go (ends_token b) refl (token_line bs)
  where
    go : (c : Bool) → ends_token b ≡ c → after_line bs ≡ after_line (after_token bs) → after_line (b ∷ bs) ≡ after_line (cond c (b ∷ bs) (after_token bs))
    go true h r = refl
    go false h r = ap (λ (c : Bool). cond c bs (after_line bs)) ((no_end b h).1) ∙ r

pub token_shorter : (bs : List ℕ) → length (after_token bs) ≤ length bs
token_shorter [] = omega arith
token_shorter (b ∷ bs) = go (ends_token b) (token_shorter bs)
  where
    go : (c : Bool) → length (after_token bs) ≤ length bs → length (cond c (b ∷ bs) (after_token bs)) ≤ length (b ∷ bs)
    go true r = omega arith
    go false r = omega (arith, r)

pub next_is : (text skipped rest : List ℕ) → skipped ≡ after_blanks text → 1 ≤ length skipped → (get_or skipped 0 0 ≡ 10 → ⊥) → rest ≡ after_token skipped → IsNextToken text (token_of skipped) rest
next_is text [] rest e h n r = absurd (omega (arith, h))
next_is text (b ∷ bs) rest e h n r =
    let k : ends_token b ≡ false = ends b (no_blank text bs b e) n in record {
      token_is = blanks_tokens text ∙ ap (λ (s : List ℕ). tokens (line_of s)) (sym e) ∙ token_next b bs k ∙ ap (λ (s : List ℕ). token_of (b ∷ bs) ∷ tokens (line_of s)) (sym r);
      same_line = blanks_line text ∙ ap after_line (sym e) ∙ token_line (b ∷ bs) ∙ ap after_line (sym r);
      shorter =
          let cut : after_token (b ∷ bs) ≡ after_token bs = ap (λ (c : Bool). cond c (b ∷ bs) (after_token bs)) k in
          let s = blanks_shorter text in let m = ap length e in let t = token_shorter bs in let q = ap length (r ∙ cut) in
          omega (arith, s, m, t, q);
    }

-- the token that a text begins with, cut out of it
taken : (bs : List ℕ) → take (length bs - length (after_token bs)) bs ≡ token_of bs
taken [] = refl
taken (b ∷ bs) = go (ends_token b) (taken bs)
  where
    go : (c : Bool) → take (length bs - length (after_token bs)) bs ≡ token_of bs → take (length (b ∷ bs) - length (cond c (b ∷ bs) (after_token bs))) (b ∷ bs) ≡ cond c [] (b ∷ token_of bs)
    go true r = ap (λ (k : ℕ). take k (b ∷ bs)) (let e : length (b ∷ bs) - length (b ∷ bs) ≡ 0 = omega arith in e)
    go false r =
        let t = token_shorter bs in
        let e : length (b ∷ bs) - length (after_token bs) ≡ suc (length bs - length (after_token bs)) = omega (arith, t) in
        ap (λ (k : ℕ). take k (b ∷ bs)) e ∙ ap (λ (s : List ℕ). b ∷ s) r

pub cut_out : (skipped rest : List ℕ) → rest ≡ after_token skipped → take (length skipped - length rest) skipped ≡ token_of skipped
cut_out skipped rest e = ap (λ (s : List ℕ). take (length skipped - length s) skipped) e ∙ taken skipped

empty_tokens : (b : ℕ) (bs : List ℕ) → is_blank b ≡ false → ends_token b ≡ true → tokens (line_of (b ∷ bs)) ≡ []
empty_tokens b bs h e = ap (λ (c : Bool). tokens (cond c [] (b ∷ line_of bs))) (sym (ap (λ (c : Bool). c || b == 10) h) ∙ e)

pub token_cons : (text skipped rest : List ℕ) → skipped ≡ after_blanks text → rest ≡ after_token skipped → tokens (line_of text) ≡ cons_token (token_of skipped) (tokens (line_of rest))
token_cons text skipped rest e r = blanks_tokens text ∙ ap (λ (s : List ℕ). tokens (line_of s)) (sym e) ∙ at skipped e ∙ ap (λ (s : List ℕ). cons_token (token_of skipped) (tokens (line_of s))) (sym r)
  where
    at : (s : List ℕ) → s ≡ after_blanks text → tokens (line_of s) ≡ cons_token (token_of s) (tokens (line_of (after_token s)))
    at [] e = refl
    at (b ∷ bs) e = go (ends_token b) refl
      where
        go : (c : Bool) → ends_token b ≡ c → tokens (line_of (b ∷ bs)) ≡ cons_token (token_of (b ∷ bs)) (tokens (line_of (after_token (b ∷ bs))))
        go true h = empty_tokens b bs (no_blank text bs b e) h ∙ sym (ap (λ (c : Bool). cons_token (cond c [] (b ∷ token_of bs)) (tokens (line_of (cond c (b ∷ bs) (after_token bs))))) h)
        go false h = token_next b bs h ∙ ap (λ (c : Bool). cond c [] (b ∷ token_of bs) ∷ tokens (line_of (after_token (b ∷ bs)))) h ∙ sym (ap (λ (c : Bool). cons_token (cond c [] (b ∷ token_of bs)) (tokens (line_of (after_token (b ∷ bs))))) h)

pub token_whole : (bs : List ℕ) → token_of (token_of bs) ≡ token_of bs
token_whole [] = refl
token_whole (b ∷ bs) = go (ends_token b) refl (token_whole bs)
  where
    go : (c : Bool) → ends_token b ≡ c → token_of (token_of bs) ≡ token_of bs → token_of (cond c [] (b ∷ token_of bs)) ≡ cond c [] (b ∷ token_of bs)
    go true h r = refl
    go false h r = ap (λ (c : Bool). cond c [] (b ∷ token_of (token_of bs))) h ∙ ap (λ (s : List ℕ). b ∷ s) r

pub cut_whole : (skipped rest : List ℕ) → rest ≡ after_token skipped → token_of (take (length skipped - length rest) skipped) ≡ take (length skipped - length rest) skipped
cut_whole skipped rest e = let k = cut_out skipped rest e in ap token_of k ∙ token_whole skipped ∙ sym k
