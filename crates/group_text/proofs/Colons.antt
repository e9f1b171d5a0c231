-- Tokens at their first colon.
use Rattle.std.proofs.Common.{◌≡◌, ℕ, ◌+◌, ◌<◌, ◌≤◌, Bool, true, false, cond, ◌==◌, List, [], ◌∷◌, ◌++◌, Some, None, take, drop, get_or, length, refl, sym, ◌∙◌, ap, subst, arith, zero, suc}
use Rattle.cnf_form.specs.Lines.{ends_token, token_of}
use Rattle.group_text.specs.Names.{after_colon, before_colon}

-- no byte of a token ends one
split : (b : ℕ) (bs : List ℕ) → token_of (b ∷ bs) ≡ b ∷ bs → (ends_token b ≡ false) × (token_of bs ≡ bs)
split b bs e = go (ends_token b) refl e
  where
    go : (c : Bool) → ends_token b ≡ c → cond c [] (b ∷ token_of bs) ≡ b ∷ bs → (ends_token b ≡ false) × (token_of bs ≡ bs)
    go true i e = cc
    go false i e = (i, cc)

pub before_whole : (t : List ℕ) → token_of t ≡ t → token_of (before_colon t) ≡ before_colon t
before_whole [] e = refl
before_whole (b ∷ bs) e = go (before_whole bs (split b bs e).1) (b == 58)
  where
    go : token_of (before_colon bs) ≡ before_colon bs → (c : Bool) → token_of (cond c [] (b ∷ before_colon bs)) ≡ cond c [] (b ∷ before_colon bs)
    go w true = refl
    go w false = ap (λ (c : Bool). cond c [] (b ∷ token_of (before_colon bs))) (split b bs e).0 ∙ ap (λ (xs : List ℕ). b ∷ xs) w

pub after_whole : (t rest : List ℕ) → token_of t ≡ t → after_colon t ≡ Some rest → token_of rest ≡ rest
after_whole [] rest e a = cc
after_whole (b ∷ bs) rest e a = go (λ i. after_whole bs rest (split b bs e).1 i) (b == 58) a
  where
    go : (after_colon bs ≡ Some rest → token_of rest ≡ rest) → (c : Bool) → cond c (Some bs) (after_colon bs) ≡ Some rest → token_of rest ≡ rest
    go w true i = let same : bs ≡ rest = cc in subst (λ (xs : List ℕ). token_of xs ≡ xs) same (split b bs e).1
    go w false i = w i

-- ---- byte by byte

drop_front : (t : List ℕ) (n : ℕ) → n < length t → drop n t ≡ get_or t n 0 ∷ drop (suc n) t
drop_front [] n l = absurd (omega (arith, l))
drop_front (b ∷ bs) zero l = refl
drop_front (b ∷ bs) (suc n) l = drop_front bs n (omega (arith, l))

drop_past : (t : List ℕ) (n : ℕ) → length t ≤ n → drop n t ≡ []
drop_past [] zero l = refl
drop_past [] (suc n) l = refl
drop_past (b ∷ bs) zero l = absurd (omega (arith, l))
drop_past (b ∷ bs) (suc n) l = drop_past bs n (omega (arith, l))

-- the first bytes have no colon
pub record HasNone (t : List ℕ) (n : ℕ) : Type 0 where
  pub before : before_colon t ≡ take n t ++ before_colon (drop n t)
  pub after : after_colon t ≡ after_colon (drop n t)

pub none_yet : (t : List ℕ) → HasNone t 0
none_yet t = record { before = refl; after = refl }

pub one_more : (t : List ℕ) (n : ℕ) → n < length t → (get_or t n 0 == 58) ≡ false → HasNone t n → HasNone t (suc n)
one_more [] n l e h = absurd (omega (arith, l))
one_more (b ∷ bs) zero l e h = record { before = ap (λ (c : Bool). cond c [] (b ∷ before_colon bs)) e; after = ap (λ (c : Bool). cond c (Some bs) (after_colon bs)) e }
one_more (b ∷ bs) (suc n) l e h = go (λ inner. one_more bs n (omega (arith, l)) e inner) (b == 58) refl
  where
    go : (HasNone bs n → HasNone bs (suc n)) → (c : Bool) → (b == 58) ≡ c → HasNone (b ∷ bs) (suc (suc n))
    go w true i = absurd (clash h i)
      where
        clash : HasNone (b ∷ bs) (suc n) → (b == 58) ≡ true → ⊥
        clash h i = let k : [] ≡ b ∷ (take n bs ++ before_colon (drop n bs)) = sym (ap (λ (c : Bool). cond c [] (b ∷ before_colon bs)) i) ∙ h.before in cc
    go w false i = record { before = before; after = after }
      where
        inner : HasNone bs n
        inner = record {
          before = (let k : b ∷ before_colon bs ≡ b ∷ (take n bs ++ before_colon (drop n bs)) = sym (ap (λ (c : Bool). cond c [] (b ∷ before_colon bs)) i) ∙ h.before in cc);
          after = sym (ap (λ (c : Bool). cond c (Some bs) (after_colon bs)) i) ∙ h.after;
        }

        more : HasNone bs (suc n)
        more = w inner

        before : before_colon (b ∷ bs) ≡ b ∷ (take (suc n) bs ++ before_colon (drop (suc n) bs))
        before = ap (λ (c : Bool). cond c [] (b ∷ before_colon bs)) i ∙ ap (λ (xs : List ℕ). b ∷ xs) more.before

        after : after_colon (b ∷ bs) ≡ after_colon (drop (suc n) bs)
        after = ap (λ (c : Bool). cond c (Some bs) (after_colon bs)) i ∙ more.after

pub next_byte : (t : List ℕ) (n : ℕ) → n < length t → (get_or t n 0 == 58) ≡ false → HasNone t n → HasNone t (n + 1)
next_byte t n l e h = let s : suc n ≡ n + 1 = omega arith in subst (HasNone t) s (one_more t n l e h)

-- where a colon stands behind bytes without one
pub here : (t : List ℕ) (n : ℕ) → n < length t → (get_or t n 0 == 58) ≡ true → HasNone t n → (before_colon t ≡ take n t) × (after_colon t ≡ Some (drop (n + 1) t))
here t n l e h = (h.before ∙ (ap (λ (xs : List ℕ). take n t ++ xs) (at_before (drop n t) (get_or t n 0) (drop (suc n) t) split_at e) ∙ append_nil (take n t)), h.after ∙ at_after (drop n t) (get_or t n 0) (drop (suc n) t) split_at e ∙ ap (λ k. Some (drop k t)) one)
  where
    one : suc n ≡ n + 1
    one = omega arith

    split_at : drop n t ≡ get_or t n 0 ∷ drop (suc n) t
    split_at = drop_front t n l

    append_nil : (xs : List ℕ) → xs ++ [] ≡ xs
    append_nil [] = refl
    append_nil (x ∷ xs) = let i = append_nil xs in cc

    at_before : (xs : List ℕ) (b : ℕ) (bs : List ℕ) → xs ≡ b ∷ bs → (b == 58) ≡ true → before_colon xs ≡ []
    at_before xs b bs i j = ap before_colon i ∙ ap (λ (c : Bool). cond c [] (b ∷ before_colon bs)) j

    at_after : (xs : List ℕ) (b : ℕ) (bs : List ℕ) → xs ≡ b ∷ bs → (b == 58) ≡ true → after_colon xs ≡ Some bs
    at_after xs b bs i j = ap after_colon i ∙ ap (λ (c : Bool). cond c (Some bs) (after_colon bs)) j

pub no_colon : (t : List ℕ) (n : ℕ) → length t ≤ n → HasNone t n → after_colon t ≡ None
no_colon t n l h = h.after ∙ ap after_colon (drop_past t n l)
