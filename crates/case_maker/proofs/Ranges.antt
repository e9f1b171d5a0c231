-- One number more, and pieces one after the other.
use Rattle.std.proofs.Common.{◌≡◌, ℕ, zero, suc, ◌+◌, List, [], ◌∷◌, ◌++◌, refl, sym, ap, ◌∙◌, arith}
use Rattle.std.proofs.lemmas.List.{append_assoc, flat_map_more}
use Rattle.std.specs.List.{flat_map, range_with_len}

range_more : (a n : ℕ) → range_with_len a (suc n) ≡ range_with_len a n ++ (a + n) ∷ []
range_more a zero =
    let e : a ≡ a + 0 = omega arith in
    ap (λ x. x ∷ []) e
range_more a (suc n) =
    let e : (a + 1) + n ≡ a + suc n = omega arith in
    ap (λ l. a ∷ l) (range_more (a + 1) n ∙ ap (λ x. range_with_len (a + 1) n ++ x ∷ []) e)

pub lines_more : (f : ℕ → List ℕ) (start : List ℕ) (a n : ℕ) → (start ++ flat_map f (range_with_len a n)) ++ f (a + n) ≡ start ++ flat_map f (range_with_len a (n + 1))
lines_more f start a n =
    let e : suc n ≡ n + 1 = omega arith in
    flat_map_more f start (range_with_len a n) (a + n) ∙ ap (λ l. start ++ flat_map f l) (sym (range_more a n) ∙ ap (range_with_len a) e)

-- what is appended to what was appended
pub appended : (start x y : List ℕ) {now next : List ℕ} → now ≡ start ++ x → next ≡ now ++ y → next ≡ start ++ (x ++ y)
appended start x y a b = b ∙ ap (λ l. l ++ y) a ∙ append_assoc start x y

-- a head and a piece
pub block : (start x head y : List ℕ) {now next : List ℕ} → now ≡ start ++ x → next ≡ (now ++ head) ++ y → next ≡ start ++ ((x ++ head) ++ y)
block start x head y a b = appended start (x ++ head) y (appended start x head a refl) b
