-- Two lists, item by item.
use Rattle.std.proofs.Common.{◌≡◌, List, [], ◌∷◌, refl, Contains}
use Rattle.std.specs.List.{AllZip}
use Rattle.cqa_model.proofs.Classic.{mem-head, mem-tail}

module _ {A B : Type 0} (R : A → B → Type 0) where
  pub zip-one : (xs : List A) (ys zs : List B) → ((x : A) (y z : B) → R x y → R x z → y ≡ z) → AllZip R xs ys → AllZip R xs zs → ys ≡ zs
  zip-one [] [] [] one h k = refl
  zip-one [] [] (z ∷ zs) one h k = absurd k
  zip-one [] (y ∷ ys) zs one h k = absurd h
  zip-one (x ∷ xs) [] zs one h k = absurd h
  zip-one (x ∷ xs) (y ∷ ys) [] one h k = absurd k
  zip-one (x ∷ xs) (y ∷ ys) (z ∷ zs) one h k =
      let e : y ≡ z = one x y z h.0 k.0 in
      let es : ys ≡ zs = zip-one xs ys zs one h.1 k.1 in
      cc

  pub zip-choose : (xs : List A) → ((x : A) → Contains xs x → (y : B) × R x y) → (ys : List B) × AllZip R xs ys
  zip-choose [] h = ([], tt)
  zip-choose (x ∷ xs) h =
      let y = h x (mem-head x xs) in
      let ys = zip-choose xs (λ z m. h z (mem-tail z x xs m)) in
      (y.0 ∷ ys.0, (y.1, ys.1))

  pub zip-weaker : (S : A → B → Type 0) → ((x : A) (y : B) → R x y → S x y) → (xs : List A) (ys : List B) → AllZip R xs ys → AllZip S xs ys
  zip-weaker S f [] [] h = tt
  zip-weaker S f [] (y ∷ ys) h = absurd h
  zip-weaker S f (x ∷ xs) [] h = absurd h
  zip-weaker S f (x ∷ xs) (y ∷ ys) h = (f x y h.0, zip-weaker S f xs ys h.1)
