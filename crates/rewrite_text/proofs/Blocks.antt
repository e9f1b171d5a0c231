-- The blocks of rows: each is what a filter by its key leaves.
use Rattle.std.proofs.Common.{◌≡◌, ◌<◌, inl, inr, ℕ, Bool, true, false, cond, List, [], ◌∷◌, ◌++◌, length, get_or, flat_map, filter, Contains, refl, sym, ap, ◌∙◌, subst, arith, length-append, append_assoc, suc, ◌+◌}
use Rattle.std.proofs.Math.Seq.{get_or-append_seam}
use Rattle.std.proofs.lemmas.Grind.{flat_map-append}
use Rattle.std.proofs.lemmas.List.{append-nil, get_or_default, get_or_append_left, get_or-append-add}
use Rattle.std.proofs.lemmas.List.Elements.{filter-append, Contains-append_cases, Contains-append_left, Contains-append_right}
use Rattle.cqa_value.specs.declared.value.Value.{Value}
use Rattle.cqa_value.specs.Values.{row_eq, row_decides}
use Rattle.cqa_value.proofs.Words.{Contains-from_flat_map}
use Rattle.cqa_model.specs.Database.{key_of}
use Rattle.cqa_model.specs.Repairs.{SharesKey}
use Rattle.cqa_model.specs.Blocks.{AreBlocks}
use Rattle.cqa_model.proofs.BlockOrder.{shares-from_key, key-from_shares}
use Rattle.cqa_model.proofs.Repairs.{shares-sym}
use Rattle.cqa_model.proofs.Classic.{mem-head, mem-tail}

-- the rows of blocks, one behind the other
abbrev pub rows_joined : List (List (List Value)) → List (List Value)
rows_joined bs = flat_map (λ b. b) bs

filter_all : {A : Type 0} (p : A → Bool) (xs : List A) → ((y : A) → Contains xs y → p y ≡ true) → filter p xs ≡ xs
filter_all p [] h = refl
filter_all p (x ∷ xs) h = ap (λ b. cond b (x ∷ filter p xs) (filter p xs)) (h x (mem-head x xs)) ∙ ap (λ z. x ∷ z) (filter_all p xs (λ y m. h y (mem-tail y x xs m)))

filter_none : {A : Type 0} (p : A → Bool) (xs : List A) → ((y : A) → Contains xs y → p y ≡ false) → filter p xs ≡ []
filter_none p [] h = refl
filter_none p (x ∷ xs) h = ap (λ b. cond b (x ∷ filter p xs) (filter p xs)) (h x (mem-head x xs)) ∙ filter_none p xs (λ y m. h y (mem-tail y x xs m))

-- two rows have the same key values
abbrev pub same_key : List ℕ → List Value → List Value → Bool
same_key key x y = row_eq (key_of key x) (key_of key y)

same_of : (key : List ℕ) (x y : List Value) → SharesKey key x y → same_key key x y ≡ true
same_of key x y s = (row_decides (key_of key x) (key_of key y)).1 (key-from_shares key x y s)

apart_of : (key : List ℕ) (x y : List Value) → (SharesKey key x y → ⊥) → same_key key x y ≡ false
apart_of key x y h = go (same_key key x y) refl
  where
    go : (b : Bool) → same_key key x y ≡ b → b ≡ false
    go true e = absurd (h (shares-from_key key x y ((row_decides (key_of key x) (key_of key y)).0 e)))
    go false e = refl

module _ (key : List ℕ) (rows : List (List Value)) (before : List (List (List Value))) (b : List (List Value)) (behind : List (List (List Value))) (h : AreBlocks key rows (before ++ b ∷ behind)) where
  pub parts : rows ≡ rows_joined before ++ (b ++ rows_joined behind)
  parts = sym h.joined ∙ flat_map-append (λ b. b) before (b ∷ behind)

  mine : Contains (before ++ b ∷ behind) b
  mine = Contains-append_right before (b ∷ behind) b (mem-head b behind)

  pub stored : (x : List Value) → Contains b x → Contains rows x
  stored x m = subst (λ xs. Contains xs x) (sym parts) (Contains-append_right (rows_joined before) (b ++ rows_joined behind) x (Contains-append_left b (rows_joined behind) x m))

  seam : get_or (before ++ b ∷ behind) (length before) [] ≡ b
  seam = get_or-append_seam before b behind []

  off_before : (x y : List Value) → Contains b x → Contains (rows_joined before) y → SharesKey key x y → ⊥
  off_before x y mx my s = go (Contains-from_flat_map (λ c. c) before y my)
    where
      go : (c : List (List Value)) × Contains before c × Contains c y → ⊥
      go (c, (i, li, ei), n) =
          let long = length-append before (b ∷ behind) in
          let at : get_or (before ++ b ∷ behind) i [] ≡ c = get_or_append_left before (b ∷ behind) [] i li ∙ get_or_default before i [] c li ∙ ei in
          h.apart i (length before) li (omega (arith, long)) y x (subst (λ d. Contains d y) (sym at) n) (subst (λ d. Contains d x) (sym seam) mx) (shares-sym key x y s)

  off_behind : (x y : List Value) → Contains b x → Contains (rows_joined behind) y → SharesKey key x y → ⊥
  off_behind x y mx my s = go (Contains-from_flat_map (λ c. c) behind y my)
    where
      go : (c : List (List Value)) × Contains behind c × Contains c y → ⊥
      go (c, (i, li, ei), n) =
          let long = length-append before (b ∷ behind) in
          let again : (before ++ b ∷ []) ++ behind ≡ before ++ b ∷ behind = append_assoc before (b ∷ []) behind in
          let front = length-append before (b ∷ []) in
          let at : get_or (before ++ b ∷ behind) (length (before ++ b ∷ []) + i) [] ≡ c = ap (λ z. get_or z (length (before ++ b ∷ []) + i) []) (sym again) ∙ get_or-append-add (before ++ b ∷ []) behind i [] ∙ get_or_default behind i [] c li ∙ ei in
          h.apart (length before) (length (before ++ b ∷ []) + i) (omega (arith, front)) (omega (arith, front, long, li)) x y (subst (λ d. Contains d x) (sym seam) mx) (subst (λ d. Contains d y) (sym at) n) s

  -- a block is the rows that share the key of one of its rows
  pub block_is : (x : List Value) → Contains b x → filter (same_key key x) rows ≡ b
  block_is x mx =
      let p = same_key key x in
      ap (filter p) parts
      ∙ filter-append p (rows_joined before) (b ++ rows_joined behind)
      ∙ ap (λ z. z ++ filter p (b ++ rows_joined behind)) (filter_none p (rows_joined before) (λ y m. apart_of key x y (off_before x y mx m)))
      ∙ filter-append p b (rows_joined behind)
      ∙ ap (λ z. z ++ filter p (rows_joined behind)) (filter_all p b (λ y m. same_of key x y (h.alike b mine x y mx m)))
      ∙ ap (λ z. b ++ z) (filter_none p (rows_joined behind) (λ y m. apart_of key x y (off_behind x y mx m)))
      ∙ append-nil b

  -- the rows that share a key with a row of the block are those of the block
  pub in_block : (x y : List Value) → Contains b x → Contains rows y → SharesKey key x y → Contains b y
  in_block x y mx my s = elim (Contains-append_cases (rows_joined before) (b ++ rows_joined behind) y (subst (λ xs. Contains xs y) parts my)) [
    | inl n ↦ absurd (off_before x y mx n s)
    | inr n ↦ elim (Contains-append_cases b (rows_joined behind) y n) [ inl k ↦ k | inr k ↦ absurd (off_behind x y mx k s) ]
  ]

  pub in_shares : (x y : List Value) → Contains b x → Contains b y → SharesKey key x y
  in_shares x y mx my = h.alike b mine x y mx my

  pub has_some_row : 0 < length b
  has_some_row = h.some b mine

-- rows have one list of blocks
pub blocks_once : (key : List ℕ) (rows : List (List Value)) (bs cs : List (List (List Value))) → AreBlocks key rows bs → AreBlocks key rows cs → bs ≡ cs
blocks_once key rows [] [] h k = refl
blocks_once key rows [] (c ∷ cs) h k = absurd (nothing_of c (rows_joined cs) (k.some c (mem-head c cs)) (h.joined ∙ sym k.joined))
  where
    nothing_of : (c more : List (List Value)) → 0 < length c → [] ≡ c ++ more → ⊥
    nothing_of [] more l e = omega arith
    nothing_of (x ∷ c) more l e = cc e
blocks_once key rows (b ∷ bs) [] h k = absurd (nothing_of b (rows_joined bs) (h.some b (mem-head b bs)) (k.joined ∙ sym h.joined))
  where
    nothing_of : (c more : List (List Value)) → 0 < length c → [] ≡ c ++ more → ⊥
    nothing_of [] more l e = omega arith
    nothing_of (x ∷ c) more l e = cc e
blocks_once key rows (b ∷ bs) (c ∷ cs) h k = go (same_first b c (rows_joined bs) (rows_joined cs) (h.some b (mem-head b bs)) (k.some c (mem-head c cs)) (h.joined ∙ sym k.joined)) (λ z m n. blocks_once key z bs cs m n)
  where
    same_first : (b c m n : List (List Value)) → 0 < length b → 0 < length c → b ++ m ≡ c ++ n → (x : List Value) × Contains b x × Contains c x
    same_first [] c m n l o e = absurd (omega arith)
    same_first (x ∷ b) [] m n l o e = absurd (omega arith)
    same_first (x ∷ b) (y ∷ c) m n l o e = let f : x ≡ y = cc e in (x, mem-head x b, subst (λ z. Contains (y ∷ c) z) (sym f) (mem-head y c))

    rest_of : (b : List (List Value)) (cs : List (List (List Value))) → AreBlocks key rows (b ∷ cs) → AreBlocks key (rows_joined cs) cs
    rest_of b cs h = record {
      joined = refl;
      some = λ d m. h.some d (mem-tail d b cs m);
      alike = λ d m. h.alike d (mem-tail d b cs m);
      apart = λ i j l n. h.apart (suc i) (suc j) (omega (arith, l)) (omega (arith, n));
    }

    cancel : (b m n : List (List Value)) → b ++ m ≡ b ++ n → m ≡ n
    cancel [] m n e = e
    cancel (x ∷ b) m n e = cancel b m n (cc e)

    go : (x : List Value) × Contains b x × Contains c x → ((z : List (List Value)) → AreBlocks key z bs → AreBlocks key z cs → bs ≡ cs) → b ∷ bs ≡ c ∷ cs
    go (x, mb, mc) next =
        let e : b ≡ c = sym (block_is key rows [] b bs h x mb) ∙ block_is key rows [] c cs k x mc in
        let rest : rows_joined bs ≡ rows_joined cs = cancel b (rows_joined bs) (rows_joined cs) (h.joined ∙ sym k.joined ∙ ap (λ z. z ++ rows_joined cs) (sym e)) in
        let es : bs ≡ cs = next (rows_joined cs) (subst (λ z. AreBlocks key z bs) rest (rest_of b bs h)) (rest_of c cs k) in
        cc (e, es)
