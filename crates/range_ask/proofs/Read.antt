-- One row more of a walk over rows.
use Rattle.std.proofs.Common.{◌≡◌, ◌⊎◌, inl, inr, ℕ, zero, suc, ◌+◌, ◌<◌, ◌≤◌, List, [], ◌∷◌, ◌++◌, length, drop, Contains, refl, sym, ◌∙◌, ap, subst, arith, length-append, append_assoc, slice_index_or}
use Rattle.std.proofs.lemmas.List.{get_or-append-add, append-nil}
use Rattle.std.proofs.Math.Seq.{drop-cons, get_or-append_seam}
use Rattle.std.proofs.lemmas.List.Elements.{Contains-get_or, Contains-append_right}
use Rattle.std.proofs.lemmas.Grind.{flat_map-append}
use Rattle.cqa_value.specs.declared.value.Value.{Value}
use Rattle.cqa_model.specs.Blocks.{AreBlocks}
use Rattle.cqa_model.specs.Repairs.{SharesKey}
use Rattle.cqa_model.proofs.Classic.{mem-head}
use Rattle.range_ask.specs.Finding.{row_in_block}
use Rattle.range_ask.specs.Walking.{rows_of_blocks, IsReading, IsNextBlock}

head-same : (x y : List Value) (xs ys : List (List Value)) → x ∷ xs ≡ y ∷ ys → (x ≡ y) × (xs ≡ ys)
head-same x y xs ys e = (cc, cc)

drop-all : (xs : List (List Value)) (n : ℕ) → length xs ≤ n → drop n xs ≡ []
drop-all [] zero l = refl
drop-all [] (suc n) l = refl
drop-all (x ∷ xs) zero l = absurd (omega (arith, l))
drop-all (x ∷ xs) (suc n) l = drop-all xs n (omega (arith, l))

-- rows of blocks that begin with a row
first-of : (bs : List (List (List Value))) (row : List Value) (rest : List (List Value)) → ((b : List (List Value)) → Contains bs b → 0 < length b) → rows_of_blocks bs ≡ row ∷ rest →
    (b : List (List Value)) × (more : List (List (List Value))) × (bs ≡ (row ∷ b) ∷ more) × (rest ≡ b ++ rows_of_blocks more)
first-of [] row rest some e = absurd (cc)
first-of ([] ∷ bs) row rest some e = let z = some [] (mem-head [] bs) in absurd (omega (arith, z))
first-of ((x ∷ b) ∷ bs) row rest some e = let h = head-same x row (b ++ rows_of_blocks bs) rest e in (b, bs, ap (λ r. (r ∷ b) ∷ bs) h.0, sym h.1)

within-or-not : (m n : ℕ) → m ≤ n → (m < n) ⊎ (m ≡ n)
within-or-not zero zero l = inr refl
within-or-not zero (suc n) l = inl (omega arith)
within-or-not (suc m) zero l = absurd (omega (arith, l))
within-or-not (suc m) (suc n) l = elim (within-or-not m n (omega (arith, l))) [
  | inl s ↦ inl (omega (arith, s))
  | inr e ↦ inr (ap suc e)
]

none-of : (bs : List (List (List Value))) → ((b : List (List Value)) → Contains bs b → 0 < length b) → rows_of_blocks bs ≡ [] → bs ≡ []
none-of [] some e = refl
none-of ([] ∷ bs) some e = let z = some [] (mem-head [] bs) in absurd (omega (arith, z))
none-of ((x ∷ b) ∷ bs) some e = absurd (cc)

both-none : (xs ys : List (List Value)) → xs ++ ys ≡ [] → (xs ≡ []) × (ys ≡ [])
both-none [] ys e = (refl, e)
both-none (x ∷ xs) ys e = absurd (cc)

abbrev GoesOn : List ℕ → List (List Value) → List (List (List Value)) → List Value → ℕ → List Value → List (List Value) → Type 0
GoesOn key block later last read row rest = (read < length block) × (row ≡ row_in_block block read) × (rest ≡ drop (suc read) block ++ rows_of_blocks later) × SharesKey key last row

abbrev Ends : List ℕ → List (List Value) → List (List (List Value)) → List Value → ℕ → List Value → List (List Value) → Type 0
Ends key block later last read row rest = (b : List (List Value)) × (more : List (List (List Value))) × (read ≡ length block) × (later ≡ (row ∷ b) ∷ more) × (rest ≡ b ++ rows_of_blocks more) × (SharesKey key last row → ⊥)

module _ (key : List ℕ) (rows : List (List Value)) (all : List (List (List Value))) (are : AreBlocks key rows all) where
  -- what holds of the blocks so far still holds when a block is added
  abbrev pub Closes : (List (List Value) → ℕ → Type 0) → (W W' : List (List (List Value)) → Type 0) → ℕ → Type 0
  Closes B W W' start =
      (front : List (List (List Value))) (block : List (List Value)) (later : List (List (List Value))) → IsNextBlock rows front block later start → B block (length block) → W front → W' (front ++ block ∷ [])

  -- what is known of a first row
  abbrev pub Opens : (List (List Value) → ℕ → Type 0) → List Value → Type 0
  Opens B row = (block : List (List Value)) → row ≡ row_in_block block 0 → B block 1

  module _ (W : List (List (List Value)) → Type 0) (B : List (List Value) → ℕ → Type 0) (left : List (List Value)) (last : List Value) (start read : ℕ) (h : IsReading W B all left last start read) where
    block-in : Contains all h.block
    block-in = subst (λ bs. Contains bs h.block) (sym h.cut) (Contains-append_right h.front (h.block ∷ h.later) h.block (mem-head h.block h.later))

    some-later : (b : List (List Value)) → Contains h.later b → 0 < length b
    some-later b m = are.some b (subst (λ bs. Contains bs b) (sym h.cut) (Contains-append_right h.front (h.block ∷ h.later) b (Contains-append_right (h.block ∷ []) h.later b m)))

    pub next-is : IsNextBlock rows h.front h.block h.later start
    next-is = record { rows_are = sym are.joined ∙ ap rows_of_blocks h.cut; start_is = h.start_is; some = are.some h.block block-in }

    -- the block fits behind those before
    pub read-fits : start + length h.block ≤ length rows
    read-fits =
        let e = ap length (next-is.rows_are ∙ flat_map-append (λ (c : List (List Value)). c) h.front (h.block ∷ h.later)) in
        let f = length-append (rows_of_blocks h.front) (h.block ++ rows_of_blocks h.later) in
        let g = length-append h.block (rows_of_blocks h.later) in
        let s = h.start_is in
        omega (arith, e, f, g, s)

    pub front-few : (n : ℕ) → length all ≤ n → length h.front ≤ n
    front-few n l = let e = ap length h.cut ∙ length-append h.front (h.block ∷ h.later) in omega (arith, e, l)

    closed : (W' : List (List (List Value)) → Type 0) → Closes B W W' start → read ≡ length h.block → W' (h.front ++ h.block ∷ [])
    closed W' f e = f h.front h.block h.later next-is (subst (B h.block) e h.so_far) h.before

    module _ (row : List Value) (rest : List (List Value)) (next : left ≡ row ∷ rest) where
      goes-on : read < length h.block → GoesOn key h.block h.later last read row rest
      goes-on s =
          let e = sym next ∙ (h.left_is ∙ ap (λ xs. xs ++ rows_of_blocks h.later) (drop-cons h.block read [] s)) in
          let g = head-same row (row_in_block h.block read) rest (drop (suc read) h.block ++ rows_of_blocks h.later) e in
          (s, g.0, g.1, are.alike h.block block-in last row h.last_in (subst (Contains h.block) (sym g.0) (Contains-get_or h.block read [] s)))

      ends : read ≡ length h.block → Ends key h.block h.later last read row rest
      ends e =
          let none = drop-all h.block read (omega (arith, e)) in
          let g = first-of h.later row rest some-later (sym (sym next ∙ (h.left_is ∙ ap (λ xs. xs ++ rows_of_blocks h.later) none))) in
          let front = h.front in
          let here : slice_index_or all (length front) [] ≡ h.block = ap (λ bs. slice_index_or bs (length front) []) h.cut ∙ get_or-append_seam front h.block h.later [] in
          let there : slice_index_or all (length front + 1) [] ≡ row ∷ g.0 =
          ap (λ bs. slice_index_or bs (length front + 1) []) h.cut ∙ (get_or-append-add front (h.block ∷ h.later) 1 [] ∙ ap (λ bs. slice_index_or (h.block ∷ bs) 1 []) g.2) in
          let long = ap length h.cut ∙ length-append front (h.block ∷ h.later) in
          let size = ap length g.2 in (
            g.0,
            g.1,
            e,
            g.2,
            g.3,
            λ s. are.apart (length front) (length front + 1) (omega arith) (omega (arith, long, size)) last row
                (subst (λ b. Contains b last) (sym here) h.last_in) (subst (λ b. Contains b row) (sym there) (mem-head row g.0)) s,
          )

      cases : GoesOn key h.block h.later last read row rest ⊎ Ends key h.block h.later last read row rest
      cases = elim (within-or-not read (length h.block) h.read_in) [
        | inl s ↦ inl (goes-on s)
        | inr e ↦ inr (ends e)
      ]

      -- the next row is of the block
      pub read-on : (B' : List (List Value) → ℕ → Type 0) (start' read' : ℕ) → start' ≡ start → read' ≡ read + 1 →
          ((block : List (List Value)) → B block read → row ≡ row_in_block block read → B' block (read + 1)) → SharesKey key last row → IsReading W B' all rest row start' read'
      read-on B' start' read' se re more s = elim cases [
        | inr n ↦ absurd (n.5 s)
        | inl g ↦ record {
          front = h.front;
          block = h.block;
          later = h.later;
          cut = h.cut;
          start_is = se ∙ h.start_is;
          begun = omega (arith, re);
          read_in = (let l = g.0 in omega (arith, re, l));
          left_is = g.2 ∙ ap (λ n. drop n h.block ++ rows_of_blocks h.later) suc-is;
          last_in = subst (Contains h.block) (sym g.1) (Contains-get_or h.block read [] g.0);
          before = h.before;
          so_far = subst (B' h.block) (sym re) (more h.block h.so_far g.1);
        }
      ]
        where
          suc-is : suc read ≡ read'
          suc-is = omega (arith, re)

      -- it begins another
      pub read-closed : (W' : List (List (List Value)) → Type 0) (B' : List (List Value) → ℕ → Type 0) (start' read' : ℕ) → start' ≡ start + read → read' ≡ 1 →
          Closes B W W' start → Opens B' row → (SharesKey key last row → ⊥) → IsReading W' B' all rest row start' read'
      read-closed W' B' start' read' se re close first n = elim cases [
        | inl g ↦ absurd (n g.3)
        | inr g ↦ record {
          front = h.front ++ h.block ∷ [];
          block = row ∷ g.0;
          later = g.1;
          cut = h.cut ∙ (ap (λ bs. h.front ++ h.block ∷ bs) g.3 ∙ sym (append_assoc h.front (h.block ∷ []) ((row ∷ g.0) ∷ g.1)));
          start_is = (let s = h.start_is in let r = g.2 in let m = front-more in omega (arith, se, s, r, m));
          begun = omega (arith, re);
          read_in = omega (arith, re);
          left_is = subst (λ k. rest ≡ drop k (row ∷ g.0) ++ rows_of_blocks g.1) (sym re) g.4;
          last_in = mem-head row g.0;
          before = closed W' close g.2;
          so_far = subst (B' (row ∷ g.0)) (sym re) (first (row ∷ g.0) refl);
        }
      ]
        where
          front-more : length (rows_of_blocks (h.front ++ h.block ∷ [])) ≡ length (rows_of_blocks h.front) + length h.block
          front-more =
              let e = ap length (flat_map-append (λ (c : List (List Value)). c) h.front (h.block ∷ [])) in
              let f = length-append (rows_of_blocks h.front) (h.block ++ []) in
              let g = ap length (append-nil h.block) in
              omega (arith, e, f, g)

    -- there is no next row
    pub read-all : (W' : List (List (List Value)) → Type 0) → left ≡ [] → Closes B W W' start → W' all
    read-all W' none close =
        let e = both-none (drop read h.block) (rows_of_blocks h.later) (sym h.left_is ∙ none) in
        let whole : read ≡ length h.block = elim (within-or-not read (length h.block) h.read_in) [
          | inl s ↦ (let z = sym (drop-cons h.block read [] s) ∙ e.0 in absurd (cc))
          | inr w ↦ w
        ] in
        subst W' (sym (h.cut ∙ ap (λ bs. h.front ++ h.block ∷ bs) (none-of h.later some-later e.1))) (closed W' close whole)

  pub read-first : (W : List (List (List Value)) → Type 0) (B : List (List Value) → ℕ → Type 0) (row : List Value) (rest : List (List Value)) (start read : ℕ) → rows ≡ row ∷ rest → start ≡ 0 → read ≡ 1 →
      W [] → Opens B row → IsReading W B all rest row start read
  read-first W B row rest start read next se re w first =
      let g = first-of all row rest are.some (are.joined ∙ next) in record {
        front = [];
        block = row ∷ g.0;
        later = g.1;
        cut = g.2;
        start_is = se;
        begun = omega (arith, re);
        read_in = omega (arith, re);
        left_is = subst (λ k. rest ≡ drop k (row ∷ g.0) ++ rows_of_blocks g.1) (sym re) g.3;
        last_in = mem-head row g.0;
        before = w;
        so_far = subst (B (row ∷ g.0)) (sym re) (first (row ∷ g.0) refl);
      }

  pub read-none : (W : List (List (List Value)) → Type 0) → rows ≡ [] → W [] → W all
  read-none W none w = subst W (sym (none-of all are.some (are.joined ∙ none))) w
