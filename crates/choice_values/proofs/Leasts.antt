-- The conditioning law: the least of all choices is the least over the rows of one block.
use Rattle.std.proofs.Common.{◌≡◌, ◌≢◌, ℕ, ◌+◌, ◌<◌, ◌≤◌, List, [], length, refl, sym, ◌∙◌, ap, subst, arith, inl, inr}
use Rattle.std.specs.Prelude.{ℤ, ◌+ℤ◌, ◌≤ℤ◌}
use Rattle.std.proofs.lemmas.Int.{ints}
use Rattle.std.proofs.lemmas.List.{get_or_past}
use Rattle.std.proofs.lemmas.Bool.{cases_lt}
use Rattle.std.proofs.lemmas.Bool.Decides.{eqb_tells}
use Rattle.block_choices.specs.declared.row.BlockRow.{BlockRow}
use Rattle.choice_values.specs.Values.{Weighted}
use Rattle.choice_values.specs.Choosing.{size_at, PicksWithin, picked, AreRows, worths, AreFree, IsSolvedAmong, IsSolved, IsSolvedWith, IsSolvedBelow}
use Rattle.choice_values.specs.Under.{IsUnder}
use Rattle.choice_values.specs.Keeping.{AreAside, ArePutBack}
use Rattle.choice_values.proofs.Worths.{worths-off, worths-same}

add-mono : (a b n : ℤ) → a ≤ℤ b → (a +ℤ n) ≤ℤ (n +ℤ b)
add-mono a b n h = omega (arith, ints, h)

-- one block keeps a row
module _ (sizes : List ℕ) (lists : List Weighted) (b r : ℕ) (base : ℤ) (left : List Weighted) (u : IsUnder b r lists base left) (old mid : List ℕ) (n : ℤ) (h : IsSolved sizes left old mid n) (fits : r < size_at sizes b)
    (named : AreFree b lists → ⊥) (new : List ℕ) (m : ℤ) (value_is : m ≡ n +ℤ base) (size : length new ≡ length mid)
    (here : b < length mid → picked new b ≡ r) (other : (x : ℕ) → x ≢ b → picked new x ≡ picked mid x) where
  past : length mid ≤ b → picked new b ≡ r
  past le =
      let e = get_or_past new b 0 (let z = size in omega (arith, le, z)) in
      let s = get_or_past sizes b 1 (let z = h.rows.size in omega (arith, le, z)) in
      let f = fits in
      omega (arith, e, s, f)

  at_block : picked new b ≡ r
  at_block = elim (cases_lt b (length mid)) [ inl lt ↦ here lt | inr le ↦ past le ]

  within : PicksWithin sizes (picked new)
  within x = elim (eqb_tells x b) [
    | inl y ↦ subst (λ k. picked new k < size_at sizes k) (sym y.1) (let e = at_block in let f = fits in omega (arith, e, f))
    | inr k ↦ (let e = other x k.1 in let w = h.rows.within x in omega (arith, e, w))
  ]

  pub with-row : IsSolvedWith sizes lists b r old new m
  with-row = record {
    rows = record { size = size ∙ h.rows.size; within = within };
    stays = λ x f. other x (λ e. named (subst (λ k. AreFree k lists) e f)) ∙ h.stays x (u.fewer x f);
    has = value_is ∙ (ap (λ k. k +ℤ base) (h.has ∙ worths-off (picked mid) (picked new) b left (λ x k. sym (other x k)) u.free)
        ∙ (turned (worths (picked new) left) base ∙ sym (u.same (picked new) at_block)));
    least = λ c k e. subst (λ z. z ≤ℤ worths c lists) (sym value_is) (subst (λ z. (n +ℤ base) ≤ℤ z) (sym (u.same c e)) (add-mono n (worths c left) base (h.least c k tt)));
  }
    where
      turned : (x y : ℤ) → x +ℤ y ≡ y +ℤ x
      turned x y = omega (arith, ints)

-- The best rows so far, which are put aside, and those where the last search stands.
pub record IsBestSoFar (sizes : List ℕ) (lists : List Weighted) (b k : ℕ) (old rows : List ℕ) (aside : List BlockRow) (n : ℤ) : Type 0 where
  pub best : List ℕ
  pub solved : IsSolvedBelow sizes lists b k old best n
  pub kept : AreAside lists best aside
  pub valid : AreRows sizes rows
  pub stays : (x : ℕ) → AreFree x lists → picked rows x ≡ picked old x

-- all rows of the block
module _ (sizes : List ℕ) (lists : List Weighted) (b : ℕ) (old : List ℕ) where
  pub best-one : (rows : List ℕ) (aside : List BlockRow) (n : ℤ) → IsSolvedWith sizes lists b 0 old rows n → AreAside lists rows aside → IsBestSoFar sizes lists b 1 old rows aside n
  best-one rows aside n h a = record {
    best = rows;
    solved = record { rows = h.rows; stays = h.stays; has = h.has; least = λ c w l. h.least c w (omega (arith, l)) };
    kept = a;
    valid = h.rows;
    stays = h.stays;
  }

  pub best-next : (k : ℕ) (rows new : List ℕ) (aside more : List BlockRow) (n m : ℤ) → IsBestSoFar sizes lists b k old rows aside n → IsSolvedWith sizes lists b k rows new m → m ≤ℤ n → AreAside lists new more →
      IsBestSoFar sizes lists b (k + 1) old new more m
  best-next k rows new aside more n m h g le a = record {
    best = new;
    solved = record {
      rows = g.rows;
      stays = λ x f. g.stays x f ∙ h.stays x f;
      has = g.has;
      least = λ c w l. elim (eqb_tells (c b) k) [
        | inl y ↦ g.least c w y.1
        | inr z ↦ (let q = h.solved.least c w (let d = z.1 in omega (arith, l, d)) in omega (arith, ints, q, le))
      ];
    };
    kept = a;
    valid = g.rows;
    stays = λ x f. g.stays x f ∙ h.stays x f;
  }

  pub best-same : (k : ℕ) (rows new : List ℕ) (aside : List BlockRow) (n m : ℤ) → IsBestSoFar sizes lists b k old rows aside n → IsSolvedWith sizes lists b k rows new m → n ≤ℤ m →
      IsBestSoFar sizes lists b (k + 1) old new aside n
  best-same k rows new aside n m h g le = record {
    best = h.best;
    solved = record {
      rows = h.solved.rows;
      stays = h.solved.stays;
      has = h.solved.has;
      least = λ c w l. elim (eqb_tells (c b) k) [
        | inl y ↦ (let q = g.least c w y.1 in omega (arith, ints, q, le))
        | inr z ↦ h.solved.least c w (let d = z.1 in omega (arith, l, d))
      ];
    };
    kept = h.kept;
    valid = g.rows;
    stays = λ x f. g.stays x f ∙ h.stays x f;
  }

  pub best-all : (k : ℕ) (rows new : List ℕ) (aside : List BlockRow) (n : ℤ) → size_at sizes b ≤ k → IsBestSoFar sizes lists b k old rows aside n → ArePutBack aside rows new → IsSolved sizes lists old new n
  best-all k rows new aside n le h p = record {
    rows = record { size = p.size ∙ h.valid.size; within = λ x. (let e = same x in let w = h.solved.rows.within x in omega (arith, e, w)) };
    stays = λ x f. same x ∙ h.solved.stays x f;
    has = h.solved.has ∙ worths-same (picked h.best) (picked new) lists (λ x. sym (same x));
    least = λ c w z. h.solved.least c w (let l = w b in omega (arith, l, le));
  }
    where
      same : (x : ℕ) → picked new x ≡ picked h.best x
      same x = elim (p.each h.best (h.solved.rows.size ∙ sym h.valid.size) h.kept.told x) [
        | inl e ↦ e
        | inr f ↦ f.1 ∙ (h.stays x (h.kept.all x f.0) ∙ sym (h.solved.stays x (h.kept.all x f.0)))
      ]

-- the value is the same in each choice
pub solved-same : (sizes : List ℕ) (lists : List Weighted) (rows : List ℕ) (n : ℤ) → AreRows sizes rows → ((c : ℕ → ℕ) → worths c lists ≡ n) → IsSolved sizes lists rows rows n
solved-same sizes lists rows n h e = record { rows = h; stays = λ x f. refl; has = sym (e (picked rows)); least = λ c w t. (let z = e c in omega (arith, ints, z)) }
