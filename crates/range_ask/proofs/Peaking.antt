-- Which rows of a group have extreme values, with one row more and with one block more.
use Rattle.std.proofs.Common.{◌≡◌, ◌⊎◌, inl, inr, ℕ, zero, suc, ◌<◌, ◌≤◌, Bool, true, false, cond, List, [], ◌∷◌, ◌++◌, length, take, Contains, Option, Some, None, refl, sym, ◌∙◌, ap, subst, arith, length-append, append_assoc}
use Rattle.std.specs.List.{filter}
use Rattle.std.specs.Option.{option_copied}
use Rattle.std.proofs.Math.Seq.{take-suc, take-length}
use Rattle.std.proofs.lemmas.List.{append-nil}
use Rattle.std.proofs.lemmas.List.Elements.{filter-append, Contains-get_or}
use Rattle.std.proofs.lemmas.Grind.{flat_map-append}
use Rattle.cqa_value.specs.declared.value.Value.{Value}
use Rattle.cqa_value.proofs.Words.{Contains-filter, all_zip_push, cases_next, clash}
use Rattle.cqa_model.proofs.Classic.{mem-nil}
use Rattle.range_ask.specs.declared.way.Way.{Way}
use Rattle.range_ask.specs.declared.total.Turn.{Turn}
use Rattle.range_ask.specs.declared.peak.Peak.{Peak}
use Rattle.range_ask.specs.Ranges.{cell}
use Rattle.range_ask.specs.Picks.{turned, IsExtreme, AvoidsFar}
use Rattle.range_ask.specs.Finding.{row_in_block}
use Rattle.range_ask.specs.Walking.{rows_of_blocks}
use Rattle.range_ask.specs.Reaching.{IsIfMet}
use Rattle.range_ask.specs.Tallying.{rows_so_far, IsSureOf, NoneOf, IsGroupReached, IsPeakSettled, IsPeaking, IsNearer, AreFar, Furthers}
use Rattle.range_ask.proofs.Ordered.{before-turned}
use Rattle.range_ask.proofs.Further.{row-first}

-- ---- the rows that were read

module _ (front : List (List (List Value))) (block : List (List Value)) where
  pub seen-none : rows_of_blocks front ≡ rows_so_far front block 0
  seen-none = sym (append-nil (rows_of_blocks front))

  pub seen-more : (n : ℕ) → n < length block → rows_so_far front block (suc n) ≡ rows_so_far front block n ++ row_in_block block n ∷ []
  seen-more n l = ap (λ rows. rows_of_blocks front ++ rows) (take-suc block n [] l) ∙ sym (append_assoc (rows_of_blocks front) (take n block) (row_in_block block n ∷ []))

  pub seen-all : rows_so_far front block (length block) ≡ rows_of_blocks (front ++ block ∷ [])
  seen-all = ap (λ rows. rows_of_blocks front ++ rows) (take-length block ∙ sym (append-nil block)) ∙ sym (flat_map-append (λ (c : List (List Value)). c) front (block ∷ []))

pub filter-miss : (p : List Value → Bool) (xs : List (List Value)) (x : List Value) → p x ≡ false → filter p (xs ++ x ∷ []) ≡ filter p xs
filter-miss p xs x e = filter-append p xs (x ∷ []) ∙ (ap (λ b. filter p xs ++ cond b (x ∷ []) []) e ∙ append-nil (filter p xs))

module _ (way : Way) (p : List Value → Bool) (col : ℕ) (front : List (List (List Value))) (block : List (List Value)) where
  pub far-begin : (t : Peak) → AreFar way p col (rows_of_blocks front) t → AreFar way p col (rows_so_far front block 0) t
  far-begin t h = subst (λ rows. AreFar way p col rows t) (seen-none front block) h

  pub far-end : (t : Peak) → AreFar way p col (rows_so_far front block (length block)) t → AreFar way p col (rows_of_blocks (front ++ block ∷ [])) t
  far-end t h = subst (λ rows. AreFar way p col rows t) (seen-all front block) h

  pub far-miss : (n : ℕ) (t : Peak) → n < length block → p (row_in_block block n) ≡ false → AreFar way p col (rows_so_far front block n) t → AreFar way p col (rows_so_far front block (suc n)) t
  far-miss n t l e h =
      let same = ap (filter p) (seen-more front block n l) ∙ filter-miss p (rows_so_far front block n) (row_in_block block n) e in record {
        far = subst (λ rows. IsExtreme way col rows (option_copied t.far)) (sym same) h.far;
        top = subst (λ rows. IsExtreme (turned way) col rows (option_copied t.top)) (sym same) h.top;
      }

  pub far-more : (n : ℕ) (old new : Peak) (row : List Value) → n < length block → row_in_block block n ≡ row → p row ≡ true → Furthers way col (option_copied old.far) (Some row) (option_copied new.far) →
      Furthers (turned way) col (option_copied old.top) (Some row) (option_copied new.top) → AreFar way p col (rows_so_far front block n) old → AreFar way p col (rows_so_far front block (suc n)) new
  far-more n old new row l e t far top h =
      let met : p (row_in_block block n) ≡ true = ap p e ∙ t in record {
        far = subst (λ rows. IsExtreme way col (filter p rows) (option_copied new.far)) (sym (seen-more front block n l)) (far p (rows_so_far front block n) (row_in_block block n) h.far (met, e));
        top = subst (λ rows. IsExtreme (turned way) col (filter p rows) (option_copied new.top)) (sym (seen-more front block n l)) (top p (rows_so_far front block n) (row_in_block block n) h.top (met, e));
      }

module _ (way : Way) (p : List Value → Bool) (col : ℕ) (sure : Bool) (front : List (List (List Value))) (block : List (List Value)) (h : IsSureOf sure p block) where
  longer : length (front ++ block ∷ []) ≡ suc (length front)
  longer = length-append front (block ∷ []) ∙ omega arith

  pub peak-begin : (t : Peak) → IsPeakSettled way p col front t → (IsPeakSettled way p col front t × NoneOf p block 0) ⊎ IsPeaking way p col sure front block 0 t
  peak-begin t s = inl (s, λ i l. absurd (omega (arith, l)))

  pub peak-miss : (n : ℕ) (t : Peak) → n < length block → p (row_in_block block n) ≡ false → (IsPeakSettled way p col front t × NoneOf p block n) ⊎ IsPeaking way p col sure front block n t →
      (IsPeakSettled way p col front t × NoneOf p block (suc n)) ⊎ IsPeaking way p col sure front block (suc n) t
  peak-miss n t l e (inl (s, none)) = inl (s, λ i k. elim (cases_next i n (omega (arith, k))) [ inl lt ↦ none i lt | inr same ↦ ap (λ k. p (row_in_block block k)) same ∙ e ])
  peak-miss n t l e (inr o) = inr (record {
    number_is = o.number_is;
    before = o.before;
    near = λ s. absurd (clash (p (row_in_block block n)) (o.all s (row_in_block block n) (Contains-get_or block n [] l)) e);
    none = o.none;
    sure_is = o.sure_is;
    all = o.all;
  })

  module _ (n : ℕ) (l : n < length block) (row : List Value) (e : row_in_block block n ≡ row) (t : p row ≡ true) (turn : Turn) (is : turn.number ≡ suc (length front)) (turn-sure : turn.sure ≡ sure)
      (old new : Peak) (number_is : new.number ≡ turn.number) (near : IsNearer way col turn row old (option_copied new.before) (option_copied new.near)) (sure_is : Furthers way col (option_copied new.before) (option_copied new.near) (option_copied new.sure)) where
    met : p (row_in_block block n) ≡ true
    met = ap p e ∙ t

    met-all : sure ≡ true → (y : List Value) → Contains block y → p y ≡ true
    met-all s y m = h.together s (row_in_block block n) y (Contains-get_or block n [] l) m met

    near-taken : IsExtreme (turned way) col (filter p (take n block ++ row_in_block block n ∷ [])) (option_copied new.near) → IsExtreme (turned way) col (filter p (take (suc n) block)) (option_copied new.near)
    near-taken x = subst (λ rows. IsExtreme (turned way) col (filter p rows) (option_copied new.near)) (sym (take-suc block n [] l)) x

    none-taken : (k : ℕ) → k ≤ n → NoneOf p block n → filter p (take k block) ≡ []
    none-taken zero m none = refl
    none-taken (suc k) m none =
        ap (filter p) (take-suc block k [] (omega (arith, m, l))) ∙ (filter-miss p (take k block) (row_in_block block k) (none k (omega (arith, m))) ∙ none-taken k (omega (arith, m)) none)

    pub peak-more : (IsPeakSettled way p col front old × NoneOf p block n) ⊎ IsPeaking way p col sure front block n old → IsPeaking way p col sure front block (suc n) new
    peak-more (inl (s, none)) = record {
      number_is = number_is ∙ is;
      before = subst (IsGroupReached way p col front) (sym (near.before_other apart)) s.sure;
      near = λ b. near-taken (subst (IsExtreme (turned way) col (filter p (take n block ++ row_in_block block n ∷ []))) (sym (near.near_other (turn-sure ∙ b) apart))
          (row-first p (take n block) (row_in_block block n) met (turned way) col row e (none-taken n (omega arith) none)));
      none = λ b. near.none (turn-sure ∙ b);
      sure_is = sure_is;
      all = met-all;
    }
      where
        apart : old.number ≡ turn.number → ⊥
        apart same = let z = s.early in omega (arith, z, same, is)
    peak-more (inr o) = record {
      number_is = number_is ∙ is;
      before = subst (IsGroupReached way p col front) (sym (near.before_same same)) o.before;
      near = λ b. near-taken (near.near_same (turn-sure ∙ b) same p (take n block) (row_in_block block n) (o.near b) (met, e));
      none = λ b. near.none (turn-sure ∙ b);
      sure_is = sure_is;
      all = met-all;
    }
      where
        same : old.number ≡ turn.number
        same = o.number_is ∙ sym is

  reached-more : (row new : Option (List Value)) (y : List Value) → (r : IsGroupReached way p col front row) → AvoidsFar way p col block y → IsExtreme way col (filter p (r.picks ++ y ∷ [])) new → IsGroupReached way p col (front ++ block ∷ []) new
  reached-more row new y r a x = record { picks = r.picks ++ y ∷ []; picked = all_zip_push (AvoidsFar way p col) front r.picks block y r.picked a; is = x }

  pub peak-end : 0 < length block → (t : Peak) → (IsPeakSettled way p col front t × NoneOf p block (length block)) ⊎ IsPeaking way p col sure front block (length block) t → IsPeakSettled way p col (front ++ block ∷ []) t
  peak-end some t (inl (s, none)) = record {
    sure = reached-more (option_copied t.sure) (option_copied t.sure) y s.sure (record { there = my; else_near = λ u. absurd (clash (p y) u (none 0 some)) })
        (subst (λ rows. IsExtreme way col rows (option_copied t.sure)) (sym (filter-miss p s.sure.picks y (none 0 some))) s.sure.is);
    early = (let e = s.early in let k = longer in omega (arith, e, k));
  }
    where
      y : List Value
      y = row_in_block block 0

      my : Contains block y
      my = Contains-get_or block 0 [] some
  peak-end some t (inr o) = record {
    sure = at sure refl;
    early = (let e = o.number_is in let k = longer in omega (arith, e, k));
  }
    where
      known : (near : Option (List Value)) → option_copied t.near ≡ near → sure ≡ true → IsExtreme (turned way) col (filter p block) near → IsGroupReached way p col (front ++ block ∷ []) (option_copied t.sure)
      known None e s x =
          let y = row_in_block block 0 in
          let m = Contains-get_or block 0 [] some in
          absurd (mem-nil y (subst (λ rows. Contains rows y) x ((Contains-filter p block y).1 (m, o.all s y m))))
      known (Some y) e s (m, all) =
          let b = (Contains-filter p block y).0 m in
          reached-more (option_copied t.before) (option_copied t.sure) y o.before
          (record { there = b.0; else_near = λ u z mz. (o.all s z mz, before-turned way (cell z col) (cell y col) (all z ((Contains-filter p block z).1 (mz, o.all s z mz)))) })
          (o.sure_is p o.before.picks y o.before.is (subst (IsIfMet p y) (sym e) (b.1, refl)))

      at : (b : Bool) → sure ≡ b → IsGroupReached way p col (front ++ block ∷ []) (option_copied t.sure)
      at true s = known (option_copied t.near) refl s (subst (λ rows. IsExtreme (turned way) col (filter p rows) (option_copied t.near)) (take-length block) (o.near s))
      at false s =
          let y = h.misses s in
          reached-more (option_copied t.before) (option_copied t.sure) y.0 o.before (record { there = y.1; else_near = λ u. absurd (clash (p y.0) u y.2) })
          (o.sure_is p o.before.picks y.0 o.before.is (subst (IsIfMet p y.0) (sym (o.none s)) y.2))
