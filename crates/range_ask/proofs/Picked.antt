-- The repairs of a table are the lists with one row of each block.
use Rattle.std.proofs.Common.{◌≡◌, inl, inr, ℕ, suc, List, [], ◌∷◌, ◌++◌, get_or, Contains, Less, refl, sym, ◌∙◌, ap, subst, arith, suc-le-suc}
use Rattle.std.specs.List.Sorted.{IsStrictlySortedBy}
use Rattle.std.proofs.lemmas.List.{get_or_default}
use Rattle.std.proofs.lemmas.List.Elements.{Contains-get_or, Contains-append_left, Contains-append_right, Contains-append_cases}
use Rattle.cqa_value.specs.declared.value.Value.{Value}
use Rattle.cqa_value.proofs.Words.{Contains-from_flat_map, member_by_recursion, not_less}
use Rattle.cqa_model.specs.Database.{block_cmp}
use Rattle.cqa_model.specs.Repairs.{SharesKey, IsSublist, HasOne, IsTableRepair}
use Rattle.cqa_model.specs.Blocks.{AreBlocks}
use Rattle.cqa_model.proofs.Classic.{mem-head, mem-tail, mem-nil, mem-cases}
use Rattle.cqa_model.proofs.Repairs.{sublist-stored, sublist-drop, shares-sym}
use Rattle.cqa_model.proofs.BlockOrder.{block_total}
use Rattle.range_ask.specs.Picks.{ArePicked}
use Rattle.range_ask.specs.Walking.{rows_of_blocks}
use Rattle.range_ask.specs.Laws.{PicksAreRepairs}

-- no row stands twice
abbrev pub Fresh : List (List Value) → Type 0
Fresh [] = Unit {0}
Fresh (x ∷ xs) = (Contains xs x → ⊥) × Fresh xs

pub fresh-left : (b rest : List (List Value)) → Fresh (b ++ rest) → Fresh b
fresh-left [] rest f = tt
fresh-left (x ∷ b) rest f = ((λ m. f.0 (Contains-append_left b rest x m)), fresh-left b rest f.1)

pub fresh-right : (b rest : List (List Value)) → Fresh (b ++ rest) → Fresh rest
fresh-right [] rest f = f
fresh-right (x ∷ b) rest f = fresh-right b rest f.1

sublist-fresh : (k b : List (List Value)) → IsSublist k b → Fresh b → Fresh k
sublist-fresh [] b s f = tt
sublist-fresh (x ∷ k) [] s f = absurd s
sublist-fresh (x ∷ k) (y ∷ b) (inl (e, s)) f = ((λ m. f.0 (subst (Contains b) e (sublist-stored k b s x m))), sublist-fresh k b s f.1)
sublist-fresh (x ∷ k) (y ∷ b) (inr s) f = sublist-fresh (x ∷ k) b s f.1

pub sorted-fresh : (key : List ℕ) (rows : List (List Value)) → IsStrictlySortedBy (block_cmp key) rows → Fresh rows
unfolding IsStrictlySortedBy
sorted-fresh key [] s = tt
sorted-fresh key (x ∷ xs) s = ((λ m. not_less (block_cmp key) (block_total key) x (member_by_recursion (λ y. block_cmp key x y ≡ Less) xs s.0 x m)), sorted-fresh key xs s.1)

-- ---- sublists of two lists, one behind the other

sublist-past : (b rest xs : List (List Value)) → IsSublist xs rest → IsSublist xs (b ++ rest)
sublist-past [] rest xs s = s
sublist-past (y ∷ b) rest xs s = sublist-drop xs (b ++ rest) y (sublist-past b rest xs s)

sublist-in : (b rest : List (List Value)) (x : List Value) (xs : List (List Value)) → Contains b x → IsSublist xs rest → IsSublist (x ∷ xs) (b ++ rest)
sublist-in [] rest x xs m s = absurd (mem-nil x m)
sublist-in (y ∷ b) rest x xs m s = elim (mem-cases x y b m) [
  | inl e ↦ inl (sym e, sublist-past b rest xs s)
  | inr n ↦ inr (sublist-in b rest x xs n s)
]

sublist-split : (b rest kept : List (List Value)) → IsSublist kept (b ++ rest) →
    (k : List (List Value)) × (ks : List (List Value)) × (kept ≡ k ++ ks) × IsSublist k b × IsSublist ks rest
sublist-split [] rest kept s = ([], kept, refl, tt, s)
sublist-split (y ∷ b) rest [] s = ([], [], refl, tt, tt)
sublist-split (y ∷ b) rest (x ∷ kept) (inl (e, s)) = let r = sublist-split b rest kept s in (x ∷ r.0, r.1, ap (λ z. x ∷ z) r.2, inl (e, r.3), r.4)
sublist-split (y ∷ b) rest (x ∷ kept) (inr s) = let r = sublist-split b rest (x ∷ kept) s in (r.0, r.1, r.2, sublist-drop r.0 b y r.3, r.4)

-- rows that are all one row, in a list without repeats
one-member : (k : List (List Value)) (r : List Value) → Fresh k → Contains k r → ((y : List Value) → Contains k y → y ≡ r) → k ≡ r ∷ []
one-member [] r f m h = absurd (mem-nil r m)
one-member (x ∷ []) r f m h = ap (λ z. z ∷ []) (h x (mem-head x []))
one-member (x ∷ y ∷ k) r f m h =
    let ex = h x (mem-head x (y ∷ k)) in
    let ey = h y (mem-tail y x (y ∷ k) (mem-head y k)) in
    absurd (f.0 (subst (Contains (y ∷ k)) (ey ∙ sym ex) (mem-head y k)))

module _ (key : List ℕ) where
  tail-blocks : (b : List (List Value)) (bs : List (List (List Value))) (rows : List (List Value)) → AreBlocks key rows (b ∷ bs) → AreBlocks key (rows_of_blocks bs) bs
  tail-blocks b bs rows h = record {
    joined = refl;
    some = λ c m. h.some c (mem-tail c b bs m);
    alike = λ c m. h.alike c (mem-tail c b bs m);
    apart = λ i j l lj x y mx my. h.apart (suc i) (suc j) (suc-le-suc l) (suc-le-suc lj) x y mx my;
  }

  -- a row of the first block shares its key with none behind it
  head-apart : (b : List (List Value)) (bs : List (List (List Value))) (rows : List (List Value)) → AreBlocks key rows (b ∷ bs) → (x y : List Value) →
      Contains b x → Contains (rows_of_blocks bs) y → SharesKey key x y → ⊥
  head-apart b bs rows h x y mx my s = go (Contains-from_flat_map (λ c. c) bs y my)
    where
      go : ((c : List (List Value)) × Contains bs c × Contains c y) → ⊥
      go (c, (k, l, e), n) =
          let ck : get_or bs k [] ≡ c = get_or_default bs k [] c l ∙ e in
          h.apart 0 (suc k) (omega arith) (suc-le-suc l) x y mx (subst (λ d. Contains d y) (sym ck) n) s

  picked-sublist : (bs : List (List (List Value))) (xs : List (List Value)) → ArePicked bs xs → IsSublist xs (rows_of_blocks bs)
  picked-sublist [] [] p = tt
  picked-sublist [] (x ∷ xs) p = absurd p
  picked-sublist (b ∷ bs) [] p = absurd p
  picked-sublist (b ∷ bs) (x ∷ xs) p = sublist-in b (rows_of_blocks bs) x xs p.0 (picked-sublist bs xs p.1)

  picked-one : (bs : List (List (List Value))) (rows xs : List (List Value)) → AreBlocks key rows bs → ArePicked bs xs → (x : List Value) → Contains (rows_of_blocks bs) x → HasOne key xs x
  picked-one [] rows xs h p x m = absurd (mem-nil x m)
  picked-one (b ∷ bs) rows [] h p x m = absurd p
  picked-one (b ∷ bs) rows (z ∷ zs) h p x m = elim (Contains-append_cases b (rows_of_blocks bs) x m) [
    | inl n ↦ record {
      row = z;
      is_kept = mem-head z zs;
      shares = h.alike b (mem-head b bs) x z n p.0;
      only = λ y my s. elim (mem-cases y z zs my) [
        | inl e ↦ sym e
        | inr k ↦ absurd (head-apart b bs rows h x y n (sublist-stored zs (rows_of_blocks bs) (picked-sublist bs zs p.1) y k) s)
      ];
    }
    | inr n ↦ behind n (picked-one bs (rows_of_blocks bs) zs (tail-blocks b bs rows h) p.1 x n)
  ]
    where
      behind : Contains (rows_of_blocks bs) x → HasOne key zs x → HasOne key (z ∷ zs) x
      behind n o = record {
        row = o.row;
        is_kept = mem-tail o.row z zs o.is_kept;
        shares = o.shares;
        only = λ y my s. elim (mem-cases y z zs my) [
          | inl e ↦ absurd (head-apart b bs rows h y x (subst (Contains b) e p.0) n (shares-sym key x y s))
          | inr k ↦ o.only y k s
        ];
      }

  pub repair-of_picks : (rows : List (List Value)) (bs : List (List (List Value))) (xs : List (List Value)) → AreBlocks key rows bs → ArePicked bs xs → IsTableRepair key rows xs
  repair-of_picks rows bs xs h p = subst (λ rs. IsTableRepair key rs xs) h.joined (record { stored = picked-sublist bs xs p; one = picked-one bs rows xs h p })

  picks-of : (bs : List (List (List Value))) (rows kept : List (List Value)) → AreBlocks key rows bs → Fresh (rows_of_blocks bs) → IsTableRepair key (rows_of_blocks bs) kept → ArePicked bs kept
  picks-of [] rows [] h f r = tt
  picks-of [] rows (x ∷ kept) h f r = absurd r.stored
  picks-of (b ∷ bs) rows kept h f r = go (λ ks k. picks-of bs (rows_of_blocks bs) ks (tail-blocks b bs rows h) (fresh-right b (rows_of_blocks bs) f) k) (sublist-split b (rows_of_blocks bs) kept r.stored)
    where
      x : List Value
      x = get_or b 0 []

      mx : Contains b x
      mx = Contains-get_or b 0 [] (h.some b (mem-head b bs))

      o : HasOne key kept x
      o = r.one x (Contains-append_left b (rows_of_blocks bs) x mx)

      go : ((ks : List (List Value)) → IsTableRepair key (rows_of_blocks bs) ks → ArePicked bs ks) →
          ((k : List (List Value)) × (ks : List (List Value)) × (kept ≡ k ++ ks) × IsSublist k b × IsSublist ks (rows_of_blocks bs)) → ArePicked (b ∷ bs) kept
      go ih (k, ks, e, sk, sks) = subst (ArePicked (b ∷ bs)) (sym (e ∙ ap (λ z. z ++ ks) alone)) (sublist-stored k b sk o.row there, ih ks rest)
        where
          kept-left : (y : List Value) → Contains k y → Contains kept y
          kept-left y m = subst (λ z. Contains z y) (sym e) (Contains-append_left k ks y m)

          kept-right : (y : List Value) → Contains ks y → Contains kept y
          kept-right y m = subst (λ z. Contains z y) (sym e) (Contains-append_right k ks y m)

          there : Contains k o.row
          there = elim (Contains-append_cases k ks o.row (subst (λ z. Contains z o.row) e o.is_kept)) [
            | inl m ↦ m
            | inr m ↦ absurd (head-apart b bs rows h x o.row mx (sublist-stored ks (rows_of_blocks bs) sks o.row m) o.shares)
          ]

          alone : k ≡ o.row ∷ []
          alone = one-member k o.row (sublist-fresh k b sk (fresh-left b (rows_of_blocks bs) f)) there
              (λ y m. o.only y (kept-left y m) (h.alike b (mem-head b bs) x y mx (sublist-stored k b sk y m)))

          behind : (y : List Value) → Contains (rows_of_blocks bs) y → HasOne key kept y → HasOne key ks y
          behind y my p = record {
            row = p.row;
            is_kept = elim (Contains-append_cases k ks p.row (subst (λ z. Contains z p.row) e p.is_kept)) [
              | inl m ↦ absurd (head-apart b bs rows h p.row y (sublist-stored k b sk p.row m) my (shares-sym key y p.row p.shares))
              | inr m ↦ m
            ];
            shares = p.shares;
            only = λ z mz s. p.only z (kept-right z mz) s;
          }

          rest : IsTableRepair key (rows_of_blocks bs) ks
          rest = record { stored = sks; one = λ y my. behind y my (r.one y (Contains-append_right b (rows_of_blocks bs) y my)) }

pub picks_are_repairs : PicksAreRepairs
picks_are_repairs key rows blocks xs h s = (
  λ r. picks-of key blocks rows xs h (sorted-fresh key (rows_of_blocks blocks) (subst (IsStrictlySortedBy (block_cmp key)) (sym h.joined) s)) (subst (λ rs. IsTableRepair key rs xs) (sym h.joined) r),
  λ p. repair-of_picks key rows blocks xs h p,
)
