-- Of one row of each block, those of blocks of two or more rows are those whose blocks have another row.
use Rattle.std.proofs.Common.{◌≡◌, inl, inr, ℕ, ◌&&◌, Bool, true, false, not, cond, if◌then◌else◌, List, [], ◌∷◌, get_or, Contains, refl, sym, ◌∙◌, ap, subst}
use Rattle.std.proofs.lemmas.Bool.{and_parts, and_from, not_from_false, false_from_ne_true}
use Rattle.std.proofs.lemmas.List.{get_or_default}
use Rattle.std.proofs.lemmas.List.Folds.{Any-from_list_any, list_any_at}
use Rattle.cqa_value.specs.declared.value.Value.{Value}
use Rattle.cqa_value.specs.Values.{row_eq, row_decides}
use Rattle.cqa_value.proofs.Words.{clash_not, mem-head, mem-tail, mem-nil, mem-cases}
use Rattle.aggregate_range.specs.declared.aggregate.End.{End}
use Rattle.aggregate_range.specs.declared.aggregate.Goal.{Goal}
use Rattle.cqa_model.specs.declared.query.RowId.{RowId}
use Rattle.cqa_model.specs.Database.{Table, key_of}
use Rattle.cqa_model.proofs.BlockOrder.{shares-from_key, key-from_shares}
use Rattle.table_blocks.specs.declared.test.ColumnTest.{ColumnTest}
use Rattle.table_blocks.specs.Tables.{rows_at, key_at, rows_in, names_in}
use Rattle.repair_back.specs.Results.{is_of_block, is_contested, contested_of}
use Rattle.range_ask.specs.Ranges.{IsAttained}
use Rattle.range_ask.specs.Picks.{ArePicked, IsInBlocks}
use Rattle.range_ask.specs.Choosing.{wide_names}
use Rattle.range_ask.specs.Walking.{rows_of_blocks}
use Rattle.range_ask.proofs.Picked.{Fresh, fresh-left, fresh-right, sorted-fresh, picks_are_repairs}
use Rattle.row_blocks.specs.Conflicts.{is_conflict}
use Rattle.row_blocks.proofs.BlockLists.{row_in, whole-block}

in_fresh : (bs : List (List (List Value))) (b : List (List Value)) → Fresh (rows_of_blocks bs) → Contains bs b → Fresh b
in_fresh [] b f m = absurd (mem-nil b m)
in_fresh (c ∷ bs) b f m = elim (mem-cases b c bs m) [
  | inl e ↦ subst Fresh e (fresh-left c (rows_of_blocks bs) f)
  | inr k ↦ in_fresh bs b (fresh-right c (rows_of_blocks bs) f) k
]

module _ (db : List Table) (table : ℕ) (blocks : List (List (List Value))) (parted : IsInBlocks db table blocks) where
  abbrev key : List ℕ
  key = key_at db table

  abbrev rows : List (List Value)
  rows = rows_at db table

  -- a row of its block that is another one
  contests : (b : List (List Value)) → Contains blocks b → (x y : List Value) → Contains b x → Contains b y → (x ≡ y → ⊥) → is_contested key rows x ≡ true
  contests b m x y mx my ne =
      let k = row_in key rows blocks parted.blocks_are b y m my in
      let s = parted.blocks_are.alike b m x y mx my in
      list_any_at (λ z. is_of_block key x z && not (row_eq x z)) rows k.0 [] k.1
      (subst (λ z. (is_of_block key x z && not (row_eq x z)) ≡ true) (sym (get_or_default rows k.0 [] y k.1 ∙ k.2))
      (and_from (is_of_block key x y) (not (row_eq x y)) ((row_decides (key_of key x) (key_of key y)).1 (key-from_shares key x y s)) (not_from_false (row_eq x y) (false_from_ne_true (row_eq x y) (λ e. ne ((row_decides x y).0 e))))))

  contested-is : (b : List (List Value)) → Contains blocks b → (x : List Value) → Contains b x → is_contested key rows x ≡ is_conflict b
  contested-is [] m x mx = absurd (mem-nil x mx)
  contested-is (y ∷ []) m x mx = false_from_ne_true (is_contested key rows x) sole
    where
      only : (z : List Value) → Contains (y ∷ []) z → z ≡ y
      only z n = elim (mem-cases z y [] n) [ inl e ↦ sym e | inr k ↦ absurd (mem-nil z k) ]

      sole : is_contested key rows x ≡ true → ⊥
      sole e =
          let a = Any-from_list_any (λ z. is_of_block key x z && not (row_eq x z)) rows e in
          let z = a.1 in
          let t = and_parts (is_of_block key x z) (not (row_eq x z)) a.4 in
          let s = shares-from_key key x z ((row_decides (key_of key x) (key_of key z)).0 t.0) in
          let n = whole-block key rows blocks parted.blocks_are (y ∷ []) m x z mx (a.0, a.2, a.3) s in
          clash_not (row_eq x z) t.1 ((row_decides x z).1 (only x mx ∙ sym (only z n)))
  contested-is (y ∷ z ∷ b) m x mx = elim (mem-cases x y (z ∷ b) mx) [
    | inl e ↦ contests (y ∷ z ∷ b) m x z mx (mem-tail z y (z ∷ b) (mem-head z b)) (λ same. fresh.0 (subst (Contains (z ∷ b)) (sym (e ∙ same)) (mem-head z b)))
    | inr k ↦ contests (y ∷ z ∷ b) m x y mx (mem-head y (z ∷ b)) (λ same. fresh.0 (subst (Contains (z ∷ b)) same k))
  ]
    where
      fresh : Fresh (y ∷ z ∷ b)
      fresh = in_fresh blocks (y ∷ z ∷ b) (subst Fresh (sym parted.blocks_are.joined) (sorted-fresh key rows parted.in_order)) m

  names-are : (bs : List (List (List Value))) (places : List ℕ) → ((b : List (List Value)) → Contains bs b → Contains blocks b) → ArePicked bs (rows_in rows places) → wide_names bs (names_in table places) ≡ contested_of db (names_in table places)
  names-are [] [] inside p = refl
  names-are [] (q ∷ places) inside p = absurd p
  names-are (b ∷ bs) [] inside p = absurd p
  names-are (b ∷ bs) (q ∷ places) inside p = go (is_conflict b) (is_contested key rows (get_or rows q [])) (contested-is b (inside b (mem-head b bs)) (get_or rows q []) p.0) (names-are bs places (λ c m. inside c (mem-tail c b bs m)) p.1)
    where
      name : RowId
      name = record { table = table; place = q }

      go : (w t : Bool) → t ≡ w → wide_names bs (names_in table places) ≡ contested_of db (names_in table places) →
          (if w then name ∷ wide_names bs (names_in table places) else wide_names bs (names_in table places)) ≡ cond t (name ∷ contested_of db (names_in table places)) (contested_of db (names_in table places))
      go true true e h = ap (λ ns. name ∷ ns) h
      go false false e h = h
      go true false e h = (cc)
      go false true e h = (cc)

  pub wide-contested : (goal : Goal) (tests : List ColumnTest) (names : List RowId) (end : End) → IsAttained db table goal tests names end → wide_names blocks names ≡ contested_of db names
  wide-contested goal tests names end a =
      subst (λ ns. wide_names blocks ns ≡ contested_of db ns) (sym a.named)
      (names-are blocks a.places (λ b m. m) ((picks_are_repairs key rows blocks (rows_in rows a.places) parted.blocks_are parted.in_order).0 a.repair))
