-- The rows that a repair without a witness had to choose hit each witness.
use Rattle.std.proofs.Common.{◌≡◌, ◌≢◌, ◌<◌, ◌+◌, ◌⊎◌, ◌&&◌, inl, inr, ℕ, zero, suc, Bool, true, false, cond, not, List, [], ◌∷◌, ◌++◌, length, flat_map, get_or, Some, Less, refl, sym, ◌∙◌, ap, subst, arith, Contains, slice_get, le_of_suc-le-suc}
use Rattle.std.specs.List.{filter}
use Rattle.std.specs.List.Sorted.{IsStrictlySortedBy}
use Rattle.std.specs.Ordering.{nat_cmp}
use Rattle.std.proofs.lemmas.Bool.{and_from, not_from_false, false_from_ne_true}
use Rattle.std.proofs.lemmas.Cmp.{ranked}
use Rattle.std.proofs.lemmas.List.{length-map}
use Rattle.std.proofs.lemmas.List.Elements.{Contains-append_cases, Contains-get_or}
use Rattle.std.proofs.lemmas.List.Folds.{list_any_at}
use Rattle.std.proofs.lemmas.Option.{get_or_from_slice_get, slice_get_within}
use Rattle.cqa_value.specs.declared.value.Value.{Value}
use Rattle.cqa_value.specs.Values.{row_eq, row_decides}
use Rattle.cqa_value.proofs.Words.{mem-head, mem-tail, mem-nil, mem-cases, member_by_recursion, Contains-map, Contains-from_map, Contains-flat_map, Contains-from_flat_map, Contains-filter}
use Rattle.cqa_model.specs.declared.query.Atom.{Atom}
use Rattle.cqa_model.specs.declared.query.Query.{Query}
use Rattle.cqa_model.specs.declared.query.RowId.{RowId}
use Rattle.cqa_model.specs.Shape.{nth_atom}
use Rattle.cqa_model.specs.Database.{Table, stored, keys_of, key_of, IsDatabase}
use Rattle.cqa_model.specs.Repairs.{SharesKey, HasOne, IsRepair}
use Rattle.cqa_model.specs.Query.{atom_at, atom_key, rows_of, row_at, IsWitness, FitsDatabase}
use Rattle.cqa_model.proofs.BlockOrder.{key-from_shares}
use Rattle.cqa_model.proofs.Classic.{dec_mem, find_below, mem-eq}
use Rattle.cqa_model.proofs.Fitting.{fits_tables}
use Rattle.cqa_model.proofs.Repairs.{shares-sym}
use Rattle.cqa_model.proofs.Witnesses.{at_table}
use Rattle.join_access.specs.Listing.{AreAllNames, AreNamesOf, no_name}
use Rattle.join_access.proofs.Naming.{same-name}
use Rattle.repair_back.specs.Results.{is_of_block, is_contested_in, contested_of}
use Rattle.table_blocks.specs.Tables.{AreStored, rows_in, names_in}
use Rattle.repair_back.specs.Rejected.{AreRejectingRows}
use Rattle.rows_against.specs.Against.{row_named, KeepsName, AreOfOneBlock, ComesBefore}
use Rattle.rows_against.specs.Hits.{Hits}
use Rattle.rows_against.specs.Chosen.{AreChosenAgainst}
use Rattle.rows_against.proofs.Own.{own_at, row_read, row_there}
use Rattle.rows_against.proofs.Hitting.{one_place}

-- ---- lists of which each item comes before those behind it

module _ {A : Type 0} (R : A → A → Type 0) where
  abbrev Follows : List A → Type 0
  Follows [] = Unit {0}
  Follows (x ∷ xs) = ((y : A) → Contains xs y → R x y) × Follows xs

  follows_joined : (xs ys : List A) → Follows xs → Follows ys → ((x y : A) → Contains xs x → Contains ys y → R x y) → Follows (xs ++ ys)
  follows_joined [] ys hx hy h = hy
  follows_joined (x ∷ xs) ys hx hy h = (
    λ y m. elim (Contains-append_cases xs ys y m) [ inl k ↦ hx.0 y k | inr k ↦ h x y (mem-head x xs) k ],
    follows_joined xs ys hx.1 hy (λ a b ma mb. h a b (mem-tail a x xs ma) mb),
  )

  follows_filtered : (p : A → Bool) (xs : List A) → Follows xs → Follows (filter p xs)
  follows_filtered p [] h = tt
  follows_filtered p (x ∷ xs) h = go (p x) (follows_filtered p xs h.1)
    where
      go : (b : Bool) → Follows (filter p xs) → Follows (cond b (x ∷ filter p xs) (filter p xs))
      go true rest = (λ y m. h.0 y ((Contains-filter p xs y).0 m).0, rest)
      go false rest = rest

  follows_at : (d : A) (xs : List A) → Follows xs → (i j : ℕ) → i < j → j < length xs → R (get_or xs i d) (get_or xs j d)
  follows_at d [] h i j l lj = absurd (omega (arith, lj))
  follows_at d (x ∷ xs) h i zero l lj = absurd (omega (arith, l))
  follows_at d (x ∷ xs) h zero (suc j) l lj = h.0 (get_or xs j d) (Contains-get_or xs j d (le_of_suc-le-suc lj))
  follows_at d (x ∷ xs) h (suc i) (suc j) l lj = follows_at d xs h.1 i j (le_of_suc-le-suc l) (le_of_suc-le-suc lj)

-- ---- the atoms of a query

atom_in : (atoms : List Atom) (a : Atom) → Contains atoms a → (F : ℕ) × (F < length atoms) × (nth_atom atoms F ≡ a)
atom_in [] a m = absurd (mem-nil a m)
atom_in (x ∷ atoms) a m = elim (mem-cases a x atoms m) [
  | inl e ↦ (0, omega arith, e)
  | inr n ↦ (let r = atom_in atoms a n in let l = r.1 in (suc r.0, omega (arith, l), r.2))
]

nth_in : (atoms : List Atom) (F : ℕ) → F < length atoms → Contains atoms (nth_atom atoms F)
nth_in [] F l = absurd (omega (arith, l))
nth_in (a ∷ atoms) zero l = mem-head a atoms
nth_in (a ∷ atoms) (suc F) l = mem-tail (nth_atom atoms F) a atoms (nth_in atoms F (le_of_suc-le-suc l))

module _ (db : List Table) (q : Query) (row : List Value) (valid : IsDatabase db) (fits : FitsDatabase q db) (all : List (List RowId)) (h : AreAllNames q db row all) (kept : List (List (List Value)))
    (repair : IsRepair db kept) (places : ℕ → List ℕ) (rises : (F : ℕ) → F < length q.atoms → IsStrictlySortedBy nat_cmp (places (atom_at q F).table))
    (there : (F : ℕ) → F < length q.atoms → (p : ℕ) → Contains (places (atom_at q F).table) p → p < length (rows_of q (stored db) F))
    (rows : (F : ℕ) → F < length q.atoms → rows_of q kept F ≡ rows_in (rows_of q (stored db) F) (places (atom_at q F).table))
    (none : (w : List (List Value)) → IsWitness q kept row w → ⊥) where
  abbrev names_at : Atom → List RowId
  names_at atom = names_in atom.table (places atom.table)

  abbrev flat : List RowId
  flat = flat_map names_at q.atoms

  abbrev chosen : List RowId
  chosen = filter (is_contested_in db) flat

  -- a kept row has the table of an atom and one of its places
  pub record IsPlaced (name : RowId) : Type 0 where
    pub atom : ℕ
    pub here : atom < length q.atoms
    pub table : (atom_at q atom).table ≡ name.table
    pub place : Contains (places name.table) name.place

  placed : (name : RowId) → Contains flat name → IsPlaced name
  placed name m =
      let a = Contains-from_flat_map names_at q.atoms name m in
      let F = atom_in q.atoms a.0 a.1 in
      let p = Contains-from_map (λ p. record { table = a.0.table; place = p }) (places a.0.table) name a.2 in
      let table : a.0.table ≡ name.table = ap (λ (x : RowId). x.table) p.2 in
      let place : p.0 ≡ name.place = ap (λ (x : RowId). x.place) p.2 in
      record {
        atom = F.0;
        here = F.1;
        table = ap (λ (x : Atom). x.table) F.2 ∙ table;
        place = subst (λ t. Contains (places t) name.place) table (subst (Contains (places a.0.table)) place p.1);
      }

  into : (F p : ℕ) → F < length q.atoms → Contains (places (atom_at q F).table) p → Contains flat (record { table = (atom_at q F).table; place = p })
  into F p l m = Contains-flat_map names_at q.atoms (atom_at q F) (record { table = (atom_at q F).table; place = p }) (nth_in q.atoms F l) (Contains-map (λ p. record { table = (atom_at q F).table; place = p }) (places (atom_at q F).table) p m)

  tables : length (stored db) ≡ length db
  tables = length-map db (λ (table : Table). table.rows)

  flat_stored : AreStored db flat
  flat_stored name m =
      let w = placed name m in (
        subst (λ t. t < length db) w.table (fits.there w.atom w.here),
        subst (λ t. name.place < length (get_or (stored db) t [])) w.table (there w.atom w.here name.place (subst (λ t. Contains (places t) name.place) (sym w.table) w.place)),
      )

  keeps : (name : RowId) → Contains flat name → KeepsName db kept name
  keeps name m =
      let w = placed name m in
      let F = w.atom in
      let p : Contains (places (atom_at q F).table) name.place = subst (λ t. Contains (places t) name.place) (sym w.table) w.place in
      let of_atom : Contains (rows_of q kept F) (get_or (rows_of q (stored db) F) name.place []) = subst (λ rs. Contains rs (get_or (rows_of q (stored db) F) name.place [])) (sym (rows F w.here))
      (Contains-map (λ p. get_or (rows_of q (stored db) F) p []) (places (atom_at q F).table) name.place p) in
      subst (λ t. Contains (get_or kept t []) (get_or (get_or (stored db) t []) name.place [])) w.table of_atom

  flat_apart : (a b : RowId) → Contains flat a → Contains flat b → AreOfOneBlock db a b → a ≡ b
  flat_apart a b ma mb block =
      let l : a.table < length (stored db) = subst (λ n. a.table < n) (sym tables) (flat_stored a ma).0 in
      let kb : Contains (get_or kept a.table []) (row_named db b) = subst (λ t. Contains (get_or kept t []) (row_named db b)) (sym block.0) (keeps b mb) in
      same-name a b block.0
      (one_place db q row valid fits kept repair a b (row_named db a) (row_named db b) (row_there db flat flat_stored a ma) (row_there db flat flat_stored b mb) block.0 l block.1 (keeps a ma) kb)

  -- ---- in order

  later_names : (n : ℕ) → n < length q.atoms → (ps : List ℕ) → IsStrictlySortedBy nat_cmp ps → Follows (ComesBefore q) (names_in (atom_at q n).table ps)
  unfolding IsStrictlySortedBy
  later_names n l [] s = tt
  later_names n l (p ∷ ps) s = (
    λ y m.
        let k = Contains-from_map (λ p. record { table = (atom_at q n).table; place = p }) ps y m in
        let less : nat_cmp p k.0 ≡ Less = member_by_recursion (λ r. nat_cmp p r ≡ Less) ps s.0 k.0 k.1 in
        subst (ComesBefore q (record { table = (atom_at q n).table; place = p })) k.2 (record {
          first = n;
          second = n;
          of_first = (l, refl);
          of_second = (l, refl);
          before = inr (refl, ranked p k.0 Less (sym less));
        }),
    later_names n l ps s.1,
  )

  ordered : (n : ℕ) (atoms : List Atom) → ((G : ℕ) → G < length atoms → nth_atom atoms G ≡ atom_at q (n + G)) → n + length atoms ≡ length q.atoms → Follows (ComesBefore q) (flat_map names_at atoms)
  ordered n [] is size = tt
  ordered n (a ∷ atoms) is size =
      let l : n < length q.atoms = omega (arith, size) in
      let ea : a ≡ atom_at q n = is 0 (omega arith) ∙ ap (atom_at q) (let e : n + 0 ≡ n = omega arith in e) in
      let own : Follows (ComesBefore q) (names_at a) = subst (λ (x : Atom). Follows (ComesBefore q) (names_at x)) (sym ea) (later_names n l (places (atom_at q n).table) (rises n l)) in
      follows_joined (ComesBefore q) (names_at a) (flat_map names_at atoms) own
      (ordered (suc n) atoms (λ G lG. is (suc G) (omega (arith, lG)) ∙ ap (atom_at q) (let e : n + suc G ≡ suc n + G = omega arith in e)) (omega (arith, size)))
      (λ x y mx my.
      let p = Contains-from_map (λ p. record { table = a.table; place = p }) (places a.table) x mx in
      let b = Contains-from_flat_map names_at atoms y my in
      let G = atom_in atoms b.0 b.1 in
      let lG = G.1 in
      let r = Contains-from_map (λ p. record { table = b.0.table; place = p }) (places b.0.table) y b.2 in
      let second : atom_at q (n + suc G.0) ≡ b.0 = sym (is (suc G.0) (omega (arith, lG))) ∙ G.2 in
      record {
        first = n;
        second = n + suc G.0;
        of_first = (l, ap (λ (z : Atom). z.table) (sym ea) ∙ ap (λ (z : RowId). z.table) p.2);
        of_second = (omega (arith, lG, size), ap (λ (z : Atom). z.table) second ∙ ap (λ (z : RowId). z.table) r.2);
        before = inl (omega arith);
      })

  -- ---- each witness is hit

  contested : (name own : RowId) (y : List Value) → slice_get (get_or (stored db) own.table []) own.place ≡ Some y → AreOfOneBlock db name own → (row_named db name ≡ y → ⊥) → is_contested_in db name ≡ true
  contested name own y read block ne =
      let key = get_or (keys_of db) name.table [] in
      let x = row_named db name in
      let at : slice_get (get_or (stored db) name.table []) own.place ≡ Some y = subst (λ t. slice_get (get_or (stored db) t []) own.place ≡ Some y) (sym block.0) read in
      let is : get_or (get_or (stored db) name.table []) own.place [] ≡ y = get_or_from_slice_get (get_or (stored db) name.table []) own.place y [] at in
      let shares : SharesKey key x y = subst (λ z. SharesKey key x z) (row_read db own y read) block.1 in
      list_any_at (λ z. is_of_block key x z && not (row_eq x z)) (get_or (stored db) name.table []) own.place [] (slice_get_within (get_or (stored db) name.table []) own.place y at)
      (subst (λ z. (is_of_block key x z && not (row_eq x z)) ≡ true) (sym is)
      (and_from (is_of_block key x y) (not (row_eq x y)) ((row_decides (key_of key x) (key_of key y)).1 (key-from_shares key x y shares))
      (not_from_false (row_eq x y) (false_from_ne_true (row_eq x y) (λ e. ne ((row_decides x y).0 e))))))

  module _ (ids : List RowId) (m : Contains all ids) where
    abbrev its : AreNamesOf q db row ids
    its = (h.exactly ids).0 m

    abbrev w : List (List Value)
    w = its.0

    hit : (name : RowId) × Contains chosen name × Hits db name ids
    hit = go (find_below (λ F. Contains (rows_of q kept F) (row_at w F)) (λ F. dec_mem (rows_of q kept F) (row_at w F)) (length q.atoms))
      where
        go : ((F : ℕ) → F < length q.atoms → Contains (rows_of q kept F) (row_at w F)) ⊎ ((F : ℕ) × (F < length q.atoms) × (Contains (rows_of q kept F) (row_at w F) → ⊥)) → (name : RowId) × Contains chosen name × Hits db name ids
        go (inl stays) = absurd (none w (record { size = its.1.size; kept = stays; holds = its.1.holds; answers = its.1.answers }))
        go (inr (F, l, not_kept)) = other ((at_table q (keys_of db) (stored db) (fits_tables q db fits) kept repair F l).one (row_at w F) (its.1.kept F l))
          where
            other : HasOne (atom_key q F) (rows_of q kept F) (row_at w F) → (name : RowId) × Contains chosen name × Hits db name ids
            other o = by_place (Contains-from_map (λ p. get_or (rows_of q (stored db) F) p []) (places (atom_at q F).table) o.row (subst (λ rs. Contains rs o.row) (rows F l) o.is_kept))
              where
                ne : o.row ≡ row_at w F → ⊥
                ne e = not_kept (mem-eq o.row (row_at w F) (rows_of q kept F) e o.is_kept)

                by_place : (p : ℕ) × Contains (places (atom_at q F).table) p × (get_or (rows_of q (stored db) F) p [] ≡ o.row) → (name : RowId) × Contains chosen name × Hits db name ids
                by_place (p, mp, is) =
                    let name : RowId = record { table = (atom_at q F).table; place = p } in
                    let own = own_at db q.atoms ids w its.2 F l in
                    let read = row_read db own.0 (row_at w F) own.2.row in
                    let shares : SharesKey (get_or (keys_of db) (atom_at q F).table []) o.row (row_at w F) = subst (λ key. SharesKey key o.row (row_at w F)) (fits.keyed F l) (shares-sym (atom_key q F) (row_at w F) o.row o.shares) in
                    let block : AreOfOneBlock db name own.0 = (
                      sym own.2.table,
                      subst (λ y. SharesKey (get_or (keys_of db) (atom_at q F).table []) (row_named db name) y) (sym read) (subst (λ x. SharesKey (get_or (keys_of db) (atom_at q F).table []) x (row_at w F)) (sym is) shares),
                    ) in
                    let differ : row_named db name ≡ row_at w F → ⊥ = λ e. ne (sym is ∙ e) in
                    let places_differ : p ≢ own.0.place = λ e. differ (ap (λ r. get_or (get_or (stored db) (atom_at q F).table []) r []) e ∙ ap (λ t. get_or (get_or (stored db) t []) own.0.place []) (sym own.2.table) ∙ read) in
                    (name, (Contains-filter (is_contested_in db) flat name).1 (into F p l mp, contested name own.0 (row_at w F) own.2.row block differ), (own.0, own.1, (block, places_differ)))

  in_chosen : (name : RowId) → Contains chosen name → Contains flat name × (is_contested_in db name ≡ true)
  in_chosen name m = (Contains-filter (is_contested_in db) flat name).0 m

  pub are_chosen : AreChosenAgainst db q all chosen
  are_chosen = record {
    stored = λ name m. flat_stored name (in_chosen name m).0;
    contested = λ name m. (in_chosen name m).1;
    of_atoms = λ name m. let w = placed name (in_chosen name m).0 in (w.atom, w.here, w.table);
    apart = λ a b ma mb block. flat_apart a b (in_chosen a ma).0 (in_chosen b mb).0 block;
    in_order = follows_at (ComesBefore q) no_name chosen (follows_filtered (ComesBefore q) (is_contested_in db) flat (ordered 0 q.atoms (λ G l. ap (atom_at q) (let e : G ≡ 0 + G = omega arith in e)) (omega arith)));
    hit = hit;
  }

pub rejecting_chosen : (db : List Table) (q : Query) (row : List Value) → IsDatabase db → FitsDatabase q db → (all : List (List RowId)) → AreAllNames q db row all → (names : List RowId) → AreRejectingRows db q row names → AreChosenAgainst db q all names
rejecting_chosen db q row valid fits all h names (ns, (kept, repair, are, none), is) =
    subst (AreChosenAgainst db q all) (ap (contested_of db) (sym are.are) ∙ sym is) (are_chosen db q row valid fits all h kept repair are.places are.rises are.there are.rows none)
