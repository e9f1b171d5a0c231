-- The tree that a plan makes: it is there, it is one alone, and it passes.
use Rattle.std.proofs.Common.{◌≡◌, inl, inr, ℕ, ◌<◌, List, [], ◌∷◌, ◌++◌, length, get_or, filter, Contains, refl, ap, sym, ◌∙◌, subst}
use Rattle.std.specs.List.{AllZip}
use Rattle.std.specs.List.Sorted.{IsStrictlySortedBy}
use Rattle.std.specs.declared.cmp.Ordering.TheVariants.{Less}
use Rattle.std.proofs.lemmas.List.Kept.{IsStrictlySortedBy-filter}
use Rattle.std.proofs.lemmas.List.Elements.{Contains-get_or}
use Rattle.std.proofs.lemmas.Map.Keys.{Less-from_sorted}
use Rattle.cqa_value.specs.declared.value.Value.{Value}
use Rattle.cqa_value.specs.Values.{row_eq}
use Rattle.cqa_value.proofs.Words.{Contains-from_flat_map, all_zip_right, not_less}
use Rattle.cqa_model.specs.declared.query.Query.{Query}
use Rattle.cqa_model.specs.Database.{block_cmp, key_of, stored}
use Rattle.cqa_model.specs.Blocks.{AreBlocks}
use Rattle.cqa_model.specs.Query.{atom_key, rows_of}
use Rattle.cqa_model.specs.Plan.{Placed, PlanHolds}
use Rattle.cqa_model.proofs.Classic.{mem-head, mem-tail, mem-nil, mem-cases, dec_both}
use Rattle.cqa_model.proofs.Decisions.{dec_fits, dec_plan}
use Rattle.cqa_model.proofs.BlockOrder.{block_total, key-from_shares}
use Rattle.cqa_model.proofs.Elimination.{plan-eliminates}
use Rattle.cqa_model.specs.Variables.{whole}
use Rattle.cqa_model.proofs.PlanAtoms.{plan-distinct, plan-atoms, plan-all}
use Rattle.block_tree.specs.declared.node.Node.{Node}
use Rattle.block_tree.specs.Trees.{IsBlockOf, IsTree, ListAlike, listing, first_row}
use Rattle.block_tree.proofs.Zips.{zip_weaker}
use Rattle.plan_rows.specs.Links.{RowHolds}
use Rattle.fo_plan.specs.FirstBlock.{IsFirstWith}
use Rattle.fo_plan.proofs.First.{rows-in_order, some-first}
use Rattle.rewrite_text.specs.Made.{IsMade}
use Rattle.rewrite_text.specs.Laws.{MadeExists, MadeOnce, MadePasses}
use Rattle.rewrite_text.proofs.Blocks.{same_key, stored as block_stored, block_is, in_block, in_shares, has_some_row, blocks_once}

abbrev node : ℕ → List (List Value) → Node
node F rows = record { atom = F; rows = rows }

abbrev placed : ℕ → List Value → Placed
placed F x = record { atom = F; row = x }

choose_zip : {A B : Type 0} (R : A → B → Type 0) (xs : List A) → ((x : A) → Contains xs x → (y : B) × R x y) → (ys : List B) × AllZip R xs ys
choose_zip R [] h = ([], tt)
choose_zip R (x ∷ xs) h =
    let y = h x (mem-head x xs) in
    let ys = choose_zip R xs (λ z m. h z (mem-tail z x xs m)) in
    (y.0 ∷ ys.0, (y.1, ys.1))

pub zip_once : {A B : Type 0} (R : A → B → Type 0) → ((x : A) (y z : B) → R x y → R x z → y ≡ z) → (xs : List A) (ys zs : List B) → AllZip R xs ys → AllZip R xs zs → ys ≡ zs
zip_once R f [] [] [] h k = refl
zip_once R f [] [] (z ∷ zs) h k = absurd k
zip_once R f [] (y ∷ ys) zs h k = absurd h
zip_once R f (x ∷ xs) [] zs h k = absurd h
zip_once R f (x ∷ xs) (y ∷ ys) [] h k = absurd k
zip_once R f (x ∷ xs) (y ∷ ys) (z ∷ zs) h k =
    let e : y ≡ z = f x y z h.0 k.0 in
    let es : ys ≡ zs = zip_once R f xs ys zs h.1 k.1 in
    cc (e, es)

-- rows that strictly ascend differ
differ : (key : List ℕ) (rows : List (List Value)) → IsStrictlySortedBy (block_cmp key) rows → (i j : ℕ) → i < j → j < length rows → get_or rows i [] ≡ get_or rows j [] → ⊥
differ key rows sorted i j l k e =
    let x = get_or rows i [] in
    let less : block_cmp key x x ≡ Less = subst (λ z. block_cmp key x z ≡ Less) (sym e) (Less-from_sorted (block_cmp key) rows i j [] sorted l k) in
    not_less (block_cmp key) (block_total key) x less

module _ (q : Query) (tables : List (List (List Value))) (row : List Value) where
  abbrev Holds : List Placed → ℕ → List ℕ → List Value → Type 0
  Holds taken F plan y = RowHolds q tables row taken F plan y

  dec_holds : (taken : List Placed) (F : ℕ) (plan : List ℕ) (y : List Value) → Dec (RowHolds q tables row taken F plan y)
  dec_holds taken F plan y = dec_both (dec_fits q row taken F y) (dec_plan q tables row (placed F y ∷ taken) plan)

  pub first_once : (key : List ℕ) (rows : List (List Value)) (P : List Value → Type 0) (a b : List (List Value)) → IsFirstWith key rows P a → IsFirstWith key rows P b → a ≡ b
  first_once key rows P a b f g = meet f.before g.before f.behind g.behind (blocks_once key rows (f.before ++ a ∷ f.behind) (g.before ++ b ∷ g.behind) f.blocks g.blocks) f.none g.none
    where
      meet : (us vs xs ys : List (List (List Value))) → us ++ a ∷ xs ≡ vs ++ b ∷ ys → ((c : List (List Value)) → Contains us c → ((y : List Value) → Contains c y → P y) → ⊥) →
          ((c : List (List Value)) → Contains vs c → ((y : List Value) → Contains c y → P y) → ⊥) → a ≡ b
      meet [] [] xs ys e n m = cc e
      meet [] (v ∷ vs) xs ys e n m = let h : a ≡ v = cc e in absurd (m v (mem-head v vs) (subst (λ z. (y : List Value) → Contains z y → P y) h f.all))
      meet (u ∷ us) [] xs ys e n m = let h : u ≡ b = cc e in absurd (n u (mem-head u us) (subst (λ z. (y : List Value) → Contains z y → P y) (sym h) g.all))
      meet (u ∷ us) (v ∷ vs) xs ys e n m = meet us vs xs ys (cc e) (λ c k. n c (mem-tail c u us k)) (λ c k. m c (mem-tail c v vs k))

  pub once : (plan : List ℕ) (taken : List Placed) (a b : List Node) → IsMade q tables row taken plan a → IsMade q tables row taken plan b → a ≡ b
  once [] taken a b h k = h ∙ sym k
  once (F ∷ plan) taken a b (rows, parts, is, first, under) (others, more, says, also, below) =
      let e : rows ≡ others = first_once (atom_key q F) (rows_of q tables F) (Holds taken F plan) rows others first also in
      let below_rows : AllZip (λ x part. IsMade q tables row (placed F x ∷ taken) plan part) rows more = subst (λ z. AllZip (λ x part. IsMade q tables row (placed F x ∷ taken) plan part) z more) (sym e) below in
      let es : parts ≡ more = zip_once (λ x part. IsMade q tables row (placed F x ∷ taken) plan part) (λ x y z m n. once plan (placed F x ∷ taken) y z m n) rows parts more under below_rows in
      is ∙ ap (λ z. node F z ∷ listing parts) e ∙ ap (λ z. node F others ∷ listing z) es ∙ sym says

  module _ (sorted : (F : ℕ) → F < length q.atoms → IsStrictlySortedBy (block_cmp (atom_key q F)) (rows_of q tables F)) where
    exists : (plan : List ℕ) (taken : List Placed) → ((F : ℕ) → Contains plan F → F < length q.atoms) → PlanHolds q tables row taken plan → (nodes : List Node) × IsMade q tables row taken plan nodes
    exists [] taken inside holds = ([], refl)
    exists (F ∷ plan) taken inside holds =
        let good = some-first (atom_key q F) (rows_of q tables F) (Holds taken F plan) (dec_holds taken F plan) (sorted F (inside F (mem-head F plan))) holds in
        let parts = choose_zip (λ y part. IsMade q tables row (placed F y ∷ taken) plan part) good.0 (λ y m. exists plan (placed F y ∷ taken) (λ G n. inside G (mem-tail G F plan n)) (good.1.all y m).1) in
        (node F good.0 ∷ listing parts.0, (good.0, parts.0, refl {a = node F good.0 ∷ listing parts.0}, good.1, parts.1))

    block_of : (F : ℕ) → F < length q.atoms → (rows : List (List Value)) (before behind : List (List (List Value))) → AreBlocks (atom_key q F) (rows_of q tables F) (before ++ rows ∷ behind) → IsBlockOf (atom_key q F) rows
    block_of F l rows before behind are =
        let key = atom_key q F in
        let some = has_some_row key (rows_of q tables F) before rows behind are in
        let x = get_or rows 0 [] in
        let is = block_is key (rows_of q tables F) before rows behind are x (Contains-get_or rows 0 [] some) in
        let up : IsStrictlySortedBy (block_cmp key) rows = subst (IsStrictlySortedBy (block_cmp key)) is (IsStrictlySortedBy-filter (block_cmp key) (same_key key x) (rows_of q tables F) (sorted F l)) in
        record { some = some; alike = λ y z my mz. in_shares key (rows_of q tables F) before rows behind are y z my mz; differ = differ key rows up }

    tree : (plan : List ℕ) (taken : List Placed) → ((F : ℕ) → Contains plan F → F < length q.atoms) → (nodes : List Node) → IsMade q tables row taken plan nodes → IsTree q row taken plan nodes
    tree [] taken inside nodes made = made
    tree (F ∷ plan) taken inside nodes (rows, parts, is, first, under) = (
      rows,
      parts,
      is,
      block_of F (inside F (mem-head F plan)) rows first.before first.behind first.blocks,
      (λ x m. (first.all x m).0),
      zip_weaker (λ x part. IsMade q tables row (placed F x ∷ taken) plan part) (λ x part. IsTree q row (placed F x ∷ taken) plan part)
          (λ x part made. tree plan (placed F x ∷ taken) (λ G n. inside G (mem-tail G F plan n)) part made) rows parts under,
    )

  -- each node is a block of its table
  abbrev IsIn : Node → Type 0
  IsIn n = (before : List (List (List Value))) × (behind : List (List (List Value))) × AreBlocks (atom_key q n.atom) (rows_of q tables n.atom) (before ++ n.rows ∷ behind)

  are_in : (plan : List ℕ) (taken : List Placed) (nodes : List Node) → IsMade q tables row taken plan nodes → (n : Node) → Contains nodes n → IsIn n
  are_in [] taken nodes made n m = absurd (mem-nil n (subst (λ z. Contains z n) made m))
  are_in (F ∷ plan) taken nodes (rows, parts, is, first, under) n m = elim (mem-cases n (node F rows) (listing parts) (subst (λ z. Contains z n) is m)) [
    | inl e ↦ subst IsIn e (first.before, first.behind, first.blocks)
    | inr k ↦
        let part = Contains-from_flat_map (λ p. p) parts n k in
        let x = all_zip_right (λ x part. IsMade q tables row (placed F x ∷ taken) plan part) rows parts part.0 under part.1 in
        are_in plan (placed F x.0 ∷ taken) part.0 x.2 n part.2
  ]

  alike : (a b : Node) → IsIn a → IsIn b → ListAlike q a b
  alike a b ia ib e s =
      let key = atom_key q a.atom in
      let all = rows_of q tables a.atom in
      let ib2 : IsIn (node a.atom b.rows) = subst (λ F. IsIn (node F b.rows)) (sym e) ib in
      let sa = has_some_row key all ia.0 a.rows ia.1 ia.2 in
      let sb = has_some_row key all ib2.0 b.rows ib2.1 ib2.2 in
      let k : key_of key (first_row a) ≡ key_of key (first_row b) = key-from_shares key (first_row a) (first_row b) s in
      sym (block_is key all ia.0 a.rows ia.1 ia.2 (first_row a) (Contains-get_or a.rows 0 [] sa))
      ∙ ap (λ z. filter (λ y. row_eq z (key_of key y)) all) k
      ∙ block_is key all ib2.0 b.rows ib2.1 ib2.2 (first_row b) (Contains-get_or b.rows 0 [] sb)

pub made_once : MadeOnce
made_once db q row plan a b h k = once q (stored db) row plan [] a b h k

pub made_exists : MadeExists
made_exists db q row plan valid fits inside holds = exists q (stored db) row (rows-in_order db q valid fits) plan [] inside holds

pub made_passes : MadePasses
made_passes db q row plan nodes valid fits long planned made =
    let order = plan-eliminates q (whole q) plan planned in
    let inside = plan-atoms q plan order in (
      record {
        long = long;
        once = record { inside = inside; all = plan-all q (whole q) plan order; apart = plan-distinct q plan (whole q) order };
        tree = tree q (stored db) row (rows-in_order db q valid fits) plan [] inside nodes made;
        alike = λ a b ma mb. alike q (stored db) row a b (are_in q (stored db) row plan [] nodes made a ma) (are_in q (stored db) row plan [] nodes made b mb);
      },
      λ n m x y mx.
          let i = are_in q (stored db) row plan [] nodes made n m in
          let key = atom_key q n.atom in
          let all = rows_of q (stored db) n.atom in
          (λ my. (block_stored key all i.0 n.rows i.1 i.2 y my, in_shares key all i.0 n.rows i.1 i.2 x y mx my), λ h. in_block key all i.0 n.rows i.1 i.2 x y mx h.0 h.1),
    )
