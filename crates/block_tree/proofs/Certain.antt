-- Where a tree of blocks passes, each repair of tables with these blocks holds a witness.
use Rattle.std.proofs.Common.{◌≡◌, ℕ, ◌<◌, List, [], ◌∷◌, length, get_or, Contains, sym, subst}
use Rattle.std.specs.List.{AllZip}
use Rattle.std.proofs.lemmas.List.Elements.{Contains-get_or}
use Rattle.cqa_value.specs.declared.value.Value.{Value}
use Rattle.cqa_value.proofs.Words.{Contains-flat_map}
use Rattle.cqa_model.specs.declared.query.Query.{Query}
use Rattle.cqa_model.specs.Database.{keys_of, stored}
use Rattle.cqa_model.specs.Repairs.{SharesKey, IsRepairBy}
use Rattle.cqa_model.specs.Query.{atom_key, rows_of}
use Rattle.cqa_model.specs.Plan.{Placed, Fits}
use Rattle.cqa_model.specs.Partial.{view_of, AllFit, IsPartial}
use Rattle.cqa_model.proofs.Classic.{mem-head, mem-tail}
use Rattle.cqa_model.proofs.Fitting.{FitsTables, fits_tables}
use Rattle.cqa_model.proofs.Views.{view-in_range}
use Rattle.cqa_model.proofs.Reification.{placed, kept-stored, row_of_block}
use Rattle.cqa_model.proofs.Exactness.{full, forget}
use Rattle.block_tree.specs.declared.node.Node.{Node}
use Rattle.block_tree.specs.Trees.{IsBlockOf, FitEach, IsTree, HasListedBlocks, listing}
use Rattle.block_tree.specs.Laws.{PassingIsCertain}
use Rattle.block_tree.proofs.Zips.{zip_of}
use Rattle.block_tree.proofs.Orders.{IsLeft, order_left}

abbrev node : ℕ → List (List Value) → Node
node F rows = record { atom = F; rows = rows }

module _ (q : Query) (keys : List (List ℕ)) (tables : List (List (List Value))) (fits : FitsTables q keys tables) (row : List Value) (long : length row ≡ length q.answer)
    (all : List Node) (has : HasListedBlocks q tables all) (r : List (List (List Value))) (hr : IsRepairBy keys tables r) where
  abbrev HasWitness : List Placed → Type 0
  HasWitness taken = (w : List (List Value)) × IsPartial q row taken r w

  -- the row that the repair keeps of a block is listed, so there is a tree under it
  step : (F : ℕ) (taken : List Placed) → AllFit q row taken → (view_of q taken).has F → (rows : List (List Value)) (parts : List (List Node)) (order : List ℕ) → Contains all (node F rows) →
      IsBlockOf (atom_key q F) rows → FitEach q row taken F rows → AllZip (λ x part. IsTree q row (placed F x ∷ taken) order part) rows parts →
      ((y : List Value) (part : List Node) → Fits q row taken F y → Contains parts part → IsTree q row (placed F y ∷ taken) order part → HasWitness (placed F y ∷ taken)) → HasWitness taken
  step F taken fit here rows parts order mine block each under next = go (row_of_block q keys tables fits row taken fit r hr F lF x stored)
    where
      lF : F < length q.atoms
      lF = view-in_range q taken F here

      x : List Value
      x = get_or rows 0 []

      mx : Contains rows x
      mx = Contains-get_or rows 0 [] block.some

      stored : Contains (rows_of q tables F) x
      stored = ((has (node F rows) mine x x mx).0 mx).0

      go : (y : List Value) × (Contains (rows_of q r F) y × SharesKey (atom_key q F) x y) → HasWitness taken
      go (y, (my, s)) =
          let listed : Contains rows y = (has (node F rows) mine x y mx).1 (kept-stored q keys tables fits row taken fit r hr F lF y my, s) in
          let part = zip_of (λ x part. IsTree q row (placed F x ∷ taken) order part) rows parts under y listed in
          let w = next y part.0 (each y listed) part.1 part.2 in
          (w.0, forget q keys tables fits row long taken r F y my w.0 w.1)

  witness : (order : List ℕ) (taken : List Placed) → AllFit q row taken → IsLeft q (view_of q taken) order → (nodes : List Node) → ((n : Node) → Contains nodes n → Contains all n) →
      IsTree q row taken order nodes → HasWitness taken
  witness [] taken fit none nodes within tree = full q keys tables fits row long taken fit none r
  witness (F ∷ order) taken fit (here, left) nodes within (rows, parts, is, block, each, under) =
      step F taken fit here rows parts order (within (node F rows) (subst (λ ns. Contains ns (node F rows)) (sym is) (mem-head (node F rows) (listing parts)))) block each under
      (λ y part fy m tree. witness order (placed F y ∷ taken) (here, fy, fit) left part
      (λ n k. within n (subst (λ ns. Contains ns n) (sym is) (mem-tail n (node F rows) (listing parts) (Contains-flat_map (λ p. p) parts part n m k)))) tree)

pub passing_is_certain : PassingIsCertain
passing_is_certain db q row order nodes fits passes has r hr =
    let w = witness q (keys_of db) (stored db) (fits_tables q db fits) row passes.long nodes has r hr order [] tt (order_left q order passes.once) nodes (λ n m. m) passes.tree in
    (w.0, record { size = w.1.size; kept = w.1.keeps; holds = w.1.holds; answers = w.1.answers })
