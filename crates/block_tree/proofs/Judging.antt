-- Blocks that are verified one after another are a tree; and at most one thing is said of blocks.
use Rattle.std.proofs.Common.{◌≡◌, inl, inr, ℕ, ◌+◌, List, [], ◌∷◌, ◌++◌, length, flat_map, Contains, refl, ap, sym, ◌∙◌, subst, append_assoc}
use Rattle.std.proofs.lemmas.List.{append-nil}
use Rattle.std.proofs.lemmas.List.Elements.{Contains-append_left, Contains-append_right}
use Rattle.std.specs.List.{AllZip}
use Rattle.cqa_value.specs.declared.value.Value.{Value}
use Rattle.cqa_model.specs.declared.query.Query.{Query}
use Rattle.cqa_model.specs.Query.{atom_key}
use Rattle.cqa_model.specs.Repairs.{SharesKey}
use Rattle.cqa_model.specs.Plan.{Placed}
use Rattle.cqa_model.proofs.Classic.{mem-head, mem-tail, mem-nil, mem-cases}
use Rattle.cqa_model.proofs.Repairs.{shares-sym}
use Rattle.block_tree.specs.declared.node.Node.{Node}
use Rattle.block_tree.specs.declared.cause.BlockCause.{BlockCause}
use Rattle.block_tree.specs.declared.cause.BlockCause.TheVariants.{WrongTable, NotABlock, OtherRows, NotFitting, Missing, Surplus}
use Rattle.block_tree.specs.declared.cause.RewriteCheck.{RewriteCheck}
use Rattle.block_tree.specs.declared.cause.RewriteCheck.TheVariants.{Verified, BadBlock}
use Rattle.block_tree.specs.Trees.{IsBlockOf, FitEach, IsTree, ListAlike, AllAlike, listing, first_row}
use Rattle.block_tree.specs.Judging.{Due, due_first, dues_below, CanStand, FailsBy, JudgesBlocks}
use Rattle.block_tree.specs.Laws.{VerifiedIsPassing, JudgedOnce}

-- ---- at most one answer

module _ (q : Query) (row : List Value) where
  fails_once : (before : List Node) (d : Due) (b : Node) (c e : BlockCause) → FailsBy q row before d b c → FailsBy q row before d b e → c ≡ e
  fails_once before d b WrongTable WrongTable f g = refl
  fails_once before d b WrongTable NotABlock f g = absurd (f g.0)
  fails_once before d b WrongTable OtherRows f g = absurd (f g.0.0)
  fails_once before d b WrongTable NotFitting f g = absurd (f g.0.0.0)
  fails_once before d b NotABlock WrongTable f g = absurd (g f.0)
  fails_once before d b NotABlock NotABlock f g = refl
  fails_once before d b NotABlock OtherRows f g = absurd (f.1 g.0)
  fails_once before d b NotABlock NotFitting f g = absurd (f.1 g.0.0)
  fails_once before d b OtherRows WrongTable f g = absurd (g f.0.0)
  fails_once before d b OtherRows NotABlock f g = absurd (g.1 f.0)
  fails_once before d b OtherRows OtherRows f g = refl
  fails_once before d b OtherRows NotFitting f g = absurd (f.1 g.0)
  fails_once before d b NotFitting WrongTable f g = absurd (g f.0.0.0)
  fails_once before d b NotFitting NotABlock f g = absurd (g.1 f.0.0)
  fails_once before d b NotFitting OtherRows f g = absurd (g.1 f.0)
  fails_once before d b NotFitting NotFitting f g = refl
  fails_once before d b Missing e f g = absurd f
  fails_once before d b Surplus e f g = absurd f
  fails_once before d b c Missing f g = absurd g
  fails_once before d b c Surplus f g = absurd g

  stands_not : (before : List Node) (d : Due) (b : Node) (c : BlockCause) → FailsBy q row before d b c → CanStand q row before d b → ⊥
  stands_not before d b WrongTable f s = f s.0.0.0
  stands_not before d b NotABlock f s = f.1 s.0.0
  stands_not before d b OtherRows f s = f.1 s.0
  stands_not before d b NotFitting f s = f.1 s
  stands_not before d b Missing f s = f
  stands_not before d b Surplus f s = f

  judges_once : (nodes : List Node) (before : List Node) (dues : List Due) (r s : RewriteCheck) → JudgesBlocks q row before dues nodes r → JudgesBlocks q row before dues nodes s → r ≡ s
  judges_once [] before [] r s a b = a ∙ sym b
  judges_once [] before (d ∷ ds) r s a b = a ∙ sym b
  judges_once (n ∷ ns) before [] r s a b = a ∙ sym b
  judges_once (n ∷ ns) before (d ∷ ds) r s (inl (c, f, e)) (inl (k, g, h)) = e ∙ ap (BadBlock (length before + 1)) (fails_once before d n c k f g) ∙ sym h
  judges_once (n ∷ ns) before (d ∷ ds) r s (inl (c, f, e)) (inr (stands, more)) = absurd (stands_not before d n c f stands)
  judges_once (n ∷ ns) before (d ∷ ds) r s (inr (stands, more)) (inl (k, g, h)) = absurd (stands_not before d n k g stands)
  judges_once (n ∷ ns) before (d ∷ ds) r s (inr (stands, more)) (inr (again, other)) = judges_once ns (before ++ n ∷ []) (dues_below d n.rows ++ ds) r s more other

pub judged_once : JudgedOnce
judged_once q row order nodes a b h k = judges_once q row nodes [] (due_first [] order) a b h k

-- ---- verified blocks are a tree

module _ (q : Query) (row : List Value) where
  -- the tree that is due
  abbrev IsDueTree : Due → List Node → Type 0
  IsDueTree d part = IsTree q row d.taken (d.atom ∷ d.rest) part

  -- each block is listed as those before it
  abbrev NewAll : List Node → List Node → Type 0
  NewAll before [] = Unit {0}
  NewAll before (b ∷ bs) = ((a : Node) → Contains before a → ListAlike q a b) × NewAll (before ++ b ∷ []) bs

  abbrev below : List Placed → ℕ → List ℕ → List (List Value) → List Due
  below taken F rest rows = flat_map (λ x. due_first (record { atom = F; row = x } ∷ taken) rest) rows

  abbrev AreUnder : List Placed → ℕ → List ℕ → List (List Value) → List (List Node) → Type 0
  AreUnder taken F rest rows parts = AllZip (λ x part. IsTree q row (record { atom = F; row = x } ∷ taken) rest part) rows parts

  -- what is due below rows and then elsewhere: trees under the rows, and the others
  parted : (taken : List Placed) (F : ℕ) (rest : List ℕ) (rows : List (List Value)) (ds : List Due) (parts : List (List Node)) → AllZip IsDueTree (below taken F rest rows ++ ds) parts →
      (mine : List (List Node)) × (others : List (List Node)) × AreUnder taken F rest rows mine × AllZip IsDueTree ds others × (listing parts ≡ listing mine ++ listing others)
  parted taken F rest [] ds parts h = ([], parts, tt, h, refl)
  parted taken F [] (x ∷ rows) ds parts h =
      let r = parted taken F [] rows ds parts h in
      ([] ∷ r.0, r.1, (refl, r.2), r.3, r.4)
  parted taken F (G ∷ rest) (x ∷ rows) ds [] h = absurd h
  parted taken F (G ∷ rest) (x ∷ rows) ds (part ∷ parts) h =
      let r = parted taken F (G ∷ rest) rows ds parts h.1 in
      (part ∷ r.0, r.1, (h.0, r.2), r.3, ap (λ z. part ++ z) r.4 ∙ sym (append_assoc part (listing r.0) (listing r.1)))

  united : (taken : List Placed) (F : ℕ) (rest : List ℕ) (rows : List (List Value)) (ds : List Due) (mine others : List (List Node)) → AreUnder taken F rest rows mine → AllZip IsDueTree ds others →
      (parts : List (List Node)) × AllZip IsDueTree (below taken F rest rows ++ ds) parts × (listing parts ≡ listing mine ++ listing others)
  united taken F rest [] ds [] others h k = (others, k, refl)
  united taken F rest [] ds (part ∷ mine) others h k = absurd h
  united taken F rest (x ∷ rows) ds [] others h k = absurd h
  united taken F [] (x ∷ rows) ds (part ∷ mine) others h k =
      let r = united taken F [] rows ds mine others h.1 k in
      let none : part ≡ [] = h.0 in
      (r.0, r.1, r.2 ∙ ap (λ z. (z ++ listing mine) ++ listing others) (sym none))
  united taken F (G ∷ rest) (x ∷ rows) ds (part ∷ mine) others h k =
      let r = united taken F (G ∷ rest) rows ds mine others h.1 k in
      (part ∷ r.0, (h.0, r.1), ap (λ z. part ++ z) r.2 ∙ sym (append_assoc part (listing mine) (listing others)))

  trees_of : (nodes : List Node) (before : List Node) (dues : List Due) → JudgesBlocks q row before dues nodes Verified →
      (parts : List (List Node)) × (nodes ≡ listing parts) × AllZip IsDueTree dues parts × NewAll before nodes
  trees_of [] before [] h = ([], refl, tt, tt)
  trees_of [] before (d ∷ ds) h = absurd (cc h)
  trees_of (b ∷ bs) before [] h = absurd (cc h)
  trees_of (b ∷ bs) before (d ∷ ds) (inl (c, f, e)) = absurd (cc e)
  trees_of (b ∷ bs) before (d ∷ ds) (inr (stands, more)) =
      let r = trees_of bs (before ++ b ∷ []) (dues_below d b.rows ++ ds) more in
      let u = parted d.taken d.atom d.rest b.rows ds r.0 r.2 in
      let right : b.atom ≡ d.atom = stands.0.0.0 in
      let is : b ∷ listing u.0 ≡ (record { atom = d.atom; rows = b.rows }) ∷ listing u.0 = λ i. (record { atom = right i; rows = b.rows }) ∷ listing u.0 in (
        (b ∷ listing u.0) ∷ u.1,
        ap (λ z. b ∷ z) (r.1 ∙ u.4),
        ((b.rows, u.0, is, stands.0.0.1, stands.1, u.2), u.3),
        (stands.0.1, r.3),
      )

  -- a block of its own atom that is due
  verified : (ns : List Node) (before : List Node) (d : Due) (ds : List Due) (rows : List (List Value)) (mine others : List (List Node)) → ns ≡ listing mine ++ listing others →
      IsBlockOf (atom_key q d.atom) rows → FitEach q row d.taken d.atom rows → AreUnder d.taken d.atom d.rest rows mine → AllZip IsDueTree ds others →
      NewAll before ((record { atom = d.atom; rows = rows }) ∷ ns) →
      ((dues : List Due) (parts : List (List Node)) → ns ≡ listing parts → AllZip IsDueTree dues parts → NewAll (before ++ (record { atom = d.atom; rows = rows }) ∷ []) ns → JudgesBlocks q row (before ++ (record { atom = d.atom; rows = rows }) ∷ []) dues ns Verified) →
      JudgesBlocks q row before (d ∷ ds) ((record { atom = d.atom; rows = rows }) ∷ ns) Verified
  verified ns before d ds rows mine others is block each under zip new next =
      let u = united d.taken d.atom d.rest rows ds mine others under zip in
      inr ((((refl, block), new.0), each), next (dues_below d rows ++ ds) u.0 (is ∙ sym u.2) u.1 new.1)

  judged : (nodes : List Node) (before : List Node) (dues : List Due) (parts : List (List Node)) → nodes ≡ listing parts → AllZip IsDueTree dues parts → NewAll before nodes → JudgesBlocks q row before dues nodes Verified
  judged [] before [] parts is zip new = refl
  judged [] before (d ∷ ds) [] is zip new = absurd zip
  judged [] before (d ∷ ds) (part ∷ parts) is ((rows, mine, e, block, each, under), zip) new = absurd (cc (is ∙ ap (λ z. z ++ listing parts) e))
  judged (b ∷ bs) before [] [] is zip new = absurd (cc is)
  judged (b ∷ bs) before [] (part ∷ parts) is zip new = absurd zip
  judged (b ∷ bs) before (d ∷ ds) [] is zip new = absurd zip
  judged (b ∷ bs) before (d ∷ ds) (part ∷ parts) is ((rows, mine, e, block, each, under), zip) new =
      let whole : b ∷ bs ≡ (record { atom = d.atom; rows = rows }) ∷ (listing mine ++ listing parts) = is ∙ ap (λ z. z ++ listing parts) e in
      let first : b ≡ record { atom = d.atom; rows = rows } = cc whole in
      let rest : bs ≡ listing mine ++ listing parts = cc whole in
      subst (λ z. JudgesBlocks q row before (d ∷ ds) (z ∷ bs) Verified) (sym first)
      (verified bs before d ds rows mine parts rest block each under zip (subst (λ z. NewAll before (z ∷ bs)) first new)
      (λ dues ps i z n. judged bs (before ++ (record { atom = d.atom; rows = rows }) ∷ []) dues ps i z n))

  -- ---- listed alike

  alike_self : (a : Node) → ListAlike q a a
  alike_self a e s = refl

  alike_sym : (a b : Node) → ListAlike q a b → ListAlike q b a
  alike_sym a b h e s = sym (h (sym e) (shares-sym (atom_key q a.atom) (first_row b) (first_row a) (subst (λ F. SharesKey (atom_key q F) (first_row b) (first_row a)) e s)))

  all_alike : (nodes : List Node) (before : List Node) → NewAll before nodes → ((a b : Node) → Contains before a → Contains nodes b → ListAlike q a b) × AllAlike q nodes
  all_alike [] before new = ((λ a b m k. absurd (mem-nil b k)), (λ a b m k. absurd (mem-nil a m)))
  all_alike (n ∷ ns) before new =
      let r = all_alike ns (before ++ n ∷ []) new.1 in (
        (λ a b m k. elim (mem-cases b n ns k) [
          | inl e ↦ subst (λ z. ListAlike q a z) e (new.0 a m)
          | inr l ↦ r.0 a b (Contains-append_left before (n ∷ []) a m) l
        ]),
        (λ a b m k. elim (mem-cases a n ns m) [
          | inl e ↦ elim (mem-cases b n ns k) [
            | inl f ↦ subst (λ z. ListAlike q z b) e (subst (λ z. ListAlike q n z) f (alike_self n))
            | inr l ↦ subst (λ z. ListAlike q z b) e (r.0 n b (Contains-append_right before (n ∷ []) n (mem-head n [])) l)
          ]
          | inr j ↦ elim (mem-cases b n ns k) [
            | inl f ↦ subst (λ z. ListAlike q a z) f (alike_sym n a (r.0 n a (Contains-append_right before (n ∷ []) n (mem-head n [])) j))
            | inr l ↦ r.1 a b j l
          ]
        ]),
      )

  new_all : (nodes : List Node) (before : List Node) → ((a b : Node) → Contains (before ++ nodes) a → Contains nodes b → ListAlike q a b) → NewAll before nodes
  new_all [] before h = tt
  new_all (n ∷ ns) before h = (
    (λ a m. h a n (Contains-append_left before (n ∷ ns) a m) (mem-head n ns)),
    new_all ns (before ++ n ∷ []) (λ a b m k. h a b (subst (λ z. Contains z a) (append_assoc before (n ∷ []) ns) m) (mem-tail b n ns k)),
  )

  -- what is due first is the tree of the order
  first_due : (order : List ℕ) (nodes : List Node) (parts : List (List Node)) → nodes ≡ listing parts → AllZip IsDueTree (due_first [] order) parts → IsTree q row [] order nodes
  first_due [] nodes [] is zip = is
  first_due [] nodes (part ∷ parts) is zip = absurd zip
  first_due (F ∷ order) nodes [] is zip = absurd zip
  first_due (F ∷ order) nodes (part ∷ []) is zip = subst (λ z. IsTree q row [] (F ∷ order) z) (sym (is ∙ append-nil part)) zip.0
  first_due (F ∷ order) nodes (part ∷ other ∷ parts) is zip = absurd zip.1

  due_of : (order : List ℕ) (nodes : List Node) → IsTree q row [] order nodes → (parts : List (List Node)) × (nodes ≡ listing parts) × AllZip IsDueTree (due_first [] order) parts
  due_of [] nodes tree = ([], tree, tt)
  due_of (F ∷ order) nodes tree = (nodes ∷ [], sym (append-nil nodes), (tree, tt))

pub verified_is_passing : VerifiedIsPassing
verified_is_passing q row order nodes = (to, from)
  where
    to : JudgesBlocks q row [] (due_first [] order) nodes Verified → IsTree q row [] order nodes × AllAlike q nodes
    to h = let r = trees_of q row nodes [] (due_first [] order) h in (first_due q row order nodes r.0 r.1 r.2, (all_alike q row nodes [] r.3).1)

    from : IsTree q row [] order nodes × AllAlike q nodes → JudgesBlocks q row [] (due_first [] order) nodes Verified
    from (tree, alike) = let d = due_of q row order nodes tree in judged q row nodes [] (due_first [] order) d.0 d.1 d.2 (new_all q row nodes [] alike)
