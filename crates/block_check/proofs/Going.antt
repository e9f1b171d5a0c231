-- Steps of a walk over blocks.
use Rattle.std.proofs.Common.{◌≡◌, ◌⊎◌, inl, inr, ℕ, ◌+◌, ◌<◌, ◌≤◌, List, [], ◌∷◌, ◌++◌, length, get_or, take, drop, Contains, refl, sym, ap, ◌∙◌, subst, arith, append_assoc}
use Rattle.std.proofs.lemmas.List.{append-nil, take_more, drop_more, at_drop_more, drop_all, length-take-le}
use Rattle.std.proofs.lemmas.List.Elements.{Contains-append_cases}
use Rattle.cqa_value.specs.declared.value.Value.{Value}
use Rattle.cqa_model.specs.declared.query.Query.{Query}
use Rattle.block_tree.specs.declared.node.Node.{Node}
use Rattle.block_tree.specs.declared.cause.BlockCause.{BlockCause}
use Rattle.block_tree.specs.declared.cause.BlockCause.TheVariants.{Missing, Surplus}
use Rattle.block_tree.specs.declared.cause.RewriteCheck.{RewriteCheck}
use Rattle.block_tree.specs.declared.cause.RewriteCheck.TheVariants.{Verified, BadBlock}
use Rattle.cqa_model.specs.Query.{atom_key}
use Rattle.cqa_model.specs.Repairs.{SharesKey}
use Rattle.cqa_value.proofs.Words.{mem-nil, mem-cases}
use Rattle.cqa_model.proofs.Repairs.{shares-sym}
use Rattle.block_tree.specs.Trees.{ListAlike, AllAlike, first_row}
use Rattle.block_tree.specs.Judging.{Due, CanStand, FailsBy, JudgesBlocks, Judged, due_first, dues_below}
use Rattle.block_check.specs.declared.walk.Fault.{Fault}
use Rattle.block_check.specs.Firsts.{nth_node}
use Rattle.block_check.specs.Walking.{WalksOn, Breaks}

-- ---- lists of blocks

drop_at_node : (nodes : List Node) (at : ℕ) → at < length nodes → drop at nodes ≡ nth_node nodes at ∷ drop (at + 1) nodes
drop_at_node nodes at l = drop_more nodes at (record { atom = 0; rows = [] }) l

take_node : (nodes : List Node) (at : ℕ) → at < length nodes → take (at + 1) nodes ≡ take at nodes ++ nth_node nodes at ∷ []
take_node nodes at l = take_more nodes at (record { atom = 0; rows = [] }) l

lt_of : (a b : ℕ) → a ≤ b → (a ≡ b → ⊥) → a < b
lt_of a b l ne = omega (arith, l, ne)

drop_end : (nodes : List Node) (at : ℕ) → at ≡ length nodes → drop at nodes ≡ []
drop_end nodes at e = drop_all at nodes (omega (arith, e))

mem_last : (xs : List Node) (y a : Node) → Contains (xs ++ y ∷ []) a → Contains xs a ⊎ (a ≡ y)
mem_last xs y a m = elim (Contains-append_cases xs (y ∷ []) a m) [
  | inl k ↦ inl k
  | inr k ↦ elim (mem-cases a y [] k) [ inl e ↦ inr (sym e) | inr n ↦ absurd (mem-nil a n) ]
]

module _ (q : Query) (row : List Value) (nodes : List Node) where
  -- nothing is due
  pub stays : (at : ℕ) → at ≤ length nodes → AllAlike q (take at nodes) → WalksOn q row nodes [] at [] at
  stays at l alike = record { within = l; alike = alike; goes = λ ds r h. h }

  -- a block that stands, and what goes on below it
  pub stands_on : (d : Due) (at on : ℕ) → at < length nodes → CanStand q row (take at nodes) d (nth_node nodes at) → WalksOn q row nodes (dues_below d (nth_node nodes at).rows) (at + 1) [] on → WalksOn q row nodes (d ∷ []) at [] on
  stands_on d at on l stands g = record {
    within = g.within;
    alike = g.alike;
    goes = λ ds r h.
        let n = nth_node nodes at in
        let j : JudgesBlocks q row (take at nodes ++ n ∷ []) (dues_below d n.rows ++ ds) (drop (at + 1) nodes) r = subst (λ z. JudgesBlocks q row z (dues_below d n.rows ++ ds) (drop (at + 1) nodes) r) (take_node nodes at l) (g.goes ds r h) in
        subst (λ z. JudgesBlocks q row (take at nodes) (d ∷ ds) z r) (sym (drop_at_node nodes at l)) (inr (stands, j));
  }

  pub below_breaks : (d : Due) (at : ℕ) (f : Fault) → at < length nodes → CanStand q row (take at nodes) d (nth_node nodes at) → Breaks q row nodes (dues_below d (nth_node nodes at).rows) (at + 1) f → Breaks q row nodes (d ∷ []) at f
  below_breaks d at f l stands g = record {
    within = g.within;
    ends = λ ds.
        let n = nth_node nodes at in
        let j = subst (λ z. JudgesBlocks q row z (dues_below d n.rows ++ ds) (drop (at + 1) nodes) (BadBlock (f.at + 1) f.cause)) (take_node nodes at l) (g.ends ds) in
        subst (λ z. JudgesBlocks q row (take at nodes) (d ∷ ds) z (BadBlock (f.at + 1) f.cause)) (sym (drop_at_node nodes at l)) (inr (stands, j));
  }

  pub fails_here : (d : Due) (at : ℕ) (cause : BlockCause) → at < length nodes → FailsBy q row (take at nodes) d (nth_node nodes at) cause → Breaks q row nodes (d ∷ []) at (record { at = at; cause = cause })
  fails_here d at cause l fails = record {
    within = omega (arith, l);
    ends = λ ds.
        let e : BadBlock (at + 1) cause ≡ BadBlock (length (take at nodes) + 1) cause = ap (λ k. BadBlock (k + 1) cause) (sym (length-take-le at nodes (omega (arith, l)))) in
        subst (λ z. JudgesBlocks q row (take at nodes) (d ∷ ds) z (BadBlock (at + 1) cause)) (sym (drop_at_node nodes at l)) (inl (cause, fails, e));
  }

  pub ends_here : (d : Due) (at : ℕ) → at ≡ length nodes → Breaks q row nodes (d ∷ []) at (record { at = at; cause = Missing })
  ends_here d at e = record {
    within = omega (arith, e);
    ends = λ ds.
        let k : BadBlock (at + 1) Missing ≡ BadBlock (length (take at nodes) + 1) Missing = ap (λ z. BadBlock (z + 1) Missing) (sym (length-take-le at nodes (omega (arith, e)))) in
        subst (λ z. JudgesBlocks q row (take at nodes) (d ∷ ds) z (BadBlock (at + 1) Missing)) (sym (drop_end nodes at e)) k;
  }

  pub alike_more : (d : Due) (at : ℕ) → at < length nodes → AllAlike q (take at nodes) → CanStand q row (take at nodes) d (nth_node nodes at) → AllAlike q (take (at + 1) nodes)
  alike_more d at l alike stands = subst (AllAlike q) (sym (take_node nodes at l)) both
    where
      n : Node
      n = nth_node nodes at

      go : (a b : Node) → (Contains (take at nodes) a ⊎ (a ≡ n)) → (Contains (take at nodes) b ⊎ (b ≡ n)) → ListAlike q a b
      go a b (inl ma) (inl mb) = alike a b ma mb
      go a b (inl ma) (inr e) = subst (λ z. ListAlike q a z) (sym e) (stands.0.1 a ma)
      go a b (inr e) (inl mb) = λ same shares.
          let same2 : n.atom ≡ b.atom = ap (λ z. z.atom) (sym e) ∙ same in
          let s1 : SharesKey (atom_key q n.atom) (first_row n) (first_row b) = subst (λ z. SharesKey (atom_key q z.atom) (first_row z) (first_row b)) e shares in
          let s2 : SharesKey (atom_key q b.atom) (first_row b) (first_row n) = subst (λ z. SharesKey (atom_key q z) (first_row b) (first_row n)) same2 (shares-sym (atom_key q n.atom) (first_row n) (first_row b) s1) in
          ap (λ z. z.rows) e ∙ sym (stands.0.1 b mb (sym same2) s2)
      go a b (inr e) (inr f) = λ same shares. ap (λ z. z.rows) (e ∙ sym f)

      where_is : (a : Node) → Contains (take at nodes ++ n ∷ []) a → Contains (take at nodes) a ⊎ (a ≡ n)
      where_is a m = mem_last (take at nodes) n a m

      both : AllAlike q (take at nodes ++ n ∷ [])
      both a b ma mb = go a b (where_is a ma) (where_is b mb)

  -- ---- under the rows of a block

  pub under_starts : (d : Due) (rows : List (List Value)) (at : ℕ) → at ≤ length nodes → AllAlike q (take at nodes) → WalksOn q row nodes (dues_below d rows) at (dues_below d rows) at
  under_starts d rows at l alike = record { within = l; alike = alike; goes = λ ds r h. h }

  dues_more : (d : Due) (rows : List (List Value)) (i : ℕ) (x : List Value) → i < length rows → x ≡ get_or rows i x → dues_below d (drop i rows) ≡ due_first (record { atom = d.atom; row = x } ∷ d.taken) d.rest ++ dues_below d (drop (i + 1) rows)
  dues_more d rows i x l e = at_drop_more (dues_below d) rows i x l ∙ ap (λ z. due_first (record { atom = d.atom; row = z } ∷ d.taken) d.rest ++ dues_below d (drop (i + 1) rows)) (sym e)

  pub under_more : (d : Due) (rows : List (List Value)) (at on next i : ℕ) (x : List Value) → i < length rows → x ≡ get_or rows i x → WalksOn q row nodes (dues_below d rows) at (dues_below d (drop i rows)) on →
      WalksOn q row nodes (due_first (record { atom = d.atom; row = x } ∷ d.taken) d.rest) on [] next → WalksOn q row nodes (dues_below d rows) at (dues_below d (drop (i + 1) rows)) next
  under_more d rows at on next i x l e so tree = record {
    within = tree.within;
    alike = tree.alike;
    goes = λ ds r h.
        let here = due_first (record { atom = d.atom; row = x } ∷ d.taken) d.rest in
        let rest = dues_below d (drop (i + 1) rows) in
        let j : JudgesBlocks q row (take on nodes) (here ++ (rest ++ ds)) (drop on nodes) r = tree.goes (rest ++ ds) r h in
        let k : JudgesBlocks q row (take on nodes) ((here ++ rest) ++ ds) (drop on nodes) r = subst (λ z. JudgesBlocks q row (take on nodes) z (drop on nodes) r) (sym (append_assoc here rest ds)) j in
        so.goes ds r (subst (λ z. JudgesBlocks q row (take on nodes) (z ++ ds) (drop on nodes) r) (sym (dues_more d rows i x l e)) k);
  }

  pub under_breaks : (d : Due) (rows : List (List Value)) (at on i : ℕ) (x : List Value) (f : Fault) → i < length rows → x ≡ get_or rows i x → WalksOn q row nodes (dues_below d rows) at (dues_below d (drop i rows)) on →
      Breaks q row nodes (due_first (record { atom = d.atom; row = x } ∷ d.taken) d.rest) on f → Breaks q row nodes (dues_below d rows) at f
  under_breaks d rows at on i x f l e so breaks = record {
    within = breaks.within;
    ends = λ ds.
        let here = due_first (record { atom = d.atom; row = x } ∷ d.taken) d.rest in
        let rest = dues_below d (drop (i + 1) rows) in
        let k = subst (λ z. JudgesBlocks q row (take on nodes) z (drop on nodes) (BadBlock (f.at + 1) f.cause)) (sym (append_assoc here rest ds)) (breaks.ends (rest ++ ds)) in
        so.goes ds (BadBlock (f.at + 1) f.cause) (subst (λ z. JudgesBlocks q row (take on nodes) (z ++ ds) (drop on nodes) (BadBlock (f.at + 1) f.cause)) (sym (dues_more d rows i x l e)) k);
  }

  -- ---- the whole

  pub whole_stays : (plan : List ℕ) (on : ℕ) (reply : RewriteCheck) → WalksOn q row nodes (due_first [] plan) 0 [] on → JudgesBlocks q row (take on nodes) [] (drop on nodes) reply → Judged q row plan nodes reply
  whole_stays plan on reply g h = subst (λ z. JudgesBlocks q row [] z nodes reply) (append-nil (due_first [] plan)) (g.goes [] reply h)

  pub whole_verified : (plan : List ℕ) (on : ℕ) → WalksOn q row nodes (due_first [] plan) 0 [] on → on ≡ length nodes → Judged q row plan nodes Verified
  whole_verified plan on g e = whole_stays plan on Verified g (subst (λ z. JudgesBlocks q row (take on nodes) [] z Verified) (sym (drop_end nodes on e)) refl)

  pub whole_surplus : (plan : List ℕ) (on : ℕ) → WalksOn q row nodes (due_first [] plan) 0 [] on → (on ≡ length nodes → ⊥) → Judged q row plan nodes (BadBlock (on + 1) Surplus)
  whole_surplus plan on g ne =
      let l = lt_of on (length nodes) g.within ne in
      let k : BadBlock (on + 1) Surplus ≡ BadBlock (length (take on nodes) + 1) Surplus = ap (λ z. BadBlock (z + 1) Surplus) (sym (length-take-le on nodes g.within)) in
      whole_stays plan on (BadBlock (on + 1) Surplus) g (subst (λ z. JudgesBlocks q row (take on nodes) [] z (BadBlock (on + 1) Surplus)) (sym (drop_at_node nodes on l)) k)

  pub whole_breaks : (plan : List ℕ) (f : Fault) → Breaks q row nodes (due_first [] plan) 0 f → Judged q row plan nodes (BadBlock (f.at + 1) f.cause)
  whole_breaks plan f b = subst (λ z. JudgesBlocks q row [] z nodes (BadBlock (f.at + 1) f.cause)) (append-nil (due_first [] plan)) (b.ends [])
