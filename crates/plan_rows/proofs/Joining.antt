-- The columns that joins name, and agreement in these alone.
use Rattle.std.proofs.Common.{◌≡◌, ℕ, ◌+◌, ◌<◌, ◌≤◌, ◌⊎◌, inl, inr, List, [], ◌∷◌, ◌++◌, length, get_or, refl, sym, ◌∙◌, ap, subst, arith, Contains}
use native.Mathlib.Decide.{ℕ_discrete}
use Rattle.std.proofs.lemmas.Bool.{cases_lt}
use Rattle.std.proofs.lemmas.List.{get_or_past}
use Rattle.std.specs.List.{All}
use Rattle.std.proofs.lemmas.List.Elements.{All-contains, Contains-append_left, Contains-append_right, Contains-append_cases}
use Rattle.cqa_value.specs.declared.value.Value.{Value}
use Rattle.cqa_value.specs.Values.{nothing}
use Rattle.cqa_value.proofs.Words.{mem-nil}
use Rattle.cqa_model.specs.declared.query.Atom.{Atom}
use Rattle.cqa_model.specs.declared.query.ColRef.{ColRef}
use Rattle.cqa_model.specs.declared.query.Cond.{Cond}
use Rattle.cqa_model.specs.declared.query.Cond.TheVariants.{Join}
use Rattle.cqa_model.specs.declared.query.Query.{Query}
use Rattle.cqa_model.specs.declared.variable_class.Variables.{Variables}
use Rattle.cqa_model.specs.Naming.{AreVariables, class_at}
use Rattle.cqa_model.specs.Query.{atom_at}
use Rattle.cqa_model.specs.Variables.{IsChain, IsLinked, AreLinked}
use Rattle.cqa_model.proofs.Classic.{mem-head, mem-cases, dec_some}
use Rattle.cqa_model.proofs.Columns.{class-linked, linked-class}
use Rattle.cqa_model.proofs.Views.{linked-self, linked-sym}
use Rattle.table_blocks.proofs.Binding.{in-range, past-atoms}
use Rattle.join_access.specs.Deciding.{of_all}
use Rattle.plan_rows.specs.declared.joined.JoinedColumn.{JoinedColumn}
use Rattle.plan_rows.specs.declared.joined.JoinedColumns.{JoinedColumns}
use Rattle.plan_rows.specs.Joining.{LeavesOut, AreJoinedFirst, AreJoinedIn, AgreesAt, AgreesInJoined, joined_in}
use Rattle.plan_rows.specs.Fitting.{HaveSameFirst, AgreesInFirst}

-- a column that no condition joins is linked to itself alone
alone-linked : (ks : List Cond) (c d : ColRef) → All (LeavesOut c) ks → IsLinked ks c d → c ≡ d
alone-linked ks c d h (es, p) = go es p
  where
    go : (es : List ColRef) → IsChain ks c es d → c ≡ d
    go [] e = e
    go (e ∷ es) (inl m, more) = absurd ((All-contains (LeavesOut c) ks (Join c e) h m).0 refl)
    go (e ∷ es) (inr m, more) = absurd ((All-contains (LeavesOut c) ks (Join e c) h m).1 refl)

-- the columns of an atom one by one
module _ (q : Query) (v : Variables) (F : ℕ) where
  pub joined-starts : AreJoinedFirst q v F 0 []
  joined-starts = record {
    within = λ a m. absurd (mem-nil a m);
    named = λ a m. absurd (mem-nil a m);
    others = λ i l f d k. absurd (omega (arith, l));
  }

  module _ (n : ℕ) (joined : List JoinedColumn) (h : AreJoinedFirst q v F n joined) where
    -- a further one that no condition joins
    pub joined-skip : All (LeavesOut (record { atom = F; col = n })) q.conds → AreJoinedFirst q v F (n + 1) joined
    joined-skip none = record {
      within = λ a m. (let l = h.within a m in omega (arith, l));
      named = h.named;
      others = λ i l f d k. elim (cases_lt i n) [
        | inl less ↦ h.others i less f d k
        | inr past ↦
            (let e : n ≡ i = omega (arith, l, past) in
            let same : ◌≡◌ {A = ColRef} (record { atom = F; col = i }) d = alone-linked q.conds (record { atom = F; col = i }) d (subst (λ z. All (LeavesOut (record { atom = F; col = z })) q.conds) e none) k in
            ((λ t. (same t).atom), (λ t. (same t).col)))
      ];
    }

    -- a further one that is listed
    pub joined-more : (a : JoinedColumn) → a.col ≡ n → a.class ≡ class_at v (record { atom = F; col = n }) → AreJoinedFirst q v F (n + 1) (joined ++ a ∷ [])
    joined-more a is class = record {
      within = λ b m. elim (parts b m) [
        | inl k ↦ (let l = h.within b k in omega (arith, l))
        | inr e ↦ (let same : b.col ≡ a.col = ap (λ (z : JoinedColumn). z.col) (sym e) in omega (arith, same, is))
      ];
      named = λ b m. elim (parts b m) [
        | inl k ↦ h.named b k
        | inr e ↦ subst (λ (z : JoinedColumn). z.class ≡ class_at v (record { atom = F; col = z.col })) e (subst (λ z. a.class ≡ class_at v (record { atom = F; col = z })) (sym is) class)
      ];
      others = λ i l f d k. elim (cases_lt i n) [
        | inl less ↦ h.others i less (λ b m. f b (Contains-append_left joined (a ∷ []) b m)) d k
        | inr past ↦ absurd (f a (Contains-append_right joined (a ∷ []) a (mem-head a [])) (let e : n ≡ i = omega (arith, l, past) in is ∙ e))
      ];
    }
      where
        parts : (b : JoinedColumn) → Contains (joined ++ a ∷ []) b → Contains joined b ⊎ (a ≡ b)
        parts b m = elim (Contains-append_cases joined (a ∷ []) b m) [
          | inl k ↦ inl k
          | inr k ↦ elim (mem-cases b a [] k) [ inl e ↦ inr e | inr n ↦ absurd (mem-nil b n) ]
        ]

  -- none of an atom that isn't there
  pub joined-past : (joined : JoinedColumns) → length q.atoms ≤ F → length joined.atoms ≤ F → AreJoinedIn q v F (joined_in joined F)
  joined-past joined past few =
      subst (AreJoinedIn q v F) (sym (get_or_past joined.atoms F [] few))
      (subst (λ n. AreJoinedFirst q v F n []) (ap (λ (a : Atom). a.width) (sym (past-atoms q F past))) joined-starts)

-- rows agree where they do in the columns that joins name, and rows of one atom in all
module _ (q : Query) (v : Variables) (hv : AreVariables q v) (F G : ℕ) (own others : List JoinedColumn) (hf : AreJoinedIn q v F own) (hg : AreJoinedIn q v G others) (x y : List Value) where
  pub joined-agrees : AgreesInJoined x own y others → (F ≡ G → HaveSameFirst x y (atom_at q F).width) → AgreesInFirst q F x G y (atom_at q F).width
  joined-agrees h same i l j k linked = go (dec_some (λ (a : JoinedColumn). a.col ≡ i) (λ a. ℕ_discrete a.col i) own) (dec_some (λ (b : JoinedColumn). b.col ≡ j) (λ b. ℕ_discrete b.col j) others)
    where
      c : ColRef
      c = record { atom = F; col = i }

      d : ColRef
      d = record { atom = G; col = j }

      go : Dec ((a : JoinedColumn) × Contains own a × (a.col ≡ i)) → Dec ((b : JoinedColumn) × Contains others b × (b.col ≡ j)) → get_or x i nothing ≡ get_or y j nothing
      go (yes (a, m, e)) (yes (b, n, f)) =
          let one : a.class ≡ class_at v c = subst (λ z. a.class ≡ class_at v (record { atom = F; col = z })) e (hf.named a m) in
          let two : b.class ≡ class_at v d = subst (λ z. b.class ≡ class_at v (record { atom = G; col = z })) f (hg.named b n) in
          let is : get_or x a.col nothing ≡ get_or y b.col nothing = All-contains (AgreesAt a x y) others b (All-contains (λ a. All (AgreesAt a x y) others) own a h m) n (one ∙ linked-class q v hv c d (in-range q F i l) (in-range q G j k) linked ∙ sym two) in
          subst (λ z. get_or x z nothing ≡ get_or y j nothing) e (subst (λ z. get_or x a.col nothing ≡ get_or y z nothing) f is)
      go (yes s) (no f) =
          let e = hg.others j k (λ b n is. f (b, n, is)) c (linked-sym q c d linked) in
          subst (λ z. get_or x i nothing ≡ get_or y z nothing) (sym e.1) (same (sym e.0) i l)
      go (no f) s =
          let e = hf.others i l (λ a m is. f (a, m, is)) d linked in
          subst (λ z. get_or x i nothing ≡ get_or y z nothing) e.1 (same e.0 i l)

  pub agrees-joined : AgreesInFirst q F x G y (atom_at q F).width → AgreesInJoined x own y others
  agrees-joined h = of_all (λ a. All (AgreesAt a x y) others) own (λ a m. of_all (AgreesAt a x y) others (λ b n e.
      h a.col (hf.within a m) b.col (hg.within b n)
      (class-linked q v hv (record { atom = F; col = a.col }) (record { atom = G; col = b.col }) (in-range q F a.col (hf.within a m)) (in-range q G b.col (hg.within b n)) (sym (hf.named a m) ∙ e ∙ hg.named b n))))

-- rows of one atom that agree do in every column
module _ (q : Query) (F G : ℕ) (x y : List Value) where
  pub agrees-same : F ≡ G → AgreesInFirst q F x G y (atom_at q F).width → HaveSameFirst x y (atom_at q F).width
  agrees-same e h i l = h i l i (subst (λ z. i < (atom_at q z).width) e l) (subst (λ z. AreLinked q (record { atom = F; col = i }) (record { atom = z; col = i })) e (linked-self q (record { atom = F; col = i })))
