-- Sets of classes against sets of variables.
use Rattle.std.proofs.Common.{◌≡◌, ℕ, suc, ◌<◌, ◌≤◌, ◌↔◌, Bool, true, false, List, [], length, get_or, refl, ap, sym, ◌∙◌, subst, arith, Contains}
use native.Mathlib.Decide.{dec_le}
use Rattle.std.proofs.Math.ListN.{replicate}
use Rattle.std.proofs.lemmas.Bool.{false≢true}
use Rattle.std.proofs.lemmas.List.{get_or-replicate, get_or_past, get_or_default, length-replicate}
use Rattle.std.proofs.lemmas.List.Elements.{All-contains, Contains-get_or}
use Rattle.cqa_model.specs.declared.query.Atom.{Atom}
use Rattle.cqa_model.specs.declared.query.ColRef.{ColRef}
use Rattle.cqa_model.specs.declared.query.Query.{Query}
use Rattle.cqa_model.specs.declared.variable_class.Variables.{Variables}
use Rattle.cqa_model.specs.Shape.{IsInRange, nth_atom}
use Rattle.cqa_model.specs.Query.{atom_at, atom_key}
use Rattle.cqa_model.specs.Variables.{number, AreLinked, IsConstant, IsFree, IsVar, IsKeyVar, IsName}
use Rattle.cqa_model.specs.Labels.{label}
use Rattle.cqa_model.specs.Naming.{AreVariables, class_at, IsConstantClass}
use Rattle.cqa_model.proofs.Classic.{dec_both}
use Rattle.cqa_model.proofs.Values.{dec_by}
use Rattle.cqa_model.proofs.Views.{linked-sym, linked-trans}
use Rattle.cqa_model.proofs.Attacks.{IsClosed}
use Rattle.cqa_model.proofs.Labels.{label-linked}
use Rattle.cqa_model.proofs.Columns.{range-small, linked-in_range, label-of_least, least-of, name-label, label-same, class-label}
use Rattle.key_closure.specs.declared.variable_set.VarSet.{VarSet}
use Rattle.key_closure.specs.declared.view.View.{View}
use Rattle.key_closure.specs.Sets.{Has}
use Rattle.key_closure.specs.Members.{IsIn, IsSetOf, seen, IsProper, IsFreeClass, IsVarClass, IsKeyClass}

pub none_in : (n k : ℕ) → get_or (replicate n false) k false ≡ true → ⊥
none_in n k h = go (dec_le (suc k) n)
  where
    go : Dec (suc k ≤ n) → ⊥
    go (yes l) = let e : get_or (replicate n false) k false ≡ false = get_or-replicate n k false false l in false≢true (sym e ∙ h)
    go (no f) = let e : get_or (replicate n false) k false ≡ false = get_or_past (replicate n false) k false (rw length-replicate (omega (arith, f))) in false≢true (sym e ∙ h)

pub key-in_range : (q : Query) (F p : ℕ) → F < length q.atoms → Contains (atom_key q F) p → IsInRange q.atoms (record { atom = F; col = p })
key-in_range q F p lF m = (lF, All-contains (λ x. x < (atom_at q F).width) (atom_key q F) p (q.kept.each F lF).key_in_range m)

-- a column of a key that code reads can be numbered
pub key_place : (q : Query) (atoms : List Atom) (F : ℕ) (a : Atom) (key : List ℕ) (j : ℕ) → atoms ≡ q.atoms → F < length q.atoms → a ≡ get_or atoms F a → key ≡ (get_or atoms F a).key → j < length key →
    (F < 12) × (get_or key j 0 < 16)
key_place q atoms F a key j eq lF ea ek lj =
    let d : Atom = record { table = 0; width = 0; key = []; strict = false } in
    let e : get_or atoms F a ≡ nth_atom q.atoms F = ap (λ z. get_or z F a) eq ∙ get_or_default q.atoms F a d lF in
    range-small q (record { atom = F; col = get_or key j 0 }) (key-in_range q F (get_or key j 0) lF (subst (λ z. Contains z (get_or key j 0)) (ek ∙ ap (λ z. z.key) e) (Contains-get_or key j 0 lj)))

module _ (q : Query) where
  pub is_in-range : (s : VarSet) (c : ColRef) → IsIn q s c → IsInRange q.atoms c
  is_in-range s c h = linked-in_range q h.0 c (linked-sym q c h.0 h.2) h.1

  pub is_in-label : (s : VarSet) (c : ColRef) → IsIn q s c → Has s (label q.conds c)
  is_in-label s c h = subst (λ z. Has s z) (sym (label-of_least q c h.0 h.1 h.2 h.3)) h.4

  pub label-is_in : (s : VarSet) (c : ColRef) → IsInRange q.atoms c → Has s (label q.conds c) → IsIn q s c
  label-is_in s c r h = let n = least-of q c r in (n.0, n.1, n.2, n.3, subst (λ z. Has s z) (sym n.4) h)

  pub is_in-linked : (s : VarSet) (u v : ColRef) → AreLinked q u v → IsIn q s u → IsIn q s v
  is_in-linked s u v l h = (h.0, h.1, linked-trans q v u h.0 (linked-sym q u v l) h.2, h.3, h.4)

  dec_bit : (b : Bool) → Dec (b ≡ true)
  dec_bit true = yes refl
  dec_bit false = no (λ e. false≢true e)

  pub dec_in : (s : VarSet) (c : ColRef) → Dec (IsIn q s c)
  dec_in s c = go (dec_both (dec_le (suc c.atom) (length q.atoms)) (dec_le (suc c.col) (nth_atom q.atoms c.atom).width))
    where
      go : Dec (IsInRange q.atoms c) → Dec (IsIn q s c)
      go (no f) = no (λ h. f (is_in-range s c h))
      go (yes r) = dec_by (label-is_in s c r) (is_in-label s c) (dec_bit (get_or s.bits (label q.conds c) false))

  set_of : (s : VarSet) (P : ColRef → Type 0) → ((c : ColRef) → P c → IsInRange q.atoms c) → ((c : ColRef) → IsInRange q.atoms c → Has s (label q.conds c) ↔ P c) → IsSetOf q s P
  set_of s P ranged h c = ((λ m. (h c (is_in-range s c m)).0 (is_in-label s c m)), (λ p. label-is_in s c (ranged c p) ((h c (ranged c p)).1 p)))

  module _ (v : Variables) (hv : AreVariables q v) (view : View) where
    pub seen-closed : IsClosed q (seen q view)
    seen-closed u w l h = is_in-linked view.fixed u w l h

    constant-label : (c : ColRef) → IsInRange q.atoms c → IsConstantClass v (label q.conds c) ↔ IsConstant q c
    constant-label c r = subst (λ z. IsConstantClass v z ↔ IsConstant q c) (class-label q v hv c r) (hv.constants c r)

    free-into : (c : ColRef) → IsInRange q.atoms c → IsFreeClass v view (label q.conds c) → IsFree q (seen q view) c
    free-into c r f = ((λ k. f.0 ((constant-label c r).1 k)), (λ k. f.1 (is_in-label view.fixed c k)))

    free-from : (c : ColRef) → IsInRange q.atoms c → IsFree q (seen q view) c → IsFreeClass v view (label q.conds c)
    free-from c r f = ((λ k. f.0 ((constant-label c r).0 k)), (λ k. f.1 (label-is_in view.fixed c r k)))

    linked-at : (c d : ColRef) → IsInRange q.atoms c → IsInRange q.atoms d → label q.conds c ≡ class_at v d → AreLinked q c d
    linked-at c d rc r e = label-same q c d rc r (e ∙ class-label q v hv d r)

    label-at : (c d : ColRef) → IsInRange q.atoms d → AreLinked q c d → label q.conds c ≡ class_at v d
    label-at c d r l = label-linked q.conds c d l ∙ sym (class-label q v hv d r)

    module _ (F : ℕ) (lF : F < length q.atoms) where
      pub var-set : (s : VarSet) → ((k : ℕ) → Has s k ↔ IsVarClass v view F (atom_at q F).width k) → IsSetOf q s (IsVar q (seen q view) F)
      var-set s h = set_of s (IsVar q (seen q view) F) ranged (λ c r. (into c r, from c r))
        where
          ranged : (c : ColRef) → IsVar q (seen q view) F c → IsInRange q.atoms c
          ranged c m = linked-in_range q (record { atom = F; col = m.1.0 }) c (linked-sym q c (record { atom = F; col = m.1.0 }) m.1.2) (lF, m.1.1)

          into : (c : ColRef) → IsInRange q.atoms c → Has s (label q.conds c) → IsVar q (seen q view) F c
          into c r m = let w = (h (label q.conds c)).0 m in (free-into c r w.2, (w.0, w.1, linked-at c (record { atom = F; col = w.0 }) r (lF, w.1) w.3))

          from : (c : ColRef) → IsInRange q.atoms c → IsVar q (seen q view) F c → Has s (label q.conds c)
          from c r m = (h (label q.conds c)).1 (m.1.0, m.1.1, free-from c r m.0, label-at c (record { atom = F; col = m.1.0 }) (lF, m.1.1) m.1.2)

      pub key-set : (s : VarSet) → ((k : ℕ) → Has s k ↔ IsKeyClass v view F (atom_key q F) (length (atom_key q F)) k) → IsSetOf q s (IsKeyVar q (seen q view) F)
      key-set s h = set_of s (IsKeyVar q (seen q view) F) ranged (λ c r. (into c r, from c r))
        where
          ranged : (c : ColRef) → IsKeyVar q (seen q view) F c → IsInRange q.atoms c
          ranged c m = linked-in_range q (record { atom = F; col = m.1.0 }) c (linked-sym q c (record { atom = F; col = m.1.0 }) m.1.2) (key-in_range q F m.1.0 lF m.1.1)

          into : (c : ColRef) → IsInRange q.atoms c → Has s (label q.conds c) → IsKeyVar q (seen q view) F c
          into c r m = let w = (h (label q.conds c)).0 m in
              let n : Contains (atom_key q F) (get_or (atom_key q F) w.0 0) = Contains-get_or (atom_key q F) w.0 0 w.1 in
              (free-into c r w.2, (get_or (atom_key q F) w.0 0, n, linked-at c (record { atom = F; col = get_or (atom_key q F) w.0 0 }) r (key-in_range q F (get_or (atom_key q F) w.0 0) lF n) w.3))

          from : (c : ColRef) → IsInRange q.atoms c → IsKeyVar q (seen q view) F c → Has s (label q.conds c)
          from c r m =
              let n : Contains (atom_key q F) m.1.0 = m.1.1 in
              let e : get_or (atom_key q F) n.0 0 ≡ m.1.0 = get_or_default (atom_key q F) n.0 0 m.1.0 n.1 ∙ n.2 in
              (h (label q.conds c)).1 (n.0, n.1, free-from c r m.0, label-at c (record { atom = F; col = m.1.0 }) (key-in_range q F m.1.0 lF m.1.1) m.1.2 ∙ ap (λ z. class_at v (record { atom = F; col = z })) (sym e))

      pub var-proper : (s : VarSet) → ((k : ℕ) → Has s k ↔ IsVarClass v view F (atom_at q F).width k) → IsProper q s
      var-proper s h k m = let w = (h k).0 m in
          (record { atom = F; col = w.0 }, (lF, w.1), subst (λ z. IsName q (record { atom = F; col = w.0 }) z) (sym w.3) (hv.names (record { atom = F; col = w.0 }) (lF, w.1)))

      pub key-proper : (s : VarSet) → ((k : ℕ) → Has s k ↔ IsKeyClass v view F (atom_key q F) (length (atom_key q F)) k) → IsProper q s
      key-proper s h k m =
          let w = (h k).0 m in
          let r : IsInRange q.atoms (record { atom = F; col = get_or (atom_key q F) w.0 0 }) = key-in_range q F (get_or (atom_key q F) w.0 0) lF (Contains-get_or (atom_key q F) w.0 0 w.1) in
          (record { atom = F; col = get_or (atom_key q F) w.0 0 }, r, subst (λ z. IsName q (record { atom = F; col = get_or (atom_key q F) w.0 0 }) z) (sym w.3) (hv.names (record { atom = F; col = get_or (atom_key q F) w.0 0 }) r))

  -- inclusion and meeting by classes and by variables
  module _ (a b : VarSet) (P : ColRef → Type 0) (is : IsSetOf q a P) (proper : IsProper q a) where
    pub within-into : ((k : ℕ) → Has a k → Has b k) → (c : ColRef) → P c → IsIn q b c
    within-into h c p = let m = (is c).1 p in (m.0, m.1, m.2, m.3, h (number m.0) m.4)

    pub within-from : ((c : ColRef) → P c → IsIn q b c) → (k : ℕ) → Has a k → Has b k
    within-from h k m =
        let n = proper k m in
        let e : label q.conds n.0 ≡ k = name-label q n.0 k n.2 in
        let i : IsIn q a n.0 = label-is_in a n.0 n.1 (subst (λ z. Has a z) (sym e) m) in
        subst (λ z. Has b z) e (is_in-label b n.0 (h n.0 ((is n.0).0 i)))

    pub meets-into : ((k : ℕ) × Has b k × Has a k) → (c : ColRef) × IsIn q b c × P c
    meets-into h =
        let n = proper h.0 h.2 in
        let e : label q.conds n.0 ≡ h.0 = name-label q n.0 h.0 n.2 in
        (n.0, label-is_in b n.0 n.1 (subst (λ z. Has b z) (sym e) h.1), (is n.0).0 (label-is_in a n.0 n.1 (subst (λ z. Has a z) (sym e) h.2)))

    pub meets-from : ((c : ColRef) × IsIn q b c × P c) → (k : ℕ) × Has b k × Has a k
    meets-from h = (label q.conds h.0, is_in-label b h.0 h.1, is_in-label a h.0 ((is h.0).1 h.2))
