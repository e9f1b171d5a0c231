-- Steps of the code that names variables and marks constants.
use Rattle.std.proofs.Common.{◌≡◌, ℕ, suc, ◌-◌, ◌<◌, ◌≤◌, ◌↔◌, ◌⊎◌, inl, inr, false, Bool, List, [], ◌∷◌, length, get_or, drop, slice_index, refl, ap, sym, ◌∙◌, subst, arith, Contains}
use Rattle.std.proofs.Math.Seq.{drop-cons}
use Rattle.std.proofs.Math.ListN.{replicate}
use Rattle.std.proofs.lemmas.List.{get_or-replicate, get_or_past, get_or_default, length-replicate}
use Rattle.std.proofs.lemmas.Bool.{false≢true}
use Rattle.std.proofs.lemmas.List.Elements.{Contains-get_or}
use native.Mathlib.Decide.{dec_le}
use Rattle.cqa_model.specs.declared.query.Op.TheVariants.{Eq}
use Rattle.cqa_model.specs.declared.query.Cond.{Cond}
use Rattle.cqa_model.specs.declared.query.Cond.TheVariants.{Join, Test}
use Rattle.cqa_model.specs.declared.query.ColRef.{ColRef}
use Rattle.cqa_model.specs.declared.query.Query.{Query}
use Rattle.cqa_model.specs.declared.variable_class.Variables.{Variables}
use Rattle.cqa_model.specs.Shape.{IsInRange}
use Rattle.cqa_model.specs.Variables.{number, AreLinked, IsConstant}
use Rattle.cqa_model.specs.Labels.{relabel, label, column}
use Rattle.cqa_model.specs.Naming.{IsMarked, class_at, AreVariables, AreClasses, origin, IsSmall, AreSmallColumns, IsAnswerClass, IsSmallTest, AreSmallTests, IsEqualityClass, IsTestClass}
use Rattle.cqa_model.proofs.Classic.{mem-head, mem-tail}
use Rattle.cqa_model.proofs.Labels.{label-le, label-linked}
use Rattle.cqa_model.proofs.Columns.{range-small, label-same, least-of}

pub sides : (q : Query) (ks : List Cond) (i : ℕ) (k : Cond) (l r : ColRef) → ks ≡ q.conds → i < length ks → k ≡ get_or ks i k → k ≡ Join l r → IsSmall l × IsSmall r
sides q ks i k l r eq b e j =
    let m0 : Contains ks (Join l r) = subst (λ z. Contains ks z) j (i, b, sym e) in
    let m : Contains q.conds (Join l r) = subst (λ z. Contains z (Join l r)) eq m0 in
    (range-small q l (q.kept.conds_in_range (Join l r) m l (mem-head l (r ∷ []))), range-small q r (q.kept.conds_in_range (Join l r) m r (mem-tail r l (r ∷ []) (mem-head r []))))

pub joined-classes : (ks : List Cond) (i j : ℕ) (k : Cond) (l r : ColRef) (old new : List ℕ) → j ≡ i - 1 → 0 < i → i ≤ length ks → k ≡ get_or ks j k → k ≡ Join l r →
    IsSmall l × IsSmall r →
    AreClasses (drop i ks) old → ((p : ℕ) → p < 192 → slice_index new p ≡ relabel (slice_index old (number l)) (slice_index old (number r)) (slice_index old p)) →
    AreClasses (drop j ks) new
joined-classes ks i j k l r old new ej li lj ek jn hs h step c ca cc' =
    let sj : suc j ≡ i = omega arith in
    let lt : j < length ks = omega arith in
    let e : drop j ks ≡ Join l r ∷ drop i ks = subst (λ z. drop j ks ≡ z ∷ drop i ks) (sym ek ∙ jn) (drop-cons ks j k lt ∙ ap (λ z. get_or ks j k ∷ drop z ks) sj) in
    step (number c) (omega (arith, ca, cc')) ∙ rw (h l hs.0.0 hs.0.1, h r hs.1.0 hs.1.1, h c ca cc', e) refl

pub answers-small : (q : Query) (answer : List ColRef) → answer ≡ q.answer → AreSmallColumns answer
answers-small q answer e j l = range-small q (get_or answer j origin) (q.kept.answer_in_range (get_or answer j origin) (subst (λ z. Contains z (get_or answer j origin)) e (Contains-get_or answer j origin l)))

abbrev no_cond : Cond
no_cond = Join origin origin

pub tests-small : (q : Query) (conds : List Cond) → conds ≡ q.conds → AreSmallTests conds
tests-small q conds e j l = go (get_or conds j no_cond) (subst (λ z. Contains z (get_or conds j no_cond)) e (Contains-get_or conds j no_cond l))
  where
    go : (k : Cond) → Contains q.conds k → IsSmallTest k
    go (Join c d) m = tt
    go (Test c op x) m = range-small q c (q.kept.conds_in_range (Test c op x) m c (mem-head c []))

pub classes-small : (ks : List Cond) (class : List ℕ) → length class ≡ 192 → AreClasses ks class → (i d : ℕ) → i < length class → get_or class i d < 192
classes-small ks class size h i d l =
    let li : i < 192 = omega (arith, l, size) in
    let f : slice_index class (number (column i)) ≡ label ks (column i) = h (column i) (omega (arith, li)) (omega arith) in
    let n : number (column i) ≡ i = omega arith in
    let b : label ks (column i) ≤ number (column i) = label-le ks (column i) in
    let g : slice_index class i ≡ label ks (column i) = subst (λ z. slice_index class z ≡ label ks (column i)) n f in
    let s : slice_index class i ≡ get_or class i d = get_or_default class i 0 d l in
    omega arith

pub unmarked : (n k : ℕ) → IsMarked (replicate n false) k → ⊥
unmarked n k h = go (dec_le (suc k) n)
  where
    go : Dec (suc k ≤ n) → ⊥
    go (yes l) = let e : get_or (replicate n false) k false ≡ false = get_or-replicate n k false false l in false≢true (sym e ∙ h)
    go (no f) = let e : get_or (replicate n false) k false ≡ false = get_or_past (replicate n false) k false (rw length-replicate (omega (arith, f))) in false≢true (sym e ∙ h)

module _ (q : Query) (v : Variables) (answer : List ColRef) (conds : List Cond) (none middle : List Bool) (ea : answer ≡ q.answer) (et : conds ≡ q.conds) (hc : AreClasses q.conds v.class)
    (hn : (k : ℕ) → IsMarked none k → ⊥) (ha : (k : ℕ) → IsMarked middle k ↔ (IsMarked none k ⊎ IsAnswerClass v.class answer (length answer) k))
    (ht : (k : ℕ) → IsMarked v.constant k ↔ (IsMarked middle k ⊎ IsTestClass v.class conds (length conds) k)) where
  class-of : (d : ColRef) → IsInRange q.atoms d → class_at v d ≡ label q.conds d
  class-of d m = let b = range-small q d m in hc d b.0 b.1

  linked : (c d : ColRef) → IsInRange q.atoms c → IsInRange q.atoms d → label q.conds c ≡ class_at v d → AreLinked q c d
  linked c d r m e = label-same q c d r m (e ∙ class-of d m)

  same : (c d : ColRef) → IsInRange q.atoms d → AreLinked q c d → label q.conds c ≡ class_at v d
  same c d m l = label-linked q.conds c d l ∙ sym (class-of d m)

  from_answer : (c : ColRef) → IsInRange q.atoms c → IsAnswerClass v.class answer (length answer) (label q.conds c) → IsConstant q c
  from_answer c r w =
      let n : Contains q.answer (get_or answer w.0 origin) = subst (λ z. Contains z (get_or answer w.0 origin)) ea (Contains-get_or answer w.0 origin w.1) in
      (get_or answer w.0 origin, linked c (get_or answer w.0 origin) r (q.kept.answer_in_range (get_or answer w.0 origin) n) w.2, inl n)

  test : (c : ColRef) → IsInRange q.atoms c → (k : Cond) → Contains q.conds k → IsEqualityClass v.class k (label q.conds c) → IsConstant q c
  test c r (Join d e) m h = absurd h
  test c r (Test d op x) m h = (d, linked c d r (q.kept.conds_in_range (Test d op x) m d (mem-head d [])) h.1, inr (x, subst (λ z. Contains q.conds (Test d z x)) h.0 m))

  from_test : (c : ColRef) → IsInRange q.atoms c → IsTestClass v.class conds (length conds) (label q.conds c) → IsConstant q c
  from_test c r w = test c r (get_or conds w.0 no_cond) (subst (λ z. Contains z (get_or conds w.0 no_cond)) et (Contains-get_or conds w.0 no_cond w.1)) w.2

  marked : (c : ColRef) → IsConstant q c → IsMarked v.constant (label q.conds c)
  marked c (d, l, inl m) =
      let n : Contains answer d = subst (λ z. Contains z d) (sym ea) m in
      let e : get_or answer n.0 origin ≡ d = get_or_default answer n.0 origin d n.1 ∙ n.2 in
      (ht (label q.conds c)).1 (inl ((ha (label q.conds c)).1 (inr (n.0, n.1, same c d (q.kept.answer_in_range d m) l ∙ ap (λ z. class_at v z) (sym e)))))
  marked c (d, l, inr (x, m)) =
      let n : Contains conds (Test d Eq x) = subst (λ z. Contains z (Test d Eq x)) (sym et) m in
      let e : get_or conds n.0 no_cond ≡ Test d Eq x = get_or_default conds n.0 no_cond (Test d Eq x) n.1 ∙ n.2 in
      let h : IsEqualityClass v.class (Test d Eq x) (label q.conds c) = (refl, same c d (q.kept.conds_in_range (Test d Eq x) m d (mem-head d [])) l) in
      (ht (label q.conds c)).1 (inr (n.0, n.1, subst (λ z. IsEqualityClass v.class z (label q.conds c)) (sym e) h))

  constant : (c : ColRef) → IsInRange q.atoms c → IsMarked v.constant (label q.conds c) → IsConstant q c
  constant c r m = elim ((ht (label q.conds c)).0 m) [
    | inl a ↦ elim ((ha (label q.conds c)).0 a) [ inl n ↦ absurd (hn (label q.conds c) n) | inr w ↦ from_answer c r w ]
    | inr w ↦ from_test c r w
  ]

  pub are-variables : AreVariables q v
  are-variables = record {
    names = λ c r. let n = least-of q c r in (n.0, n.1, n.2, n.3, n.4 ∙ sym (class-of c r));
    constants = λ c r. ((λ m. constant c r (subst (λ z. IsMarked v.constant z) (class-of c r) m)), (λ k. subst (λ z. IsMarked v.constant z) (sym (class-of c r)) (marked c k)));
  }
