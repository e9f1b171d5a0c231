-- Lemmas on marks.
use Rattle.std.proofs.Common.{◌≡◌, ◌≢◌, ℕ, ◌<◌, ◌≤◌, ◌+◌, List, [], ◌∷◌, ◌++◌, inl, inr, sym, ◌∙◌, subst, arith, length, get_or, take, set, Option, Some, None}
use Rattle.std.specs.Prelude.{Contains}
use Rattle.std.proofs.lemmas.Bool.{cases_eq}
use Rattle.std.proofs.lemmas.List.{get_or-set_same, get_or-set_other, length-set, take_all}
use Rattle.std.proofs.lemmas.List.Elements.{Contains-push_cases, Contains-append_left, Contains-push, Contains-get_or}
use Rattle.cqa_value.proofs.Words.{Contains-from_take}
use Rattle.cnf_form.specs.declared.formula.Lit.{Lit}
use Rattle.cnf_form.specs.declared.formula.Truth.{Truth}
use Rattle.cnf_form.specs.declared.formula.Truth.TheVariants as truth
use Rattle.lrat_check.specs.Marks.{truth_at, IsFalse, IsValid, HasOneOpen, HasTwo, IsOneLeft}
use Rattle.lrat_check.proofs.Takes.{more_cases, more_left, more_here}

found_false_one : (ts : List Truth) (c : List Lit) (i : ℕ) (d l : Lit) → i < length c → HasOneOpen ts (take i c) l → IsFalse ts (get_or c i d) → HasOneOpen ts (take (i + 1) c) l
found_false_one ts c i d l h f n = record {
  inside = more_left c i d h l f.inside;
  free = f.free;
  others = λ m k apart. elim (more_cases c i d h m k) [
    | inl r ↦ f.others m r apart
    | inr e ↦ subst (λ (x : Lit). IsFalse ts x) e n
  ];
}

pub found_false : (ts : List Truth) (c : List Lit) (i : ℕ) (d : Lit) (found : Option Lit) → i < length c → IsOneLeft ts (take i c) found → IsFalse ts (get_or c i d) → IsOneLeft ts (take (i + 1) c) found
found_false ts c i d None h f n = λ m k. elim (more_cases c i d h m k) [
  | inl r ↦ f m r
  | inr e ↦ subst (λ (x : Lit). IsFalse ts x) e n
]
found_false ts c i d (Some l) h f n = found_false_one ts c i d l h f n

pub found_first : (ts : List Truth) (c : List Lit) (i : ℕ) (d : Lit) → i < length c → IsOneLeft ts (take i c) None → (IsFalse ts (get_or c i d) → ⊥) → HasOneOpen ts (take (i + 1) c) (get_or c i d)
found_first ts c i d h f n = record {
  inside = more_here c i d h;
  free = n;
  others = λ m k apart. elim (more_cases c i d h m k) [
    | inl r ↦ f m r
    | inr e ↦ absurd (apart (sym e))
  ];
}

pub found_same : (ts : List Truth) (c : List Lit) (i : ℕ) (d l : Lit) → i < length c → HasOneOpen ts (take i c) l → l ≡ get_or c i d → HasOneOpen ts (take (i + 1) c) l
found_same ts c i d l h f same = record {
  inside = more_left c i d h l f.inside;
  free = f.free;
  others = λ m k apart. elim (more_cases c i d h m k) [
    | inl r ↦ f.others m r apart
    | inr e ↦ absurd (apart (sym e ∙ sym same))
  ];
}

pub found_two : (ts : List Truth) (c : List Lit) (i : ℕ) (d l : Lit) → i < length c → HasOneOpen ts (take i c) l → l ≢ get_or c i d → (IsFalse ts (get_or c i d) → ⊥) → HasTwo ts c
found_two ts c i d l h f apart n = record {
  one = l;
  other = get_or c i d;
  apart = apart;
  one_inside = Contains-from_take i c l f.inside;
  other_inside = Contains-get_or c i d h;
  one_free = f.free;
  other_free = n;
}

pub found_end : (ts : List Truth) (c : List Lit) (i : ℕ) (found : Option Lit) → length c ≤ i → IsOneLeft ts (take i c) found → IsOneLeft ts c found
found_end ts c i found h f = subst (λ (d : List Lit). IsOneLeft ts d found) (take_all i c h) f

-- room that no variable needs
pub grown_valid : (ts us : List Truth) (trail : List ℕ) → IsValid ts trail → ((v : ℕ) → truth_at us v ≡ truth_at ts v) → length ts ≤ length us → IsValid us trail
grown_valid ts us trail valid same more = record {
  tracked = λ v n. valid.tracked v (λ o. n (same v ∙ o));
  within = λ v k. let b = valid.within v k in omega (arith, b, more);
}

pub pop_room : (ts : List Truth) (trail rest : List ℕ) (x : ℕ) → IsValid ts trail → trail ≡ rest ++ x ∷ [] → x < length ts
pop_room ts trail rest x valid e = valid.within x (subst (λ (ys : List ℕ). Contains ys x) (sym e) (Contains-push rest x))

pub pop_valid : (ts : List Truth) (trail rest : List ℕ) (x : ℕ) → IsValid ts trail → trail ≡ rest ++ x ∷ [] → IsValid (set ts x truth.Open) rest
pop_valid ts trail rest x valid e = record {
  tracked = λ v n. elim (cases_eq v x) [
    | inl same ↦ absurd (n (subst (λ (y : ℕ). get_or (set ts x truth.Open) y truth.Open ≡ truth.Open) (sym same) (get_or-set_same ts x truth.Open truth.Open room)))
    | inr apart ↦ elim (Contains-push_cases rest x v (subst (λ (ys : List ℕ). Contains ys v) e
        (valid.tracked v (λ o. n (get_or-set_other ts x v truth.Open truth.Open apart ∙ o))))) [
          | inl r ↦ r
          | inr same ↦ absurd (apart (sym same))
        ]
  ];
  within = λ v k. let b : v < length ts = valid.within v (subst (λ (ys : List ℕ). Contains ys v) (sym e) (Contains-append_left rest (x ∷ []) v k)) in
      omega (arith, b, length-set ts x truth.Open);
}
  where
    room : x < length ts
    room = valid.within x (subst (λ (ys : List ℕ). Contains ys x) (sym e) (Contains-push rest x))

pub push_valid : (ts us : List Truth) (trail : List ℕ) (x : ℕ) (t : Truth) → IsValid ts trail → ((v : ℕ) → truth_at us v ≡ truth_at ts v) → x < length us → length ts ≤ length us → IsValid (set us x t) (trail ++ x ∷ [])
push_valid ts us trail x t valid same room more = record {
  tracked = λ v n. elim (cases_eq v x) [
    | inl e ↦ subst (λ (y : ℕ). Contains (trail ++ x ∷ []) y) (sym e) (Contains-push trail x)
    | inr apart ↦ Contains-append_left trail (x ∷ []) v (valid.tracked v (λ o. n (get_or-set_other us x v t truth.Open apart ∙ same v ∙ o)))
  ];
  within = λ v k. elim (Contains-push_cases trail x v k) [
    | inl r ↦ let b : v < length ts = valid.within v r in omega (arith, b, length-set us x t)
    | inr e ↦ omega (arith, e, room, length-set us x t)
  ];
}
