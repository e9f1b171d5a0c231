-- How clauses that aren't permanent leave the lists.
use Rattle.std.proofs.Common.{set, get_or, get_or-set_other, get_or-set_same, ℕ, ◌<◌, List, [], ◌∷◌, ◌++◌, inl, inr, refl, sym, ◌∙◌, subst, length}
use Rattle.std.specs.Prelude.{Contains}
use Rattle.std.proofs.lemmas.List.{length-set}
use Rattle.std.proofs.lemmas.List.Elements.{Contains-push_cases, Contains-append_left, Contains-push}
use Rattle.std.proofs.lemmas.Bool.{cases_eq}
use Rattle.cnf_form.specs.declared.formula.Lit.{Lit}
use Rattle.cdcl.specs.declared.watch.Pair.{Pair}
use Rattle.cdcl.specs.Watching.{IsWatchListed, IsWatching, IsThinned, AreThinned, AreLists, code_of}

pub thinned_first : (n : ℕ) → IsThinned n [] []
thinned_first n = record { kept = λ k f i. i; fewer = λ k i. i }

pub thinned_push : (n x : ℕ) (old new : List ℕ) → IsThinned n old new → IsThinned n (old ++ x ∷ []) (new ++ x ∷ [])
thinned_push n x old new t = record {
  kept = λ k f i. elim (Contains-push_cases old x k i) [
    | inl j ↦ Contains-append_left new (x ∷ []) k (t.kept k f j)
    | inr e ↦ subst (λ (y : ℕ). Contains (new ++ x ∷ []) y) e (Contains-push new x)
  ];
  fewer = λ k i. elim (Contains-push_cases new x k i) [
    | inl j ↦ Contains-append_left old (x ∷ []) k (t.fewer k j)
    | inr e ↦ subst (λ (y : ℕ). Contains (old ++ x ∷ []) y) e (Contains-push old x)
  ];
}

pub thinned_skip : (n x : ℕ) (old new : List ℕ) → (x < n → ⊥) → IsThinned n old new → IsThinned n (old ++ x ∷ []) new
thinned_skip n x old new far t = record {
  kept = λ k f i. elim (Contains-push_cases old x k i) [
    | inl j ↦ t.kept k f j
    | inr e ↦ absurd (far (subst (λ (y : ℕ). y < n) (sym e) f))
  ];
  fewer = λ k i. Contains-append_left old (x ∷ []) k (t.fewer k i);
}

thinned_same : (n : ℕ) (xs : List ℕ) → IsThinned n xs xs
thinned_same n xs = record { kept = λ k f i. i; fewer = λ k i. i }

pub lists_same : (n : ℕ) (lists : List (List ℕ)) → AreThinned n lists lists
lists_same n lists = record { room = refl; each = λ i. thinned_same n (get_or lists i []) }

-- one list more is thinned
pub lists_set : (n at : ℕ) (first lists : List (List ℕ)) (own : List ℕ) → at < length lists → IsThinned n (get_or lists at []) own
    → AreThinned n first lists → AreThinned n first (set lists at own)
lists_set n at first lists own range thin t = record {
  room = length-set lists at own ∙ t.room;
  each = λ i. elim (cases_eq i at) [
    | inl e ↦
        let a : IsThinned n (get_or first at []) own = record {
          kept = λ k f j. thin.kept k f ((t.each at).kept k f j);
          fewer = λ k j. (t.each at).fewer k (thin.fewer k j);
        } in
        subst (λ (k : ℕ). IsThinned n (get_or first k []) (get_or (set lists at own) k [])) (sym e)
        (subst (λ (xs : List ℕ). IsThinned n (get_or first at []) xs) (sym (get_or-set_same lists at own [] range)) a)
    | inr o ↦ subst (λ (xs : List ℕ). IsThinned n (get_or first i []) xs) (sym (get_or-set_other lists at i own [] o)) (t.each i)
  ];
}

pub watching_thinned : {permanent : ℕ} (lists lists' : List (List ℕ)) (db : List (List Lit)) (t : List Lit) (level_starts : List ℕ) (head : ℕ) (pairs : List Pair)
    → AreThinned permanent lists lists' → IsWatching (IsWatchListed lists) permanent db t level_starts head pairs → IsWatching (IsWatchListed lists') permanent db t level_starts head pairs
watching_thinned {permanent} lists lists' db t level_starts head pairs thin w = record {
  head_in = w.head_in;
  levels = w.levels;
  some = w.some;
  inside = w.inside;
  ended = w.ended;
  each = λ k c pair f a b. elim (w.each k c pair f a b) [
    | inl base ↦ inl base
    | inr p ↦ inr (record {
      apart = p.apart;
      first = p.first;
      second = p.second;
      first_in = (thin.each (code_of pair.first)).kept k f p.first_in;
      second_in = (thin.each (code_of pair.second)).kept k f p.second_in;
    })
  ];
}

pub lists_thinned : (permanent : ℕ) (lists lists' : List (List ℕ)) (n count : ℕ) → AreThinned permanent lists lists' → AreLists lists n count → AreLists lists' n count
lists_thinned permanent lists lists' n count thin a = record {
  room = thin.room ∙ a.room;
  below = λ i k c. a.below i k ((thin.each i).fewer k c);
}
