-- Steps of the code that writes down attacks.
use Rattle.std.proofs.Common.{◌≡◌, ℕ, suc, ◌+◌, ◌*◌, ◌<◌, ◌≤◌, ◌↔◌, inl, inr, List, [], ◌∷◌, ◌++◌, length, get_or, AllPairs, Contains, sym, subst, arith}
use native.Mathlib.Decide.{ℕ_discrete, dec_le}
use Rattle.std.specs.List.{AllZip}
use Rattle.std.proofs.lemmas.List.Elements.{Contains-push, Contains-push_cases, Contains-append_left, Contains-get_or}
use Rattle.std.proofs.lemmas.List.Quantifiers.{all_pairs_push}
use Rattle.cqa_value.proofs.Words.{all_zip_push}
use Rattle.cqa_model.specs.declared.query.Query.{Query}
use Rattle.cqa_model.specs.Variables.{whole}
use Rattle.cqa_model.specs.Graph.{IsWeak}
use Rattle.cqa_model.proofs.Classic.{mem-head, mem-tail, mem-nil}
use Rattle.attack_graph.specs.declared.graph.Attacks.{Attacks as Graph}
use Rattle.attack_graph.specs.Attacking.{HasAttack, HasWeakAttack, AreAttacks}
use Rattle.reply_text.specs.declared.reply.AttackLine.{AttackLine}
use Rattle.query_replies.specs.AttackLines.{Attack, IsEarlierAttack, IsLineOf, AreAttackLines}

-- the attacks of a graph with a number below this one have their lines
pub record AreLines (g : Graph) (names : List (List ℕ)) (n : ℕ) (lines : List AttackLine) : Type 0 where
  pub attacks : List Attack
  pub in_order : AllPairs IsEarlierAttack attacks
  pub exactly : (a : Attack) → Contains attacks a ↔ (HasAttack g a.from a.to × (12 * a.from + a.to < n))
  pub each : AllZip (IsLineOf (HasWeakAttack g) names) attacks lines

zip_map : {A B : Type 0} (R S : A → B → Type 0) (xs : List A) (ys : List B) → ((x : A) (y : B) → Contains xs x → R x y → S x y) → AllZip R xs ys → AllZip S xs ys
zip_map R S [] [] f h = tt
zip_map R S [] (y ∷ ys) f h = h
zip_map R S (x ∷ xs) [] f h = h
zip_map R S (x ∷ xs) (y ∷ ys) f h = (f x y (mem-head x xs) h.0, zip_map R S xs ys (λ z w m r. f z w (mem-tail z x xs m) r) h.1)

attack_eq : (a b : Attack) → a.from ≡ b.from → a.to ≡ b.to → a ≡ b
attack_eq a b p r = λ i. record { from = p i; to = r i }

module _ (g : Graph) (names : List (List ℕ)) where
  pub lines-start : (lines : List AttackLine) → lines ≡ [] → AreLines g names 0 lines
  lines-start lines e = rw e (record {
    attacks = [];
    in_order = λ i j d l lj. absurd (omega (arith, lj));
    exactly = λ a. ((λ m. absurd (mem-nil a m)), (λ p. absurd (omega (arith, p.1))));
    each = tt;
  })

  module _ (n : ℕ) (a : Attack) (small : a.to < 12) (at : 12 * a.from + a.to ≡ n) where
    same : (b : Attack) → b.to < 12 → 12 * b.from + b.to ≡ n → b ≡ a
    same b l e = attack_eq b a (omega (arith, small, at, l, e)) (omega (arith, small, at, l, e))

    before : (b : Attack) → b.to < 12 → 12 * b.from + b.to < n → IsEarlierAttack b a
    before b l h = go (dec_le (suc b.from) a.from)
      where
        go : Dec (suc b.from ≤ a.from) → IsEarlierAttack b a
        go (yes f) = inl f
        go (no f) = inr (omega (arith, small, at, l, h, f), omega (arith, small, at, l, h, f))

    pub lines-skip : (lines : List AttackLine) → AreLines g names n lines → (HasAttack g a.from a.to → ⊥) → AreLines g names (n + 1) lines
    lines-skip lines old none = record {
      attacks = old.attacks;
      in_order = old.in_order;
      exactly = λ b. (
        (λ m. let w = (old.exactly b).0 m in (w.0, omega (arith, w.1))),
        (λ p. go b p (ℕ_discrete (12 * b.from + b.to) n)),
      );
      each = old.each;
    }
      where
        go : (b : Attack) → HasAttack g b.from b.to × (12 * b.from + b.to < n + 1) → Dec (12 * b.from + b.to ≡ n) → Contains old.attacks b
        go b p (yes e) = absurd (none (subst (λ z. HasAttack g z.from z.to) (same b (g.small b.from b.to p.0).1 e) p.0))
        go b p (no f) = (old.exactly b).1 (p.0, omega (arith, p.1, f))

    pub lines-more : (lines new : List AttackLine) (line : AttackLine) → AreLines g names n lines → HasAttack g a.from a.to → IsLineOf (HasWeakAttack g) names a line → new ≡ lines ++ line ∷ [] → AreLines g names (n + 1) new
    lines-more lines new line old attack is e = rw e (record {
      attacks = old.attacks ++ a ∷ [];
      in_order = all_pairs_push IsEarlierAttack old.attacks a old.in_order (λ k d l. let m = (old.exactly (get_or old.attacks k d)).0 (Contains-get_or old.attacks k d l) in before (get_or old.attacks k d) (g.small (get_or old.attacks k d).from (get_or old.attacks k d).to m.0).1 m.1);
      exactly = λ b. (
        (λ m. elim (Contains-push_cases old.attacks a b m) [
          | inl o ↦ let w = (old.exactly b).0 o in (w.0, omega (arith, w.1))
          | inr f ↦ subst (λ z. HasAttack g z.from z.to × (12 * z.from + z.to < n + 1)) f (attack, omega (arith, at))
        ]),
        (λ p. go b p (ℕ_discrete (12 * b.from + b.to) n)),
      );
      each = all_zip_push (IsLineOf (HasWeakAttack g) names) old.attacks lines a line old.each is;
    })
      where
        go : (b : Attack) → HasAttack g b.from b.to × (12 * b.from + b.to < n + 1) → Dec (12 * b.from + b.to ≡ n) → Contains (old.attacks ++ a ∷ []) b
        go b p (yes f) = subst (λ z. Contains (old.attacks ++ a ∷ []) z) (sym (same b (g.small b.from b.to p.0).1 f)) (Contains-push old.attacks a)
        go b p (no f) = Contains-append_left old.attacks (a ∷ []) b ((old.exactly b).1 (p.0, omega (arith, p.1, f)))

  pub lines-end : (lines : List AttackLine) → AreLines g names 144 lines → (q : Query) → AreAttacks q (whole q) g → AreAttackLines q names lines
  lines-end lines l q are = (
    l.attacks,
    record {
      in_order = l.in_order;
      exactly = λ a. (
        (λ m. (are.by a.from a.to).0 ((l.exactly a).0 m).0),
        (λ k. let b = (are.by a.from a.to).1 k in let s = g.small a.from a.to b in (l.exactly a).1 (b, omega (arith, s.0, s.1))),
      );
    },
    zip_map (IsLineOf (HasWeakAttack g) names) (IsLineOf (IsWeak q (whole q)) names) l.attacks lines (λ a line m h. record {
      from = h.from;
      to = h.to;
      weak = (let k = (are.by a.from a.to).0 ((l.exactly a).0 m).0 in ((λ t. (are.weak a.from a.to k).0 (h.weak.0 t)), (λ w. h.weak.1 ((are.weak a.from a.to k).1 w))));
    }) l.each,
  )

-- a graph of a query attacks only atoms that have a name
pub named-attacks : (query : Query) (g : Graph) (names : List (List ℕ)) → length names ≡ length query.atoms → AreAttacks query (whole query) g → (F G : ℕ) → HasAttack g F G → (F < length names) × (G < length names)
named-attacks query g names long are F G h = let a = (are.by F G).0 h in (omega (arith, a.0, long), omega (arith, a.1, long))
