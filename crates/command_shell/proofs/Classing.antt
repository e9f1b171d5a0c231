-- The class of a query, and its attacks in order.
use Rattle.std.proofs.Common.{◌≡◌, ◌⊎◌, ◌↔◌, ◌<◌, inl, inr, ℕ, zero, suc, true, false, List, [], ◌∷◌, ◌++◌, length, get_or, AllPairs, Contains, refl, subst, arith, sym}
use native.Mathlib.Decide.{ℕ_discrete}
use Rattle.std.proofs.lemmas.List.Elements.{Contains-push, Contains-push_cases, Contains-append_left, Contains-get_or}
use Rattle.std.proofs.lemmas.List.Quantifiers.{all_pairs_push}
use Rattle.cqa_value.proofs.Words.{mem-nil}
use Rattle.complexity_class.specs.declared.class.Class.{Class}
use Rattle.complexity_class.specs.declared.class.Class.TheVariants.{FirstOrder, Polynomial, CoNp}
use Rattle.cqa_model.specs.declared.query.Query.{Query}
use Rattle.cqa_model.specs.Variables.{whole}
use Rattle.cqa_model.specs.Graph.{Attacks, IsWeak}
use Rattle.cqa_model.proofs.Cycles.{plan_or_cycle}
use Rattle.cqa_model.proofs.Elimination.{plan-eliminates}
use Rattle.query_class.specs.Cycles.{IsClass}
use Rattle.existence_law.proofs.Attacking.{attacks_are_decided}
use Rattle.reply_text.specs.declared.reply.AttackLine.{AttackLine}
use Rattle.reply_text.specs.declared.reply.PartClass.{PartClass}
use Rattle.query_replies.specs.AttackLines.{Attack, IsEarlierAttack, AreAttacksOf, IsLineOf, AreAttackLines}
use Rattle.query_replies.specs.Classes.{IsClassWith}
use Rattle.command_shell.proofs.ShownLines.{all_lines}

module _ (q : Query) where
  abbrev attack : ℕ → ℕ → Attack
  attack F G = record { from = F; to = G }

  -- ---- the attacks before one place

  record AreBefore (F G : ℕ) : Type 0 where
    pub attacks : List Attack
    pub in_order : AllPairs IsEarlierAttack attacks
    pub exactly : (a : Attack) → Contains attacks a ↔ (Attacks q (whole q) a.from a.to × IsEarlierAttack a (attack F G))

  none : AreBefore 0 0
  none = record {
    attacks = [];
    in_order = λ i j d l k. absurd (omega (arith, k));
    exactly = λ a. (λ m. absurd (mem-nil a m), λ p. absurd (elim p.1 [ inl l ↦ omega (arith, l) | inr r ↦ (let l = r.1 in omega (arith, l)) ]));
  }

  -- what is before a place is before the next one
  further : (F G : ℕ) (a : Attack) → IsEarlierAttack a (attack F G) → IsEarlierAttack a (attack F (suc G))
  further F G a (inl l) = inl l
  further F G a (inr r) = inr (r.0, let l = r.1 in omega (arith, l))

  module _ (F G : ℕ) (old : AreBefore F G) where
    -- before the next place is what is before this one, and what is here
    nearer : (a : Attack) → IsEarlierAttack a (attack F (suc G)) → (attack F G ≡ a) ⊎ IsEarlierAttack a (attack F G)
    nearer a (inl l) = inr (inl l)
    nearer a (inr r) = go (ℕ_discrete G a.to)
      where
        go : Dec (G ≡ a.to) → (attack F G ≡ a) ⊎ IsEarlierAttack a (attack F G)
        go (yes e) = inl (let f = sym r.0 in λ i. record { from = f i; to = e i })
        go (no n) = inr (inr (r.0, let l = r.1 in omega (arith, l, n)))

    skipped : (Attacks q (whole q) F G → ⊥) → AreBefore F (suc G)
    skipped no_attack = record {
      attacks = old.attacks;
      in_order = old.in_order;
      exactly = λ a. (
        λ m. let h = (old.exactly a).0 m in (h.0, further F G a h.1),
        λ p. elim (nearer a p.1) [
          | inl e ↦ absurd (no_attack (subst (λ (b : Attack). Attacks q (whole q) b.from b.to) (sym e) p.0))
          | inr l ↦ (old.exactly a).1 (p.0, l)
        ],
      );
    }

    taken : Attacks q (whole q) F G → AreBefore F (suc G)
    taken here = record {
      attacks = old.attacks ++ attack F G ∷ [];
      in_order = all_pairs_push IsEarlierAttack old.attacks (attack F G) old.in_order (λ k d l. ((old.exactly (get_or old.attacks k d)).0 (Contains-get_or old.attacks k d l)).1);
      exactly = λ a. (
        λ m. elim (Contains-push_cases old.attacks (attack F G) a m) [
          | inl o ↦ (let h = (old.exactly a).0 o in (h.0, further F G a h.1))
          | inr e ↦ subst (λ (b : Attack). Attacks q (whole q) b.from b.to × IsEarlierAttack b (attack F (suc G))) e (here, inr (refl, omega arith))
        ],
        λ p. elim (nearer a p.1) [
          | inl e ↦ subst (Contains (old.attacks ++ attack F G ∷ [])) e (Contains-push old.attacks (attack F G))
          | inr l ↦ Contains-append_left old.attacks (attack F G ∷ []) a ((old.exactly a).1 (p.0, l))
        ],
      );
    }

    next : AreBefore F (suc G)
    next = elim (attacks_are_decided.attacks q F G) [ inl a ↦ taken a | inr n ↦ skipped n ]

  along : (F G : ℕ) → AreBefore F 0 → AreBefore F G
  along F zero start = start
  along F (suc G) start = next F G (along F G start)

  -- no atom attacks one that isn't there
  turned : (F : ℕ) → AreBefore F (length q.atoms) → AreBefore (suc F) 0
  turned F old = record {
    attacks = old.attacks;
    in_order = old.in_order;
    exactly = λ a. (
      λ m. let h = (old.exactly a).0 m in (h.0, elim h.1 [ inl l ↦ inl (omega (arith, l)) | inr r ↦ inl (let e = r.0 in omega (arith, e)) ]),
      λ p. (old.exactly a).1 (
        p.0,
        elim p.1 [
          | inl l ↦ go a p.0 l (ℕ_discrete a.from F)
          | inr r ↦ absurd (let l = r.1 in omega (arith, l))
        ],
      ),
    );
  }
    where
      go : (a : Attack) → Attacks q (whole q) a.from a.to → a.from < suc F → Dec (a.from ≡ F) → IsEarlierAttack a (attack F (length q.atoms))
      go a is l (yes e) = inr (e, is.1)
      go a is l (no n) = inl (omega (arith, l, n))

  all_before : (F : ℕ) → AreBefore F 0
  all_before zero = none
  all_before (suc F) = turned F (along F (length q.atoms) (all_before F))

  all_attacks : AreBefore (length q.atoms) 0
  all_attacks = all_before (length q.atoms)

  are_attacks : AreAttacksOf q all_attacks.attacks
  are_attacks = record {
    in_order = all_attacks.in_order;
    exactly = λ a. (λ m. ((all_attacks.exactly a).0 m).0, λ is. (all_attacks.exactly a).1 (is, inl is.0));
  }

  -- ---- the line of an attack

  line : (names : List (List ℕ)) (a : Attack) → Attacks q (whole q) a.from a.to → (l : AttackLine) × IsLineOf (IsWeak q (whole q)) names a l
  line names a is = elim (attacks_are_decided.weak q a.from a.to is.0) [
    | inl weak ↦ (record { from = get_or names a.from []; to = get_or names a.to []; weak = true }, record { from = refl; to = refl; weak = (λ t. weak, λ w. refl) })
    | inr strong ↦ (record { from = get_or names a.from []; to = get_or names a.to []; weak = false }, record { from = refl; to = refl; weak = (λ t. absurd (let e : false ≡ true = t in cc), λ w. absurd (strong w)) })
  ]

  lines : (names : List (List ℕ)) → (ls : List AttackLine) × AreAttackLines q names ls
  lines names =
      let attacks = all_attacks.attacks in
      let ls = all_lines (IsLineOf (IsWeak q (whole q)) names) attacks (λ a m. line names a ((are_attacks.exactly a).0 m)) in
      (ls.0, (attacks, are_attacks, ls.1))

  -- ---- the class

  class : (k : Class) × IsClass q (whole q) k
  class = elim (attacks_are_decided.strong_cycle q) [
    | inl strong ↦ (CoNp, strong)
    | inr weak ↦ elim (plan_or_cycle.either q) [
      | inl plan ↦ (FirstOrder, λ cycle. plan_or_cycle.not_both q plan.0 (plan-eliminates q (whole q) plan.0 plan.1) cycle)
      | inr cycle ↦ (Polynomial, (cycle, weak))
    ]
  ]

pub classes_are_told : (q : Query) (names : List (List ℕ)) → (part : PartClass) × IsClassWith q names part
classes_are_told q names =
    let k = class q in
    let ls = lines q names in
    (record { class = k.0; lines = ls.0 }, record { classed = k.1; attacks = ls.1 })
