use Rattle.std.proofs.Common.{◌≡◌, ◌∙◌, Bool, true, false, not, true≢false, inr, refl, sym, subst}
use Rattle.union_ask.specs.Searching.{IsOfIn}
use Rattle.row_answers.specs.Sifting.{Sifts}
use Rattle.union_ask.proofs.search.put_of.Goals as goal
use Rattle.union_ask.proofs.search.put_of.Goals.{in-Certain, in-Disputed}

of-not : (b : Bool) → not b ≡ false → b ≡ true
of-not true e = refl
of-not false e = absurd (true≢false e)

pub returns-else-is_of : goal.returns-else-is_of
returns-else-is_of c = λ db parts known.
    let row = c.args.row in
    let rows = c.args.answers.now.items in
    elim c.match-side.branch [
      | in-Certain w ↦ subst (λ side. Sifts (IsOfIn db parts side) row rows rows) (sym w.in-Certain.is) (inr (λ k. true≢false (sym (known.1 k) ∙ sym w.is_of-is ∙ c.if-is_of.false), refl))
      | in-Disputed w ↦ subst (λ side. Sifts (IsOfIn db parts side) row rows rows) (sym w.in-Disputed.is) (inr (λ n. n (known.0 (of-not c.args.is_certain (sym w.is_of-is ∙ c.if-is_of.false))), refl))
    ]
