use Rattle.std.proofs.Common.{◌∙◌, ◌++◌, ◌∷◌, [], ℤ, rules, ap}
use mir.Syntax.{w64}
use mir.Val.{SFits}
use Rattle.std.proofs.lemmas.Int.{to_z-of_z, ints}
use Rattle.lrat_check.proofs.StepLines.{hints_more}
use Rattle.lrat_check.proofs.reading.read_hints.Goals as goal

pub loop-number-preserved : goal.loop-number-preserved
loop-number-preserved c =
    let fits : SFits w64 c.hint_of.result = search (rules, ints) in
    let e = c.in-Number.ensures in record {
      line = c.loop-number.invariant.line ∙ e.1.same_line;
      so_far = hints_more c.loop-number.hints.items c.push.new.self.items e.0 _ _ (c.in-Number.number.negative, c.in-Number.number.size) c.hint_of.result _ e.1.token_is e.2
          c.if-number-eq0.false c.hint_of.ensures c.loop-number.invariant.so_far
          (c.in_ok-push-in-Number.ensures.items ∙ ap (λ (x : ℤ). c.loop-number.hints.items ++ x ∷ []) (to_z-of_z w64 c.hint_of.result fits));
    }
