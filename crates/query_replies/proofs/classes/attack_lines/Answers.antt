use Rattle.std.proofs.Common.{◌≡◌, ◌/◌, ◌%◌, true, ◌∙◌, subst, arith}
use Rattle.query_replies.proofs.LineSteps.{AreLines, lines-more, lines-skip, lines-end}
use Rattle.query_replies.proofs.classes.attack_lines.Goals as goal
use Rattle.query_replies.proofs.classes.attack_lines.Goals.{then-has+in_ok-attack_line+in_ok-push, else-has}

pub loop-pair-preserved : goal.loop-pair-preserved
loop-pair-preserved c =
    let g = c.args.graph.now in
    let n = c.loop-pair.pair in
    elim c.if-has.branch [
      | then-has+in_ok-attack_line+in_ok-push w ↦ lines-more g c.args.names.now n (record { from = n / 12; to = n % 12 }) (omega arith) (omega arith) c.loop-pair.lines c.if-has.lines _ c.loop-pair.invariant
          (c.has.ensures.0 w.if-has.true) w.in_ok-attack_line.ensures (w.lines-is ∙ w.in_ok-push.ensures.ok)
      | else-has w ↦ rw w.lines-is (lines-skip g c.args.names.now n (record { from = n / 12; to = n % 12 }) (omega arith) (omega arith) c.loop-pair.lines c.loop-pair.invariant (λ h. let e : c.has.result ≡ true = c.has.ensures.1 h in cc))
    ]

pub returns : goal.returns
returns c =
    let ended : c.loop-pair.pair ≡ 144 = omega arith in
    lines-end c.args.graph.now c.args.names.now c.loop-pair.lines (subst (λ z. AreLines c.args.graph.now c.args.names.now z c.loop-pair.lines) ended c.loop-pair.invariant)
