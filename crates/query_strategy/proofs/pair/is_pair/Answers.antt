use Rattle.std.proofs.Common.{◌≡◌, length, arith, true≢false, sym, ◌∙◌}
use Rattle.cqa_model.specs.Variables.{whole}
use Rattle.key_closure.specs.Members.{seen}
use Rattle.attack_graph.proofs.Sameness.{same-sym, same-weak}
use Rattle.query_strategy.proofs.Mutual.{pair-of}
use Rattle.query_strategy.proofs.pair.is_pair.Goals as goal

pub returns-then-has : goal.returns-then-has
returns-then-has c =
    let q = c.args.named.now.query.now in
    let view = seen q c.args.named.now.view in
    let same = same-sym (whole q) view c.requires.whole in
    let two : length q.atoms ≡ 2 = (let a = c.if-len-ne2.false in let b = c.len.ensures in omega arith) in
    let there = same-weak q view (whole q) same 0 1 ((c.weak_row.ensures 1).0 (c.has.ensures.0 c.if-has.true)).1 in (
      λ e. pair-of q two c.requires.cycle there (same-weak q view (whole q) same 1 0 ((c.weak_row-then-has.ensures 0).0 (c.has-then-has.ensures.0 e)).1),
      λ p. c.has-then-has.ensures.1 ((c.weak_row-then-has.ensures 0).1 ((let t = two in omega arith), same-weak q (whole q) view c.requires.whole 1 0 (p.weakly 1 0 (omega arith) (omega arith) (λ e. omega arith)).1)),
    )

pub returns-else-has : goal.returns-else-has
returns-else-has c =
    let q = c.args.named.now.query.now in
    let view = seen q c.args.named.now.view in
    let two : length q.atoms ≡ 2 = (let a = c.if-len-ne2.false in let b = c.len.ensures in omega arith) in (
      λ e. absurd (true≢false (sym e ∙ c.if-has.false)),
      λ p. c.has.ensures.1 ((c.weak_row.ensures 1).1 ((let t = two in omega arith), same-weak q (whole q) view c.requires.whole 0 1 (p.weakly 0 1 (omega arith) (omega arith) (λ e. omega arith)).1)),
    )
