use Rattle.std.proofs.Common.{sym, ◌∙◌, arith, true≢false}
use Rattle.rows_against.proofs.Parting.{none_there, only_own}
use Rattle.rows_against.proofs.rival.rival_of.Goals as goal
use Rattle.rows_against.proofs.rival.rival_of.Goals.{else-at-from-via-then-at-from+else-is_in_block-2, else-at-from-via-else-at-from}

pub returns-then-names-at : goal.returns-then-names-at
returns-then-names-at c =
    let found = c.first_from-at.ensures in
    only_own c.args.key.now c.args.rows.now c.args.names.now c.args.from c.args.own c.requires.order c.requires.there c.requires.part c.requires.apart c.first_from-at.result found.after found.within found.before found.behind
    (c.is_in_block.ensures.0 c.if-is_in_block.true) c.if-names-at.true

pub returns-else-at-from : goal.returns-else-at-from
returns-else-at-from c =
    let found = c.first_from-at.ensures in
    none_there c.args.key.now c.args.rows.now c.args.names.now c.args.from c.args.own c.requires.order c.requires.there c.requires.part c.requires.apart c.first_from-at.result found.after found.within found.before found.behind
    (λ here. true≢false (sym (c.is_in_block.ensures.1 here) ∙ c.if-is_in_block.false))
    (λ more here. elim c.else-at-from.branch [
      | else-at-from-via-then-at-from+else-is_in_block-2 w ↦ true≢false (sym (w.is_in_block-then-at-from.ensures.1 here) ∙ w.if-is_in_block-2.false)
      | else-at-from-via-else-at-from w ↦ (let f = w.if-at-from.false in omega (arith, f, more))
    ])
