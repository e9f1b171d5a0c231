use Rattle.std.proofs.Common.{◌≡◌, ◌+◌, List, take, get_or, sym, subst}
use Rattle.std.proofs.lemmas.List.{take_more}
use Rattle.block_choices.specs.declared.row.BlockRow.{BlockRow}
use Rattle.choice_values.specs.Keeping.{ArePutBack}
use Rattle.choice_values.proofs.Aside.{back-more}
use Rattle.choice_values.proofs.keeping.put_back.Goals as goal

pub loop-name-preserved : goal.loop-name-preserved
loop-name-preserved c =
    let aside = c.args.aside.now in
    let i = c.loop-name.name-index in
    let old = c.args.rows.now.items in
    let new = c.keep.new.rows.items in
    subst (λ (xs : List BlockRow). ArePutBack xs old new) (sym (take_more aside i (record { block = 0; row = 0 }) c.loop-name-test.true))
    (back-more (take i aside) (get_or aside i (record { block = 0; row = 0 })) old c.loop-name.rows.items new c.loop-name.invariant c.keep.ensures.size c.keep.ensures.here c.keep.ensures.other)
