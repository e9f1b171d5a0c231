use Rattle.std.proofs.Common.{ℕ, [], length, map, get_or, Contains, refl, ◌∙◌, ap, subst, arith}
use Rattle.cqa_model.specs.declared.query.RowId.{RowId}
use Rattle.range_ask.specs.Walking.{wide_of}
use Rattle.range_ask.proofs.Numbered.{wide-below, wide-picks}
use Rattle.range_ask.proofs.ends.ends_of.Goals as goal
use Rattle.table_blocks.specs.Tables.{names_in}

pub picked-requires : goal.picked-requires
picked-requires c =
    let is = c.in_ok-choice.ensures in
    λ n m.
    let below = wide-below 0 is.parts n (subst (λ ns. Contains ns n) (c.as_slice-wide.ensures.value ∙ is.wide) m) in
    let each = is.low_each in
    let long = ap length c.as_slice.ensures.value in
    omega (arith, below, each, long)

pub picked-requires-2 : goal.picked-requires-2
picked-requires-2 c =
    let is = c.in_ok-choice.ensures in
    λ n m.
    let below = wide-below 0 is.parts n (subst (λ ns. Contains ns n) (c.as_slice-wide.ensures.value ∙ is.wide) m) in
    let each = is.high_each in
    let long = ap length c.as_slice-2.ensures.value in
    omega (arith, below, each, long)

pub returns : goal.returns
returns c =
    let choice = c.in_ok-choice.choice in
    let is = c.in_ok-choice.ensures in
    let name : ℕ → RowId = λ p. record { table = c.args.table; place = p } in
    let numbers = c.as_slice-wide.ensures.value ∙ is.wide in
    record {
      parts = is.parts;
      parted = is.parted;
      range = record { least = choice.least; low = names_in c.args.table choice.low.items; greatest = choice.greatest; high = names_in c.args.table choice.high.items };
      is = is.range;
      least_is = refl;
      low_is = c.in_ok-low.ensures ∙ (ap (λ ns. map (λ n. name (get_or c.as_slice.result.now n 0)) ns) numbers
          ∙ (ap (λ ps. map (λ n. name (get_or ps n 0)) (wide_of is.parts)) c.as_slice.ensures.value ∙ wide-picks name is.parts [] choice.low.items is.low_each));
      greatest_is = refl;
      high_is = c.in_ok-high.ensures ∙ (ap (λ ns. map (λ n. name (get_or c.as_slice-2.result.now n 0)) ns) numbers
          ∙ (ap (λ ps. map (λ n. name (get_or ps n 0)) (wide_of is.parts)) c.as_slice-2.ensures.value ∙ wide-picks name is.parts [] choice.high.items is.high_each));
    }
