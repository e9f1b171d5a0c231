use Rattle.std.proofs.Common.{◌≡◌, ◌∙◌, List, ◌∷◌, Contains, inl, inr, refl, sym, subst, drop, take, Some, slice_get, true≢false}
use Rattle.std.specs.List.Sorted.{IsStrictlySortedBy}
use Rattle.std.specs.Vec.Iter.{into_iter_items}
use Rattle.std.proofs.lemmas.List.{nil_from_length}
use Rattle.cqa_value.specs.declared.value.Value.{Value}
use Rattle.cqa_value.specs.Values.{row_cmp}
use Rattle.cqa_value.proofs.Words.{mem-nil}
use Rattle.row_answers.specs.Sifting.{AreSifted}
use Rattle.row_answers.proofs.Sieving.{AreDone, done-none, done-more, done-all, later-sorted}
use Rattle.row_answers.proofs.Leaving.{is-other, to_come-then, met-then, isnt-other, to_come-else, met-else}
use Rattle.row_answers.proofs.difference.leave_out.Goals as goal

pub loop-row-init : goal.loop-row-init
loop-row-init c = record {
  sifted = done-none (λ row. Contains c.args.others.now row → ⊥) (into_iter_items c.into_iter-row-iterator.result) c.args.left.now.items c.requires.none;
  to_come = λ row m. subst (λ xs. Contains xs row) (sym c.into_iter-row-iterator.ensures.into_iter_gives.0) (c.requires.among row m);
  met = λ row m k. absurd (mem-nil row m);
}

pub loop-row-preserved-then-is_at : goal.loop-row-preserved-then-is_at
loop-row-preserved-then-is_at c =
    let others = c.args.others.now in
    let Kept : List Value → Type 0 = λ row. Contains others row → ⊥ in
    let all = into_iter_items c.into_iter-row-iterator.result in
    let later = into_iter_items c.next.new.self in
    let row = c.in-Some.row in
    let left = c.loop-row.left.items in
    let at = c.loop-row.at in
    let step = c.in-Some.ensures.steps.0 in
    let to_come = subst (λ (xs : List (List Value)). (x : List Value) → Contains (drop at others) x → Contains xs x) step c.loop-row.invariant.to_come in
    let met = subst (λ (xs : List (List Value)). (x : List Value) → Contains (take at others) x → Contains xs x → ⊥) step c.loop-row.invariant.met in
    let before = subst (AreDone Kept all left) step c.loop-row.invariant.sifted in
    let ascends = later-sorted Kept all left (row ∷ later) (subst (IsStrictlySortedBy row_cmp) (sym c.into_iter-row-iterator.ensures.into_iter_gives.0) c.requires.rows) before in
    let is = c.is_at.ensures.is.0 c.if-is_at.true in
    record {
      sifted = done-more Kept all left left row later before (inr (λ n. n (is-other others at c.requires.others row later ascends to_come met is), refl));
      to_come = to_come-then others at c.requires.others row later ascends to_come met is;
      met = met-then others at c.requires.others row later ascends to_come met is;
    }

pub loop-row-preserved : goal.loop-row-preserved
loop-row-preserved c =
    let others = c.args.others.now in
    let Kept : List Value → Type 0 = λ row. Contains others row → ⊥ in
    let all = into_iter_items c.into_iter-row-iterator.result in
    let later = into_iter_items c.next.new.self in
    let row = c.in-Some.row in
    let left = c.loop-row.left.items in
    let at = c.loop-row.at in
    let step = c.in-Some.ensures.steps.0 in
    let to_come = subst (λ (xs : List (List Value)). (x : List Value) → Contains (drop at others) x → Contains xs x) step c.loop-row.invariant.to_come in
    let met = subst (λ (xs : List (List Value)). (x : List Value) → Contains (take at others) x → Contains xs x → ⊥) step c.loop-row.invariant.met in
    let before = subst (AreDone Kept all left) step c.loop-row.invariant.sifted in
    let ascends = later-sorted Kept all left (row ∷ later) (subst (IsStrictlySortedBy row_cmp) (sym c.into_iter-row-iterator.ensures.into_iter_gives.0) c.requires.rows) before in
    let isnt : slice_get others at ≡ Some row → ⊥ = λ e. true≢false (sym (c.is_at.ensures.is.1 e) ∙ c.if-is_at.false) in
    record {
      sifted = done-more Kept all left c.push.new.self.items row later before (inl (isnt-other others at c.requires.others row later ascends to_come met isnt, c.in_ok-push.ensures.items));
      to_come = to_come-else others at c.requires.others row later ascends to_come met isnt;
      met = met-else others at c.requires.others row later ascends to_come met isnt;
    }

pub returns : goal.returns
returns c =
    let Kept : List Value → Type 0 = λ row. Contains c.args.others.now row → ⊥ in
    let left = into_iter_items c.loop-row.row-iterator in
    subst (λ rows. AreSifted Kept rows c.loop-row.left.items) c.into_iter-row-iterator.ensures.into_iter_gives.0
    (done-all Kept (into_iter_items c.into_iter-row-iterator.result) c.loop-row.left.items left c.loop-row.invariant.sifted (nil_from_length left (sym c.loop-row.row-iterator.rest.ok.0 ∙ c.in-None.ensures.steps.0)))
