use Rattle.std.proofs.Common.{◌↔◌, Bool, false, IsTrue, Option, List, Contains, refl, sym, subst}
use Rattle.std.specs.Option.{IfSome}
use Rattle.std.specs.List.Sorted.{IsStrictlySortedBy}
use Rattle.cqa_value.specs.declared.value.Value.{Value}
use Rattle.cqa_value.specs.Values.{row_cmp}
use Rattle.cqa_value.proofs.Words.{clash}
use Rattle.union_ask.proofs.Looking.{holds-some, holds-none}
use Rattle.union_ask.proofs.BinarySearch.{found_row}
use Rattle.union_ask.proofs.known.holds.Goals as goal

pub returns-in-Some : goal.returns-in-Some
returns-in-Some c =
    let rows = c.as_slice.result.now in
    let ascends = subst (λ (k : Option (List (List Value))). IfSome k (IsStrictlySortedBy row_cmp)) c.in-Some.is c.requires in
    let seen = subst (IsStrictlySortedBy row_cmp) (sym c.as_slice.ensures) ascends in
    let found = found_row rows seen c.args.row.now c.binary_search.result c.binary_search.ensures.bound c.binary_search.ensures.position in
    holds-some c.args.known.now c.in-Some.rows c.args.row.now c.is_ok.result c.in-Some.is
    (subst (λ (xs : List (List Value)). IsTrue c.is_ok.result ↔ Contains xs c.args.row.now) c.as_slice.ensures (subst (λ (b : Bool). IsTrue b ↔ Contains rows c.args.row.now) (sym c.is_ok.ensures.value) found))

pub returns-in-None : goal.returns-in-None
returns-in-None c = (λ t. absurd (clash false t refl), λ h. absurd (holds-none c.args.known.now c.args.row.now c.in-None.is h))
