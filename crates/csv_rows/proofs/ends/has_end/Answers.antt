use Rattle.std.proofs.Common.{◌≡◌, ◌∙◌, ◌<◌, ◌+◌, ◌-◌, ℕ, zero, suc, List, [], ◌∷◌, Bool, false, drop, take, length, nat_eq, codes, ap, sym, refl, arith}
use Rattle.std.proofs.lemmas.List.{take_rest}
use Rattle.std.specs.List.{starts_with}
use Rattle.csv_rows.specs.Ends.{has_end}
use Rattle.csv_rows.proofs.ends.has_end.Goals as goal

-- no line that ends a block begins at a place
skipped : (text : List ℕ) (at : ℕ) → at < length text → starts_with nat_eq (drop at text) (codes "\n\\.\n") ≡ false → starts_with nat_eq (drop at text) (codes "\n\\.\r\n") ≡ false → has_end (drop at text) ≡ has_end (drop (suc at) text)
skipped [] at l one two = absurd (omega (arith, l))
skipped (byte ∷ bytes) zero l one two = rw (one, two) refl
skipped (byte ∷ bytes) (suc at) l one two = skipped bytes at (omega (arith, l)) one two

tested : (text needle : List ℕ) (at : ℕ) (result : Bool) → result ≡ starts_with nat_eq (take (length text - at) (drop at text)) needle → result ≡ false → starts_with nat_eq (drop at text) needle ≡ false
tested text needle at result value is = ap (λ rest. starts_with nat_eq rest needle) (sym (take_rest text at)) ∙ sym value ∙ is

pub loop-at-preserved : goal.loop-at-preserved
loop-at-preserved c =
    let next : suc c.loop-at.at ≡ c.loop-at.at + 1 = omega arith in
    let text = c.args.text.now in
    let at = c.loop-at.at in
    c.loop-at.invariant
    ∙ skipped text at c.loop-at-test.true (tested text (codes "\n\\.\n") at c.starts_with.result c.starts_with.ensures.value c.if-starts_with.false) (tested text (codes "\n\\.\r\n") at c.starts_with-else-starts_with.result c.starts_with-else-starts_with.ensures.value c.if-starts_with-2.false)
    ∙ ap (λ at. has_end (drop at text)) next
