use Rattle.std.proofs.Common.{◌≡◌, ◌≤◌, ◌<◌, ◌++◌, ◌∷◌, [], List, ℕ, length, take, drop, sym, subst, ap, ◌∙◌, arith, append_assoc, length-append, slice_index}
use Rattle.std.proofs.lemmas.List.{take_more_set, length-take-le, length-drop, length-set}
use Rattle.std.proofs.lemmas.Result.{IfOk-weaker}
use Rattle.std.specs.Str.{IsUtf8}
use Rattle.spj_syntax.specs.Lexemes.{undoubled}
use Rattle.spj_syntax.proofs.Values.{undoubled_some, undoubled_same}
use Rattle.spj_syntax.proofs.leaf.text_value.Goals as goal

-- where the room is full and a byte is left, the value is too long
too_long : (bytes value : List ℕ) (n at : ℕ) → length value ≡ 1024 → n ≡ 1024 → at < length bytes → undoubled bytes ≡ take n value ++ undoubled (drop at bytes) → length (undoubled bytes) ≤ 1024 → ⊥
too_long bytes value n at v e h k s =
    let more : 0 < length (undoubled (drop at bytes)) = undoubled_some (drop at bytes) (omega (arith, length-drop at bytes)) in
    omega (arith, more, ap length k, length-append (take n value) (undoubled (drop at bytes)), length-take-le n value (omega arith))

pub returns-then-length-eq-LONGEST_TEXT_VALUE : goal.returns-then-length-eq-LONGEST_TEXT_VALUE
returns-then-length-eq-LONGEST_TEXT_VALUE c =
    IfOk-weaker c.short_name-then-length-eq-LONGEST_TEXT_VALUE.result _ _
    (λ n h s. absurd (too_long c.args.bytes.now c.loop-at.value c.loop-at.length c.loop-at.at c.loop-at.invariant.size c.if-length-eq-LONGEST_TEXT_VALUE.true c.loop-at-test.true c.loop-at.invariant.value s)) c.short_name-then-length-eq-LONGEST_TEXT_VALUE.ensures

pub loop-at-preserved : goal.loop-at-preserved
loop-at-preserved c = record {
  within = c.next-at.ensures.within;
  size = length-set c.loop-at.value c.loop-at.length (slice_index c.args.bytes.now c.loop-at.at) ∙ c.loop-at.invariant.size;
  room = omega arith;
  value = c.loop-at.invariant.value ∙ ap (λ z. take c.loop-at.length c.loop-at.value ++ z) c.next-at.ensures.value
      ∙ sym (append_assoc (take c.loop-at.length c.loop-at.value) (slice_index c.args.bytes.now c.loop-at.at ∷ []) (undoubled (drop c.next-at.result c.args.bytes.now)))
      ∙ ap (λ z. z ++ undoubled (drop c.next-at.result c.args.bytes.now)) (sym (take_more_set c.loop-at.value c.loop-at.length (slice_index c.args.bytes.now c.loop-at.at) (omega arith)));
}

pub short_name-requires : goal.short_name-requires
short_name-requires c = subst IsUtf8 (undoubled_same c.args.bytes.now (sym c.contains.ensures.value ∙ c.if-not-contains.true)) c.requires

pub returns-then-not-contains : goal.returns-then-not-contains
returns-then-not-contains c = rw (undoubled_same c.args.bytes.now (sym c.contains.ensures.value ∙ c.if-not-contains.true)) c.short_name.ensures
