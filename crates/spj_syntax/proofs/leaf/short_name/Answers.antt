use Rattle.std.proofs.Common.{◌≡◌, ◌≤◌, ◌<◌, List, ℕ, length, refl, sym, subst, ap, ◌∙◌, arith, Err}
use Rattle.std.specs.Str.{IsUtf8, IsValidUpTo}
use Rattle.std.proofs.lemmas.List.{take_all}
use Rattle.cqa_value.specs.declared.name.NameFault.{NameFault}
use Rattle.cqa_value.specs.declared.name.NameFault.TheVariants.{NotUtf8, TooLong}
use Rattle.cqa_value.specs.declared.memory.Fail.TheVariants.{Refused}
use Rattle.spj_syntax.proofs.leaf.short_name.Goals as goal

never : (bytes : List ℕ) → IsUtf8 bytes → length bytes ≤ 1024 → (fault : NameFault) → ((at : ℕ) → fault ≡ NotUtf8 at → IsValidUpTo bytes at) → (fault ≡ TooLong → 1024 < length bytes) → ⊥
never bytes u s (NotUtf8 at) f g = let v = f at refl in v.longest (length bytes) v.short (subst IsUtf8 (sym (take_all (length bytes) bytes (omega arith))) u)
never bytes u s TooLong f g = absurd (omega (arith, g refl))

pub unreachable-requires : goal.unreachable-requires
unreachable-requires c =
    let answers = c.from_bytes.ensures in
    let is : c.from_bytes.result ≡ Err (Refused c.in-Err-Refused.field-0-0) = c.in-Err-Refused.is ∙ ap (λ e. Err e) c.in-Err-Refused.field-0-is in
    never c.kept.result.now c.kept.ensures.utf8 c.kept.ensures.short c.in-Err-Refused.field-0-0
    (λ at h. (answers.not_utf8 at).0 (is ∙ ap (λ f. Err (Refused f)) h)) (λ h. (answers.too_long.0 (is ∙ ap (λ f. Err (Refused f)) h)).1)
