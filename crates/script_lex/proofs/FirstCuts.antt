-- What stands first, from the places of its parts.
use Rattle.std.proofs.Common.{◌≡◌, ◌+◌, ◌-◌, ◌<◌, ◌≤◌, ◌==◌, ℕ, Bool, true, false, List, [], ◌∷◌, ◌++◌, length, take, drop, get_or, slice_range, Option, Some, None, refl, sym, ◌∙◌, ap, subst, arith, append_assoc, length-take, length-drop, length-append, if◌then◌else◌}
use Rattle.std.proofs.lemmas.Bool.Decides.{nat_tests}
use Rattle.std.proofs.lemmas.List.{take_all, take-append-drop, drop-drop, drop_more}
use Rattle.std.proofs.Math.Seq.{take-append_seam, drop-append_seam}
use Rattle.cqa_value.proofs.Words.{clash}
use Rattle.script_lex.specs.declared.blocks.BlockEnd.{BlockEnd}
use Rattle.script_lex.specs.declared.cutting.Cut.TheVariants as cuts
use Rattle.script_lex.specs.declared.modes.Mode.{Mode}
use Rattle.script_lex.specs.declared.modes.Mode.TheVariants.{Outside, Dash, Text, Comment}
use Rattle.script_lex.specs.declared.modes.Region.TheVariants as regions
use Rattle.script_lex.specs.declared.modes.Stop.{Stop}
use Rattle.script_lex.specs.Bytes.{is_blank}
use Rattle.script_lex.specs.ScriptParts.{Stands, BeginsAt, EndsAt, HasNoEnd, SkipsAt, BlockEndsAt, HasNoBlock}
use Rattle.script_lex.specs.Scripts.{after, is_gap_byte, is_text_byte, Leads, IsGap, IsSpace, BeginsOutright, IsText, IsCopy, Skips, IsCopyBlock, Follows, First, IsCut}
use Rattle.script_lex.proofs.Leading.{Leads-rest, stop_same, stop_none, semicolon_ends, outright_stays, gap_same, outright-semicolon, outright-take, last_dash}
use Rattle.script_lex.proofs.BlockLines.{skips_same}

-- a gap that goes over to a dash of something else
pub start_dash : (bytes : List ℕ) (stop : Stop) → Stands regions.Gap bytes stop → stop.mode ≡ Dash → BeginsAt bytes (stop.at - 1)
start_dash bytes stop h dash = go (take stop.at bytes) refl (subst (λ m. Leads is_gap_byte Outside (take stop.at bytes) m) dash h.leads)
  where
    outright : (rest : List ℕ) → drop stop.at bytes ≡ rest → BeginsOutright (45 ∷ rest)
    outright [] e = refl
    outright (b ∷ rest) e = (refl, λ _ is_dash. no_dash (ap (λ z. get_or z 0 0) e) is_dash)
      where
        no_dash : get_or (drop stop.at bytes) 0 0 ≡ b → b ≡ 45 → ⊥
        no_dash k l =
            let lt : stop.at < length bytes = omega (arith, ap length e, length-drop stop.at bytes) in
            let here : get_or bytes stop.at 0 ≡ 45 = ap (λ z. get_or z 0 0) (sym (drop_more bytes stop.at 0 lt)) ∙ k ∙ l in
            clash (is_gap_byte Dash 45) refl (subst (λ z. is_gap_byte Dash z ≡ false) here (subst (λ m. is_gap_byte m (get_or bytes stop.at 0) ≡ false) dash (h.here lt)))

    go : (xs : List ℕ) → take stop.at bytes ≡ xs → Leads is_gap_byte Outside xs Dash → BeginsAt bytes (stop.at - 1)
    go [] e k = absurd (cc k)
    go (b ∷ xs) e k =
        let last = last_dash xs Outside b k in
        let whole : bytes ≡ last.0 ++ 45 ∷ drop stop.at bytes = sym (take-append-drop stop.at bytes) ∙ ap (λ z. z ++ drop stop.at bytes) (e ∙ last.1) ∙ append_assoc last.0 (45 ∷ []) (drop stop.at bytes) in
        let count : length last.0 ≡ stop.at - 1 = omega (arith, ap length (e ∙ last.1), length-take stop.at bytes, length-append last.0 (45 ∷ []), h.within) in
        let front : take (stop.at - 1) bytes ≡ last.0 = ap (λ z. take z bytes) (sym count) ∙ ap (λ z. take (length last.0) z) whole ∙ take-append_seam last.0 (45 ∷ drop stop.at bytes) in
        let back : drop (stop.at - 1) bytes ≡ 45 ∷ drop stop.at bytes = ap (λ z. drop z bytes) (sym count) ∙ ap (λ z. drop (length last.0) z) whole ∙ drop-append_seam last.0 (45 ∷ drop stop.at bytes) in
        record {
          within = omega (arith, ap length back, length-drop (stop.at - 1) bytes);
          gap = record { leads = subst (λ z. Leads is_gap_byte Outside z Outside) (sym front) last.2 };
          outright = subst BeginsOutright (sym back) (outright (drop stop.at bytes) refl);
        }

-- no text begins in a gap
gap_no_text : (xs : List ℕ) (from to : Mode) → Leads is_gap_byte from xs to → (from ≡ Text → ⊥) → to ≡ Text → ⊥
gap_no_text [] from to h n e = n (h ∙ e)
gap_no_text (b ∷ xs) from to h n e = gap_no_text xs (after from b) to h.1 (step from h.0) e
  where
    step : (mode : Mode) → is_gap_byte mode b ≡ true → after mode b ≡ Text → ⊥
    step Outside g k = elim_quote (b == 39) (b == 45) refl k
      where
        elim_quote : (q d : Bool) → (b == 39) ≡ q → (if q then Text else (if d then Dash else Outside)) ≡ Text → ⊥
        elim_quote true d e k = grind (arith, nat_tests)
        elim_quote false true e k = (cc)
        elim_quote false false e k = (cc)
    step Dash g k = elim_quote (b == 39) (b == 45) refl k
      where
        elim_quote : (q d : Bool) → (b == 39) ≡ q → (if q then Text else (if d then Comment else Outside)) ≡ Text → ⊥
        elim_quote true d e k = grind (arith, nat_tests)
        elim_quote false true e k = (cc)
        elim_quote false false e k = (cc)
    step Text g k = (cc)
    step Comment g k = elim_feed (b == 10) k
      where
        elim_feed : (f : Bool) → (if f then Outside else Comment) ≡ Text → ⊥
        elim_feed true k = (cc)
        elim_feed false k = (cc)

pub start_other : (bytes : List ℕ) (stop : Stop) → Stands regions.Gap bytes stop → (stop.mode ≡ Dash → ⊥) → stop.at < length bytes → BeginsAt bytes stop.at
start_other bytes stop h no_dash lt = go stop.mode refl
  where
    not_blank : (b : ℕ) → is_gap_byte Outside b ≡ false → is_blank b ≡ false
    not_blank b e = grind (arith, nat_tests)

    not_dash : (b : ℕ) → is_gap_byte Outside b ≡ false → b ≡ 45 → ⊥
    not_dash b e k = grind (arith, nat_tests)

    outright : (b : ℕ) (rest : List ℕ) → is_gap_byte Outside b ≡ false → BeginsOutright (b ∷ rest)
    outright b [] e = not_blank b e
    outright b (c ∷ rest) e = (not_blank b e, λ k _. not_dash b e k)

    go : (mode : Mode) → stop.mode ≡ mode → BeginsAt bytes stop.at
    go Outside e = record {
      within = lt;
      gap = record { leads = subst (λ m. Leads is_gap_byte Outside (take stop.at bytes) m) e h.leads };
      outright = subst BeginsOutright (sym (drop_more bytes stop.at 0 lt)) (outright (get_or bytes stop.at 0) (drop (stop.at + 1) bytes) (subst (λ m. is_gap_byte m (get_or bytes stop.at 0) ≡ false) e (h.here lt)));
    }
    go Dash e = absurd (no_dash e)
    go Text e = absurd (gap_no_text (take stop.at bytes) Outside stop.mode h.leads (λ k. absurd (cc k)) e)
    go Comment e = let no : true ≡ false = subst (λ m. is_gap_byte m (get_or bytes stop.at 0) ≡ false) e (h.here lt) in absurd (cc no)

pub no_end : (bytes : List ℕ) (stop : Stop) → Stands regions.Statement bytes stop → stop.at ≡ length bytes → HasNoEnd bytes
no_end bytes stop h e = record { ends = stop.mode; leads = subst (λ z. Leads is_text_byte Outside z stop.mode) (take_all stop.at bytes (omega arith)) h.leads }

-- what begins outright is no space
begun_no_space : (bytes : List ℕ) (from : ℕ) → BeginsAt bytes from → IsSpace bytes → ⊥
begun_no_space bytes from h s =
    s.whole (go (drop from bytes) refl h.outright (Leads-rest is_gap_byte is_gap_byte Outside (take from bytes) (drop from bytes) Outside s.ends h.gap.leads (subst (λ z. Leads is_gap_byte Outside z s.ends) (sym (take-append-drop from bytes)) s.leads)))
  where
    go : (rest : List ℕ) → drop from bytes ≡ rest → BeginsOutright rest → Leads is_gap_byte Outside rest s.ends → s.ends ≡ Dash
    go [] e b l = let lt = h.within in absurd (omega (arith, ap length e, length-drop from bytes))
    go (a ∷ rest) e b l = outright_stays a rest s.ends b l

-- the text and what follows it
after_gap : (ended : Bool) (bytes : List ℕ) (from : ℕ) (gap text : List ℕ) (block : Option (List ℕ × List ℕ)) (rest : List ℕ) → BeginsAt bytes from → (k : First ended bytes gap text block rest) → drop from bytes ≡ text ++ 59 ∷ k.more
after_gap ended bytes from gap text block rest h k =
    (gap_same Outside (take from bytes) gap (drop from bytes) (text ++ 59 ∷ k.more) h.gap.leads h.outright k.is_gap.leads (outright-semicolon text k.more k.is_text.outright) (take-append-drop from bytes ∙ k.whole)).1

-- no `;` ends a text
pub cut_unended : (ended : Bool) (bytes : List ℕ) (from : ℕ) → BeginsAt bytes from → HasNoEnd (drop from bytes) → IsCut ended bytes cuts.Part
cut_unended ended bytes from h n = (
  begun_no_space bytes from h,
  λ s rest k.
      let text = k.first.is_text in
      stop_none is_text_byte Outside s.0 k.first.more 59 text.ends n.ends text.leads (semicolon_ends text.ends text.closed)
      (subst (λ z. Leads is_text_byte Outside z n.ends) (after_gap ended bytes from k.gap s.0 k.block rest h k.first) n.leads),
)

-- the bytes at a text's end
at_end : (bytes : List ℕ) (count : ℕ) → EndsAt bytes count → bytes ≡ take count bytes ++ 59 ∷ drop (count + 1) bytes
at_end bytes count h = sym (take-append-drop count bytes) ∙ ap (λ z. take count bytes ++ z) (drop_more bytes count 0 h.within ∙ ap (λ z. z ∷ drop (count + 1) bytes) h.here)

text_range : (bytes : List ℕ) (from count : ℕ) → slice_range bytes from (from + count) ≡ take count (drop from bytes)
text_range bytes from count = ap (λ z. take z (drop from bytes)) (omega arith)

drop_on : (bytes : List ℕ) (a b c : ℕ) → a + b ≡ c → drop b (drop a bytes) ≡ drop c bytes
drop_on bytes a b c e = drop-drop b a bytes ∙ ap (λ z. drop z bytes) e

-- the parts before what follows the `;`
pub record Headed (bytes : List ℕ) (from to : ℕ) : Type 0 where
  pub order : from ≤ to
  pub within : to < length bytes
  pub is_gap : IsGap (take from bytes)
  pub is_text : IsText (slice_range bytes from to)
  pub whole : bytes ≡ take from bytes ++ (slice_range bytes from to ++ 59 ∷ drop (to + 1) bytes)

pub head_of : (bytes : List ℕ) (from count : ℕ) → BeginsAt bytes from → EndsAt (drop from bytes) count → Headed bytes from (from + count)
head_of bytes from count h k =
    let e = text_range bytes from count in
    let lt = k.within in
    record {
      order = omega arith;
      within = omega (arith, length-drop from bytes);
      is_gap = h.gap;
      is_text = subst IsText (sym e) (record { outright = outright-take (drop from bytes) count h.outright; ends = k.ends; leads = k.leads; closed = k.closed });
      whole =
          sym (take-append-drop from bytes)
          ∙ ap (λ z. take from bytes ++ z) (at_end (drop from bytes) count k ∙ ap (λ z. z ++ 59 ∷ drop (count + 1) (drop from bytes)) (sym e)
          ∙ ap (λ z. slice_range bytes from (from + count) ++ 59 ∷ z) (drop_on bytes from (count + 1) ((from + count) + 1) (omega arith)));
    }

pub cut_plain : (ended : Bool) (bytes : List ℕ) (from to : ℕ) → Headed bytes from to → (IsCopy (slice_range bytes from to) → ⊥) → IsCut ended bytes (cuts.Statement (record { from = from; to = to }) None (to + 1))
cut_plain ended bytes from to h n =
    let order = h.order in
    let within = h.within in (
      record { begins = omega arith; ends = omega arith; within = omega arith; block_within = tt },
      record { is_gap = h.is_gap; is_text = h.is_text; more = drop (to + 1) bytes; whole = h.whole; follows = (n, refl) },
    )

pub cut_block : (ended : Bool) (bytes : List ℕ) (from to skipped : ℕ) (end : BlockEnd) → Headed bytes from to → IsCopy (slice_range bytes from to) → SkipsAt (drop (to + 1) bytes) skipped → BlockEndsAt ended (drop ((to + 1) + skipped) bytes) end
    → IsCut ended bytes (cuts.Statement (record { from = from; to = to }) (Some (record { from = (to + 1) + skipped; to = ((to + 1) + skipped) + end.at })) (((to + 1) + skipped) + end.rest))
cut_block ended bytes from to skipped end h copy s b =
    let order = h.order in
    let within = h.within in
    let skips_within = s.within in
    let block_order = b.order in
    let block_within = b.within in
    let body : drop skipped (drop (to + 1) bytes) ≡ drop ((to + 1) + skipped) bytes = drop_on bytes (to + 1) skipped ((to + 1) + skipped) refl in
    let skips : Skips (drop (to + 1) bytes) (slice_range bytes (to + 1) ((to + 1) + skipped)) (drop ((to + 1) + skipped) bytes) =
    subst (λ z. Skips (drop (to + 1) bytes) z (drop ((to + 1) + skipped) bytes)) (sym (text_range bytes (to + 1) skipped)) (subst (λ z. Skips (drop (to + 1) bytes) (take skipped (drop (to + 1) bytes)) z) body s.skips) in
    let block : IsCopyBlock ended (drop ((to + 1) + skipped) bytes) (slice_range bytes ((to + 1) + skipped) (((to + 1) + skipped) + end.at)) (drop (((to + 1) + skipped) + end.rest) bytes) =
    subst (λ z. IsCopyBlock ended (drop ((to + 1) + skipped) bytes) z (drop (((to + 1) + skipped) + end.rest) bytes)) (sym (text_range bytes ((to + 1) + skipped) end.at))
    (subst (λ z. IsCopyBlock ended (drop ((to + 1) + skipped) bytes) (take end.at (drop ((to + 1) + skipped) bytes)) z) (drop_on bytes ((to + 1) + skipped) end.rest (((to + 1) + skipped) + end.rest) refl) b.block) in (
      record {
        begins = omega arith;
        ends = omega arith;
        within = omega (arith, length-drop ((to + 1) + skipped) bytes, length-drop (to + 1) bytes);
        block_within = (omega arith, omega arith, omega arith);
      },
      record { is_gap = h.is_gap; is_text = h.is_text; more = drop (to + 1) bytes; whole = h.whole; follows = (copy, drop ((to + 1) + skipped) bytes, skips, block) },
    )

pub cut_no_block : (ended : Bool) (bytes : List ℕ) (from to skipped : ℕ) → BeginsAt bytes from → Headed bytes from to → IsCopy (slice_range bytes from to) → SkipsAt (drop (to + 1) bytes) skipped → HasNoBlock ended (drop ((to + 1) + skipped) bytes)
    → IsCut ended bytes cuts.Part
cut_no_block ended bytes from to skipped begun h copy s n = (begun_no_space bytes from begun, λ t rest k. none t.0 k.gap k.block rest k.first)
  where
    none : (text gap : List ℕ) (block : Option (List ℕ × List ℕ)) (rest : List ℕ) → First ended bytes gap text block rest → ⊥
    none text gap block rest k = go block k.follows
      where
        tails : (slice_range bytes from to ≡ text) × (59 ∷ drop (to + 1) bytes ≡ 59 ∷ k.more)
        tails =
            let gaps = gap_same Outside (take from bytes) gap (slice_range bytes from to ++ 59 ∷ drop (to + 1) bytes) (text ++ 59 ∷ k.more) h.is_gap.leads (outright-semicolon (slice_range bytes from to) (drop (to + 1) bytes) h.is_text.outright)
            k.is_gap.leads (outright-semicolon text k.more k.is_text.outright) (sym h.whole ∙ k.whole) in
            stop_same is_text_byte Outside (slice_range bytes from to) text (drop (to + 1) bytes) k.more 59 59 h.is_text.ends k.is_text.ends h.is_text.leads (semicolon_ends h.is_text.ends h.is_text.closed) k.is_text.leads
            (semicolon_ends k.is_text.ends k.is_text.closed) gaps.1

        more : drop (to + 1) bytes ≡ k.more
        more = let both = tails.1 in (cc)

        go : (block : Option (List ℕ × List ℕ)) → Follows ended text block k.more rest → ⊥
        go None f = f.0 (subst IsCopy tails.0 copy)
        go (Some p) f =
            let same = skips_same k.more p.0 (take skipped (drop (to + 1) bytes)) f.1 (drop skipped (drop (to + 1) bytes)) f.2 (subst (λ z. Skips z (take skipped (drop (to + 1) bytes)) (drop skipped (drop (to + 1) bytes))) more s.skips) in
            n.none p.1 rest (subst (λ z. IsCopyBlock ended z p.1 rest) (same.1 ∙ drop_on bytes (to + 1) skipped ((to + 1) + skipped) refl) f.3)
