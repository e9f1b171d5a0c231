-- What stands first in any bytes is found: a statement, blanks and comments alone, or more than these and no complete statement.
use Rattle.std.proofs.Common.{◌≡◌, ◌⊎◌, inl, inr, ◌+◌, ◌-◌, ◌<◌, ◌≤◌, ℕ, zero, suc, Bool, true, false, List, [], ◌∷◌, ◌++◌, length, take, drop, get_or, slice_range, codes, Some, None, refl, sym, ◌∙◌, ap, subst, arith}
use Rattle.std.proofs.Math.Bool.{Bool-discrete}
use Rattle.std.proofs.lemmas.Bool.{cases_lt}
use Rattle.std.proofs.lemmas.List.{take_all, take-append-drop}
use native.Mathlib.Decide.{ℕ_discrete, dec_lt}
use mathlib.Core.List.{List-discrete}
use Rattle.cqa_value.proofs.Words.{dec_both}
use Rattle.script_lex.specs.declared.blocks.BlockEnd.{BlockEnd}
use Rattle.script_lex.specs.declared.blocks.Lines.{Lines}
use Rattle.script_lex.specs.declared.cutting.Cut.{Cut}
use Rattle.script_lex.specs.declared.cutting.Cut.TheVariants as cuts
use Rattle.script_lex.specs.declared.modes.Mode.{Mode}
use Rattle.script_lex.specs.declared.modes.Mode.TheVariants.{Outside, Dash, Text, Comment}
use Rattle.script_lex.specs.declared.modes.Region.{Region}
use Rattle.script_lex.specs.declared.modes.Region.TheVariants as regions
use Rattle.script_lex.specs.declared.modes.Stop.{Stop}
use Rattle.script_lex.specs.Bytes.{is_word_byte, is_line_blank, AllPass}
use Rattle.script_lex.specs.ScriptParts.{passes_in, Stands, BeginsAt, EndsAt, HasNoEnd, SkipsAt, LinesSoFar, StandAt, BlockEndsAt, HasNoBlock}
use Rattle.script_lex.specs.Scripts.{after, is_gap_byte, Leads, IsSpace, BeginsWithNoWordByte, IsCopy, IsEndingLine, IsCut}
use Rattle.script_lex.proofs.Leading.{only_semicolon}
use Rattle.script_lex.proofs.BlockLines.{skips_line, skips_none, lines_start, lines_more, line_more, block_found, block_at_end, no_block}
use Rattle.script_lex.proofs.FirstCuts.{start_dash, start_other, no_end, cut_unended, Headed, head_of, cut_plain, cut_block, cut_no_block}

-- ---- the first byte that doesn't pass

-- the bytes before the place pass, and the one there doesn't
record Halts (passes : Mode → ℕ → Bool) (from : Mode) (bytes : List ℕ) : Type 0 where
  pub at : ℕ
  pub mode : Mode
  pub within : at ≤ length bytes
  pub leads : Leads passes from (take at bytes) mode
  pub here : at < length bytes → passes mode (get_or bytes at 0) ≡ false

halts : (passes : Mode → ℕ → Bool) (from : Mode) (bytes : List ℕ) → Halts passes from bytes
halts passes from [] = record { at = 0; mode = from; within = omega arith; leads = refl; here = λ l. absurd (omega (arith, l)) }
halts passes from (b ∷ bytes) = go (passes from b) refl (halts passes (after from b) bytes)
  where
    go : (t : Bool) → passes from b ≡ t → Halts passes (after from b) bytes → Halts passes from (b ∷ bytes)
    go true e rest = let within = rest.within in record { at = suc rest.at; mode = rest.mode; within = omega arith; leads = (e, rest.leads); here = λ l. rest.here (omega (arith, l)) }
    go false e rest = record { at = 0; mode = from; within = omega arith; leads = refl; here = λ l. e }

stands : (region : Region) (bytes : List ℕ) → (stop : Stop) × Stands region bytes stop
stands region bytes = let h = halts (passes_in region) Outside bytes in (record { at = h.at; mode = h.mode }, record { within = h.within; leads = h.leads; here = h.here })

-- ---- where a text begins and ends

dec_dash : (mode : Mode) → Dec (mode ≡ Dash)
dec_dash Outside = no (λ e. cc e)
dec_dash Dash = yes refl
dec_dash Text = no (λ e. cc e)
dec_dash Comment = no (λ e. cc e)

begun : (bytes : List ℕ) → IsSpace bytes ⊎ ((at : ℕ) × BeginsAt bytes at)
begun bytes = let h = stands regions.Gap bytes in go h.0 h.1 (dec_dash h.0.mode) (cases_lt h.0.at (length bytes))
  where
    go : (stop : Stop) → Stands regions.Gap bytes stop → Dec (stop.mode ≡ Dash) → (stop.at < length bytes) ⊎ (length bytes ≤ stop.at) → IsSpace bytes ⊎ ((at : ℕ) × BeginsAt bytes at)
    go stop h (yes dash) place = inr (stop.at - 1, start_dash bytes stop h dash)
    go stop h (no other) (inl lt) = inr (stop.at, start_other bytes stop h other lt)
    go stop h (no other) (inr ge) = inl (record { ends = stop.mode; leads = subst (λ z. Leads is_gap_byte Outside z stop.mode) (take_all stop.at bytes ge) h.leads; whole = other })

over : (bytes : List ℕ) → HasNoEnd bytes ⊎ ((count : ℕ) × EndsAt bytes count)
over bytes = let h = stands regions.Statement bytes in go h.0 h.1 (cases_lt h.0.at (length bytes))
  where
    go : (stop : Stop) → Stands regions.Statement bytes stop → (stop.at < length bytes) ⊎ (length bytes ≤ stop.at) → HasNoEnd bytes ⊎ ((count : ℕ) × EndsAt bytes count)
    go stop h (inl lt) = let ends = only_semicolon stop.mode (get_or bytes stop.at 0) (h.here lt) in inr (stop.at, record { within = lt; ends = stop.mode; leads = h.leads; closed = ends.0; here = ends.1 })
    go stop h (inr ge) = let within = h.within in inl (no_end bytes stop h (omega arith))

-- ---- whether a text is a copy

dec_no_word_byte : (bytes : List ℕ) → Dec (BeginsWithNoWordByte bytes)
dec_no_word_byte [] = yes tt
dec_no_word_byte (b ∷ bytes) = Bool-discrete (is_word_byte b) false

dec_copy : (text : List ℕ) → Dec (IsCopy text)
dec_copy text = go (dec_both (List-discrete ℕ_discrete (take 4 text) (codes "copy")) (dec_no_word_byte (drop 4 text)))
  where
    go : Dec ((take 4 text ≡ codes "copy") × BeginsWithNoWordByte (drop 4 text)) → Dec (IsCopy text)
    go (yes h) = yes (record { more = drop 4 text; copy = sym (take-append-drop 4 text) ∙ ap (λ z. z ++ drop 4 text) h.0; word = h.1 })
    go (no f) = no (λ k. f (ap (λ z. take 4 z) k.copy, subst (λ z. BeginsWithNoWordByte (drop 4 z)) (sym k.copy) k.word))

-- ---- what is skipped before a block

blanks_each : (from : Mode) (bytes : List ℕ) (to : Mode) → Leads (λ _ b. is_line_blank b) from bytes to → AllPass is_line_blank bytes
blanks_each from [] to h = tt
blanks_each from (b ∷ bytes) to h = (h.0, blanks_each (after from b) bytes to h.1)

skipped : (bytes : List ℕ) → (count : ℕ) × SkipsAt bytes count
skipped bytes = let h = halts (λ _ b. is_line_blank b) Outside bytes in go h (dec_both (dec_lt h.at (length bytes)) (ℕ_discrete (get_or bytes h.at 0) 10))
  where
    go : (h : Halts (λ _ b. is_line_blank b) Outside bytes) → Dec ((h.at < length bytes) × (get_or bytes h.at 0 ≡ 10)) → (count : ℕ) × SkipsAt bytes count
    go h (yes end) = let lt = end.0 in (h.at + 1, record { within = omega arith; skips = skips_line bytes h.at lt (blanks_each Outside (take h.at bytes) h.mode h.leads) end.1 })
    go h (no f) = (0, record { within = omega arith; skips = skips_none bytes h.at (blanks_each Outside (take h.at bytes) h.mode h.leads) h.here (λ lt feed. f (lt, feed)) h.within })

-- ---- where a block ends

dec_ending_line : (line : List ℕ) → Dec (IsEndingLine line)
dec_ending_line line = go (List-discrete ℕ_discrete line (codes "\\.")) (List-discrete ℕ_discrete line (codes "\\.\r"))
  where
    go : Dec (line ≡ codes "\\.") → Dec (line ≡ codes "\\.\r") → Dec (IsEndingLine line)
    go (yes e) other = yes (inl e)
    go (no f) (yes e) = yes (inr e)
    go (no f) (no g) = no (λ h. elim h [ inl e ↦ f e | inr e ↦ g e ])

lines_on : (bytes : List ℕ) (left line i : ℕ) → i + left ≡ length bytes → LinesSoFar bytes line i → (lines : Lines) × StandAt bytes lines
lines_on bytes zero line i e h = (record { line = line; seen = i }, record { so_far = h; feed = λ lt. absurd (omega (arith, e, lt)); ends = λ lt. absurd (omega (arith, e, lt)) })
lines_on bytes (suc left) line i e h = go (λ l k. lines_on bytes left l (i + 1) (omega (arith, e)) k) (ℕ_discrete (get_or bytes i 0) 10) (dec_ending_line (slice_range bytes line i))
  where
    go : ((l : ℕ) → LinesSoFar bytes l (i + 1) → (lines : Lines) × StandAt bytes lines) → Dec (get_or bytes i 0 ≡ 10) → Dec (IsEndingLine (slice_range bytes line i)) → (lines : Lines) × StandAt bytes lines
    go more (no f) ending = more line (lines_more bytes line i h (omega (arith, e)) f)
    go more (yes feed) (no f) = more (i + 1) (line_more bytes line i h (omega (arith, e)) feed f)
    go more (yes feed) (yes ends) = (record { line = line; seen = i }, record { so_far = h; feed = λ lt. feed; ends = λ lt. ends })

block_ends : (ended : Bool) (bytes : List ℕ) → HasNoBlock ended bytes ⊎ ((end : BlockEnd) × BlockEndsAt ended bytes end)
block_ends ended bytes = let h = lines_on bytes (length bytes) 0 0 (omega arith) (lines_start bytes) in go h.0 h.1 (cases_lt h.0.seen (length bytes))
  where
    last : (line : ℕ) → LinesSoFar bytes line (length bytes) → Dec ((ended ≡ true) × IsEndingLine (slice_range bytes line (length bytes))) → HasNoBlock ended bytes ⊎ ((end : BlockEnd) × BlockEndsAt ended bytes end)
    last line h (yes k) = let order = h.order in inr (record { at = line; rest = length bytes }, record { order = omega arith; within = omega arith; block = rw k.0 (block_at_end bytes line h k.1) })
    last line h (no f) = inl (no_block ended bytes line h (λ e ends. f (e, ends)))

    go : (lines : Lines) → StandAt bytes lines → (lines.seen < length bytes) ⊎ (length bytes ≤ lines.seen) → HasNoBlock ended bytes ⊎ ((end : BlockEnd) × BlockEndsAt ended bytes end)
    go lines h (inl lt) =
        let order = h.so_far.order in
        inr (record { at = lines.line; rest = lines.seen + 1 }, record { order = omega arith; within = omega arith; block = block_found ended bytes lines.line lines.seen h.so_far lt (h.feed lt) (h.ends lt) })
    go lines h (inr ge) =
        let within = h.so_far.within in
        last lines.line (subst (λ z. LinesSoFar bytes lines.line z) (omega arith) h.so_far) (dec_both (Bool-discrete ended true) (dec_ending_line (slice_range bytes lines.line (length bytes))))

-- ---- what stands first

module _ (ended : Bool) (bytes : List ℕ) where
  abbrev HasFirst : Type 0
  HasFirst = (cut : Cut) × IsCut ended bytes cut

  copied : (from to : ℕ) → BeginsAt bytes from → Headed bytes from to → IsCopy (slice_range bytes from to) → HasFirst
  copied from to begins head copy = let skips = skipped (drop (to + 1) bytes) in let body = (to + 1) + skips.0 in elim (block_ends ended (drop body bytes)) [
    | inl none ↦ (cuts.Part, cut_no_block ended bytes from to skips.0 begins head copy skips.1 none)
    | inr end ↦ (
      cuts.Statement (record { from = from; to = to }) (Some (record { from = body; to = body + end.0.at })) (body + end.0.rest),
      cut_block ended bytes from to skips.0 end.0 head copy skips.1 end.1,
    )
  ]

  headed : (from to : ℕ) → BeginsAt bytes from → Headed bytes from to → Dec (IsCopy (slice_range bytes from to)) → HasFirst
  headed from to begins head (yes copy) = copied from to begins head copy
  headed from to begins head (no plain) = (cuts.Statement (record { from = from; to = to }) None (to + 1), cut_plain ended bytes from to head plain)

  pub first_cut : HasFirst
  first_cut = elim (begun bytes) [
    | inl space ↦ (cuts.Blank, space)
    | inr start ↦ elim (over (drop start.0 bytes)) [
      | inl none ↦ (cuts.Part, cut_unended ended bytes start.0 start.1 none)
      | inr end ↦ headed start.0 (start.0 + end.0) start.1 (head_of bytes start.0 end.0 start.1 end.1) (dec_copy (slice_range bytes start.0 (start.0 + end.0)))
    ]
  ]
