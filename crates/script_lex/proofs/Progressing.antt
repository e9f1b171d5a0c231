-- What is known after a look at the bytes of a script, and where more bytes come.
use Rattle.std.proofs.Common.{◌≡◌, ◌-◌, ◌≤◌, ℕ, List, ◌++◌, length, take, drop, sym, ◌∙◌, ap, subst, arith, length-append, length-drop}
use Rattle.std.proofs.lemmas.List.{take-append-le, drop-append-le}
use Rattle.script_lex.specs.declared.bytes.Class.TheVariants.{LineBlank}
use Rattle.script_lex.specs.declared.modes.Region.{Region}
use Rattle.script_lex.specs.declared.modes.Region.TheVariants as regions
use Rattle.script_lex.specs.declared.modes.Stop.{Stop}
use Rattle.script_lex.specs.declared.modes.Mode.TheVariants.{Outside}
use Rattle.script_lex.specs.declared.scan.Known.{Known}
use Rattle.script_lex.specs.declared.scan.Reached.{Reached}
use Rattle.script_lex.specs.declared.scan.Blanks.{Blanks}
use Rattle.script_lex.specs.declared.scan.Block.{Block}
use Rattle.script_lex.specs.Bytes.{Runs, AllPass, is_not_line_feed}
use Rattle.script_lex.specs.Scripts.{Leads}
use Rattle.script_lex.specs.ScriptParts.{passes_in, Reaches, Stands, LinesSoFar, StandAt}
use Rattle.script_lex.specs.Progress.{KnowsText, KnowsBlanks, KnowsLines, Holds}

pub reached : {region : Region} {bytes : List ℕ} {stop : Stop} → Stands region bytes stop → Reaches region bytes stop
reached h = record { within = h.within; leads = h.leads }

pub knows_text : (bytes : List ℕ) (from : ℕ) (known : Reached) → known.from ≡ from → from ≤ length bytes → Stands regions.Statement (drop from bytes) known.stop → KnowsText bytes known
knows_text bytes from known e le h = record { within = rw e le; reaches = rw e (reached h) }

pub knows_blanks : (bytes : List ℕ) (from : ℕ) (known : Blanks) → known.from ≡ from → from ≤ length bytes → Runs LineBlank (drop from bytes) known.count → KnowsBlanks bytes known
knows_blanks bytes from known e le h = record { within = rw e le; few = rw e h.within; each = rw e h.each }

pub knows_lines : (bytes : List ℕ) (from : ℕ) (known : Block) → known.from ≡ from → from ≤ length bytes → StandAt (drop from bytes) known.lines → KnowsLines bytes known
knows_lines bytes from known e le h = record { within = rw e le; so_far = rw e h.so_far }

front_same : (bytes more : List ℕ) (from n : ℕ) → from ≤ length bytes → n ≤ length (drop from bytes) → take n (drop from (bytes ++ more)) ≡ take n (drop from bytes)
front_same bytes more from n le few = ap (λ z. take n z) (drop-append-le from bytes more le) ∙ take-append-le n (drop from bytes) more few

longer : (bytes more : List ℕ) → length bytes ≤ length (bytes ++ more)
longer bytes more = omega (arith, length-append bytes more)

longer_from : (bytes more : List ℕ) (from : ℕ) → from ≤ length bytes → length (drop from bytes) ≤ length (drop from (bytes ++ more))
longer_from bytes more from le = omega (arith, ap length (drop-append-le from bytes more le), length-append (drop from bytes) more)

Reaches-append : {region : Region} {bytes : List ℕ} {stop : Stop} (more : List ℕ) → Reaches region bytes stop → Reaches region (bytes ++ more) stop
Reaches-append {region = region} {bytes = bytes} {stop = stop} more h = record {
  within = omega (arith, h.within, longer bytes more);
  leads = subst (λ z. Leads (passes_in region) Outside z stop.mode) (sym (take-append-le stop.at bytes more h.within)) h.leads;
}

LinesSoFar-append : {bytes : List ℕ} {line i : ℕ} (more : List ℕ) → LinesSoFar bytes line i → LinesSoFar (bytes ++ more) line i
LinesSoFar-append {bytes = bytes} {line = line} {i = i} more h =
    let order = h.order in
    let within = h.within in
    record {
      order = order;
      within = omega (arith, longer bytes more);
      lines = h.lines;
      each = h.each;
      are = take-append-le line bytes more (omega arith) ∙ h.are;
      open_line = subst (AllPass is_not_line_feed) (sym (front_same bytes more line (i - line) (omega arith) (omega (arith, length-drop line bytes)))) h.open_line;
    }

-- what is known still holds where more bytes come
pub Holds-append : (bytes more : List ℕ) (known : Known) → Holds bytes known → Holds (bytes ++ more) known
Holds-append bytes more known h = record {
  gap = Reaches-append more h.gap;
  text = record {
    within = omega (arith, h.text.within, longer bytes more);
    reaches = rw (drop-append-le known.text.from bytes more h.text.within) (Reaches-append more h.text.reaches);
  };
  blanks = record {
    within = omega (arith, h.blanks.within, longer bytes more);
    few = omega (arith, h.blanks.few, longer_from bytes more known.blanks.from h.blanks.within);
    each = rw (front_same bytes more known.blanks.from known.blanks.count h.blanks.within h.blanks.few) h.blanks.each;
  };
  lines = record {
    within = omega (arith, h.lines.within, longer bytes more);
    so_far = rw (drop-append-le known.block.from bytes more h.lines.within) (LinesSoFar-append more h.lines.so_far);
  };
}
