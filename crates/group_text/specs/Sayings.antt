-- What is read of a line.
use Rattle.std.specs.Prelude.{◌≡◌, Err}
use Rattle.cnf_form.specs.Lines.{line_of, tokens}
use Rattle.group_text.specs.declared.fault.Fault.TheVariants.{LongLine}
use Rattle.group_text.specs.declared.reading.Saying.{Saying}
use Rattle.group_text.specs.declared.reading.Saying.TheVariants as read
use Rattle.group_text.specs.Saying.{Said}
use Rattle.group_text.specs.Saying.Said.{Skipped, Begins, Lists, Ends, Faulty}
use Rattle.group_text.specs.Sizes.{sizes_of}

-- what is read is what the line says
abbrev pub Says : Said → Saying → Type 0
Says s read.Skipped = s ≡ Skipped
Says s (read.Begins rest) = s ≡ Begins (sizes_of (tokens (line_of rest.now)))
Says s read.BeginsLong = s ≡ Begins (Err LongLine)
Says s (read.List rest) = s ≡ Lists (tokens (line_of rest.now))
Says s read.Ends = s ≡ Ends
Says s (read.Faulty fault) = s ≡ Faulty fault
