-- How a stream ends.
use Rattle.std.specs.Prelude.{Bool, true, false, Result, Ok, Err}
use Rattle.group_stream.specs.declared.ending.Stop.{Stop}
use Rattle.group_stream.specs.declared.ending.Stop.TheVariants as stops
use Rattle.group_stream.specs.declared.ending.StreamEnd.{StreamEnd}
use Rattle.group_stream.specs.declared.ending.StreamEnd.TheVariants as ends

-- where the answers stop
abbrev pub end_of : Stop → StreamEnd
end_of stops.WriteFault = ends.WriteFault
end_of stops.OutOfMemory = ends.OutOfMemory

-- where the last answers ended so
abbrev pub end_with : Result Bool Stop → StreamEnd
end_with (Ok true) = ends.WithRefusal
end_with (Ok false) = ends.Answered
end_with (Err stop) = end_of stop
