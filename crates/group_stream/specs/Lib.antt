-- Cuts: bytes as lines. Judges: what is written of an input. Streams: each ending of a stream. Steps: what the parts of the loop do.
pub mod Cuts
pub mod Judges
pub mod Streams
pub mod Steps
pub mod Ends
