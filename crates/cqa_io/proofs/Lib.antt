mod Counts
mod Pieces
mod Progress
