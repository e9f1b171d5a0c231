-- Told: lists told by numbers decide as the lists do. Judged: so do the witnesses of a row.
mod Told
mod Judged
