-- Choosing: choices in order, and what a walk keeps. Decisions, Deciding, Each: what a group decides.
-- Bases, Rising: its formula. Picking: the choice of a model. Encoding: what the solver says of a group. Wider: a list left out. Groups: how one comes to be.
pub mod Choosing
pub mod Decisions
pub mod Deciding
pub mod Each
pub mod Bases
pub mod Rising
pub mod Picking
pub mod Encoding
pub mod Wider
pub mod Groups
