-- Lemmas of replies.
pub mod Replies
