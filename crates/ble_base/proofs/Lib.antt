-- Lemmas on the channels that a map uses.
pub mod UsedChannels
