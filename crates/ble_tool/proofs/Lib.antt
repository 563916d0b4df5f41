-- The lemmas of this crate.
mod CountedLinks
mod CountedOctets
mod Lawful
mod NoneUnseen
