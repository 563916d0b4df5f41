-- The definitions of this crate.
pub mod ProcedureLines
pub mod EachLine
