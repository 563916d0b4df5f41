-- The definitions of this crate.
pub mod Count
pub mod Known
pub mod Growth
pub mod SystemFault
pub mod Calls
pub mod FileStore
pub mod SinkStore
