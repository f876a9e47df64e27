pub mod Names
pub mod Order
pub mod Lines
pub mod Sets
pub mod Bits
