pub mod Scripts
pub mod Followed
pub mod Faults
pub mod MadeDrills
