pub mod CutMachines
pub mod Machines
pub mod Forgets
pub mod Lives
pub mod Lived
pub mod Numbers
pub mod Resumed
