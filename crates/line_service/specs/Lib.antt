pub mod FileLaws
pub mod Files
pub mod Laws
pub mod Served
pub mod Services
