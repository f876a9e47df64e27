pub mod Answers
pub mod Faults
pub mod Followed
pub mod Matches
pub mod Shape
pub mod Verdict
