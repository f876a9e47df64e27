pub mod CursorLemmas
pub mod FollowLemmas
pub mod FollowedLemmas
pub mod MatchLemmas
pub mod ShapeLemmas
pub mod StartLemmas
