mod RotateLemmas
mod TakingLemmas
