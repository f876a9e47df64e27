mod FileLemmas
mod LengthLemmas
mod LawLemmas
mod RecordLemmas
mod SavedLaws
mod SavedRuns
mod TextLemmas
