mod LastLemmas
mod WinnerLemmas
mod Examples
