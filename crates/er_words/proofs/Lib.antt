mod Examples
mod Refusals
mod Walks
mod WordLemmas
mod Numbers
mod Seeds
mod Taking
mod ValueExamples
