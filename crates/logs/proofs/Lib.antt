mod Ranges
mod Canon
mod Walks
pub mod Missing
mod Afresh
mod Following
mod Verdicts
mod Back
mod Decided
mod Chained
mod Opened
mod Written
mod Again
