pub mod Plan
pub mod Listing
pub mod Measures
pub mod Theorems
pub mod Faults
pub mod Tables
pub mod Adjacent
pub mod Counts
