pub mod Counts
pub mod Depths
pub mod Distances
mod Equality
pub mod Laid
pub mod Laying
pub mod Measured
pub mod Truth
pub mod Turning
