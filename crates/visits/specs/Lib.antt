pub mod Going
pub mod Visited
pub mod Figured
pub mod Within
