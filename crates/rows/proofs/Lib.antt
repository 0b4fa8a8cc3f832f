pub mod Holding
pub mod Opened
