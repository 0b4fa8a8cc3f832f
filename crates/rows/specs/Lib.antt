pub mod Rules
pub mod Slots
pub mod Opening
pub mod Starts
pub mod Holding
