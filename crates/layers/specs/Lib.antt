pub mod Layers
pub mod Thinned
