mod Verdicts
mod Slices
