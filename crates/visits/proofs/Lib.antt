mod Ends
mod Looking
mod Measuring
mod Slots
mod Steps
mod Told
