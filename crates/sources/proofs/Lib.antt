mod Turns
mod Splits
mod Beginning
mod Heads
