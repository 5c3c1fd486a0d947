mod Sides
mod Reversed
mod Known
