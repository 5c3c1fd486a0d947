mod Stacked
mod Assigning
mod Filling
mod Starting
mod Calling
mod Defining
