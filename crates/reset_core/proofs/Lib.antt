mod Masks
mod Sums
mod Going
mod Sounds
mod Writing
