mod Absorbing
mod Compressing
mod Functions
mod Functions256
mod Lanes
mod Lanes256
mod Steps
mod Steps256
