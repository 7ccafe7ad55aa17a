mod Begins
mod Configs
mod Faults
mod Formats
mod Gits
mod Trailers
