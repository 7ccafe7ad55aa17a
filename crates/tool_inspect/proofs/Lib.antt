mod Divisions
mod Mappings
mod Readings
mod SharedIndex
