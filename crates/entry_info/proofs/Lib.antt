mod Lines
mod Unquoting
