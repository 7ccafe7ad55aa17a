pub mod Flags
pub mod ModeChange
pub mod Stat
pub mod StatMatch
