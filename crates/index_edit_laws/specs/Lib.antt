pub mod Faultless
pub mod SoundIndex
