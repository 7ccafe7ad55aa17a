pub mod BitmapFaults
pub mod Bitmaps
pub mod Places
mod RangeLoops
mod RunLoops
pub mod Unpackings
pub mod EncodedBits
pub mod EncodedForms
pub mod Lengths
mod MadeBitmaps
pub mod MarkedItems
pub mod MarkedWords
pub mod WrittenBitmaps
pub mod WrittenForms
