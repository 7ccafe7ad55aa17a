-- Compressed bitmaps, for the clauses of callers.
pub use Rattle.ext_bitmap.specs.Ascending
pub use Rattle.ext_bitmap.specs.Bitmap
pub use Rattle.ext_bitmap.specs.Bits
pub use Rattle.ext_bitmap.specs.UnpackingSteps
pub use Rattle.ext_bitmap.specs.declared.ewah.Vec as BitmapType
pub use Rattle.ext_bitmap.specs.declared.ewah.iter.Malformed as BitmapMalformed
pub use Rattle.ext_bitmap.specs.declared.ewah.iter.Run as BitmapRun
pub use Rattle.ext_bitmap.specs.declared.ewah.iter.Positions
pub use Rattle.ext_bitmap.specs.declared.ewah.reading.Error as BitmapError
