-- Definitions about extensions that are preserved, and about the bytes that are written for them (gitformat-index,
-- "Extensions").
pub use Rattle.ext_encode.specs.Chosen
pub use Rattle.ext_encode.specs.Marked
pub use Rattle.ext_bitmap.specs.BitmapImage
pub use Rattle.ext_encode.specs.MonitorImage
pub use Rattle.ext_encode.specs.ResolveUndoImage
pub use Rattle.ext_encode.specs.SpellableCache
pub use Rattle.ext_encode.specs.UntrackedImage
pub use Rattle.index_model.specs.Keepable
pub use Rattle.index_model.specs.Kept
