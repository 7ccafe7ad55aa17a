pub mod BitmapSteps
pub mod Blocks
pub mod CacheBitmaps
pub mod CacheSteps
pub mod CachedStat
pub mod Untracked
pub mod UntrackedEdits
