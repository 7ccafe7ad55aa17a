pub mod FsMonitor
pub mod ModeDigits
pub mod MonitorSteps
pub mod OffsetTable
pub mod ResolveUndo
pub mod ResolveUndoSteps
pub mod Marks
