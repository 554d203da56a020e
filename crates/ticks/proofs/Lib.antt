-- Laws of the registers in the run's loop.
pub mod Views
pub mod Results
pub mod Latest
pub mod Busy
pub mod Cells
