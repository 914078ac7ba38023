pub mod Examples
pub mod SelfPointing
pub mod Faults
pub mod StillRun
pub mod PromisesRun
pub mod LiveRun
pub mod RoomRuns
pub mod StoredRun
