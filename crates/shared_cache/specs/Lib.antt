pub mod Cache
pub mod Shared
pub mod Shown
pub mod Opening
pub mod Hands
pub mod Closing
pub mod Closed
pub mod Callers
