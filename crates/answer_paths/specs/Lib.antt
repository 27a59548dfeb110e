pub mod LookedPaths
