pub mod States
pub mod Lines
pub mod Conditions
pub mod NextGroups
pub mod Pragmas
pub mod Actions
