pub mod CoreView
pub mod Events
pub mod Seats
pub mod Inside
pub mod Ends
pub mod Running
pub mod Claims
pub mod CoreSteps
