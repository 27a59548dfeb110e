mod MarkLemmas
mod TurnLemmas
mod StepsKept
mod SeatsKept
mod Opening
mod Closing
