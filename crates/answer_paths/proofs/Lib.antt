pub mod LookedEffects
pub mod LookedRuns
pub mod TextAnswers
