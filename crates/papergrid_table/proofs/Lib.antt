mod ChosenLemmas
mod DocumentLemmas
mod ValueLemmas
mod WordLemmas
mod WitnessLemmas
