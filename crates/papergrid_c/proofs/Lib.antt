mod CallLemmas
mod Handles
mod Values
mod FrontLemmas
