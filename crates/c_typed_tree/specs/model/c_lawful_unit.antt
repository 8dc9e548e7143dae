pub mod Propositions
