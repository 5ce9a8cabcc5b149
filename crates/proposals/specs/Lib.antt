pub mod Demand
pub mod Judgements
