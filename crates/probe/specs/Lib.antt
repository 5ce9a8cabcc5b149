pub mod Check
pub mod Demand
pub mod Exact
