pub mod Cofactors
