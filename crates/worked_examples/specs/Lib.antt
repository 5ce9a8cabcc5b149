pub mod Examples
pub mod IsoEdge
