pub mod Paths
pub mod Chains
pub mod Walks
pub mod Growth
pub mod Marks
pub mod Props
pub mod Parts
pub mod Queries
