-- Runs and results of 01 and 02: a run that meets the premises of demand 3, the listing, the known results, the cluster of one.
pub mod Rows
pub mod Applies
pub mod FirstView
pub mod Calls
pub mod Proposal
pub mod Certificate
pub mod Votes
pub mod Entries
pub mod Premises
pub mod Listing
pub mod Known
pub mod ClusterOfOne
