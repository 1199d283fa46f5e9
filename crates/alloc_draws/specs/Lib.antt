pub mod Draw
pub mod PactCommit
pub mod PactDraw
pub mod Pick
pub mod Picked
pub mod Report
