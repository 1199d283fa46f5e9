pub mod Added
mod Assigned
pub mod Canonical
mod Certified
pub mod Gains
pub mod GiveOrder
pub mod GivenSets
pub mod MatrixPass
pub mod PieceCounts
pub mod PiecePass
pub mod PricePass
pub mod Quiet
pub mod RowPrices
pub mod RowTotals
pub mod SetLists
pub mod ShapePass
pub mod ShapeReads
pub mod SumBounds
pub mod TableTotals
pub mod WholeCells
