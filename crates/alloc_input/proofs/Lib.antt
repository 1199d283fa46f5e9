mod AfterRecords
mod CellFacts
mod Choices
mod DeclaredSets
mod EntryFacts
mod FilledRecords
mod GrowFacts
mod KnownNames
pub mod KnownSides
mod LawfulLists
mod LawfulMatrices
mod MarkFacts
mod MatrixRecords
pub mod MatrixSuits
mod Members
mod NamePlaces
mod NumberFacts
pub mod Once
mod OnceEach
pub mod OneMatrix
mod ProblemParts
pub mod ProblemSuits
mod Ranges
mod Reading
mod Rectangles
mod RisingCells
mod SaidChecks
mod SaidDemands
mod SaidFields
mod SaidLabels
mod SaidLookups
mod SaidMatrices
mod SaidPlaces
mod SaidPreferences
mod SaidQuotas
mod SaidSets
mod SaidWords
mod Stamps
mod StatedChecks
mod StatedSets
mod Steps
mod Stops
mod Suits
