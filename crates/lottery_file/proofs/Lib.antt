pub mod Buffering
mod CheckFacts
mod FieldFacts
mod FieldTexts
mod FilledRows
mod GivesBack
mod HeadPass
mod KindsPass
mod PartsWritten
mod Passing
mod PieceFacts
mod PiecesPass
mod PlacesPass
pub mod ReadOnce
mod RecordFacts
mod RecordsLeft
pub mod RoundTrip
mod SaidFacts
mod SaidLawful
mod SaidLists
mod SaidOnce
mod SaidPieces
mod SaidWords
pub mod Shapes
pub mod Solved
pub mod Sound
mod SoundChecks
mod SoundKinds
mod SoundNames
mod SoundPieces
mod SoundPlaces
mod SoundRows
mod SoundWords
pub mod WrittenRows
