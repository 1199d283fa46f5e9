pub mod Candidates
mod DigitsLemmas
mod Finds
mod TicketPlaces
