pub mod Flights
pub mod Linked
pub mod Marked
pub mod Ends
