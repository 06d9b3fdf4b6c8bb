-- The definitions that the contracts cite.
pub mod Visits
pub mod Departures
