pub mod TramLists
pub mod EntryPlaces
pub mod QueueFront
