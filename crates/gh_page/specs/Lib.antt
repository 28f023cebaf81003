pub mod Replies
pub mod Modes
pub mod Answering
pub mod Fronts
pub mod Listings
pub mod Telling
