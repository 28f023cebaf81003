pub mod Exchanging
pub mod Parting
pub mod Handing
pub mod Judging
pub mod Meetings
pub mod Telling
pub mod Missing
pub mod Assembling
