-- What a turn with the marker beside the counts promises.
pub mod Away
pub mod Turned
