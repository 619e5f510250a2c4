-- What a text says is spelled right, and is what is read off it.
pub mod Spelled
pub mod Somehow
pub mod Items
pub mod Lines
pub mod Said
