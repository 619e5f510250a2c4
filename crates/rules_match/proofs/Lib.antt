-- Laws that the functions cite, and the law that good tables give what they ask.
pub mod Lists
pub mod Ways
pub mod There
