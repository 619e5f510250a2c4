-- Laws of the tests on numbers.
pub mod Laws
