-- The tests of the load and of the tables decide the relations of specs/.
pub mod Tests
pub mod Fields
pub mod Names
pub mod Before
pub mod Walked
pub mod Exactly
pub mod Places
pub mod Kinship
pub mod RuledExactly
pub mod Computed
