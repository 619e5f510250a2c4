pub mod TakesClause
