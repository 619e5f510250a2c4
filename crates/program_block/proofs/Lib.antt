pub mod BlockTurns
