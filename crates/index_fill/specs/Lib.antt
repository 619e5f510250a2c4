-- What the filling of the index starts from and leaves.
pub mod Filling
