-- What a store of a row's objects has. This definition belongs to the rows alone.
pub mod Store
