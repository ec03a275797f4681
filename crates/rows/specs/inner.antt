-- Lists of rows in a lent area, and how they are made one of another: what the functions of this crate ask and leave.
pub mod Layout
pub mod Rules
pub mod Area
