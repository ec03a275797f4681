-- How read_text goes about it: bytes to parts, and parts to a statement, from the last to the first.
pub mod Machine
pub mod Lexer
