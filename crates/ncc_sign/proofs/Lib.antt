-- An input is cut in a key, a limit and a message.
pub mod Cut
