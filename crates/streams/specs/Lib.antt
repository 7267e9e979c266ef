-- a, s, y and the challenge from the streams of the hash.
pub mod Streams
