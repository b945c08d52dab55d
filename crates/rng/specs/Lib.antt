-- `Splitmix` and `Xoshiro` are the two generators, as their authors give them; `Stream` keys and seeds the one by the other; `Uniform` makes a number of a word.
pub mod Splitmix
pub mod Xoshiro
pub mod Stream
pub mod Uniform
