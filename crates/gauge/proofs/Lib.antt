-- Laws for callers: `Locality` says which links a staple reads; `Lists` that a list and its field determine each other; `Fits` that a list which holds a field has the length of one; `TimeLine` which number a site has by its time and place.
-- The others serve the functions' proofs.
pub mod Fits
pub mod Around
pub mod Locality
pub mod RowProducts
pub mod TimeLine
pub mod Lists
