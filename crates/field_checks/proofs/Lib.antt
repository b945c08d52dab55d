pub mod Laws
pub mod Listed
