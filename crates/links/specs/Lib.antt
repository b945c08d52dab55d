pub mod Store
pub mod Field
pub mod Lent
