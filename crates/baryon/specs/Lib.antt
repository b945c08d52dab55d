-- `Situations` has when a call is refused, `Calls` what each call answers and stores.
pub mod Situations
pub mod Calls
