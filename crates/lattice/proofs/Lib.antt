pub mod ColdLinks
