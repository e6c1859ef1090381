pub mod ReadBack
pub mod Reading
