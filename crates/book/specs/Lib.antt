pub mod Lists
pub mod Book
