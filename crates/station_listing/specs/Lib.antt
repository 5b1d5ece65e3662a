pub mod ImageListing
