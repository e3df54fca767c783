pub mod WebUrls
mod Published
