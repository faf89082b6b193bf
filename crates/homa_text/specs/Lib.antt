pub mod FrequentLines
