pub mod ReplayedFiles
