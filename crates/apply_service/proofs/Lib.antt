mod Completeness
mod Counts
mod Ends
mod Folders
mod Sampled
mod Saying
mod Stops
