mod Reasons
mod Responding
