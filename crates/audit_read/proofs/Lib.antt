mod Cutting
mod Ends
mod Fronts
mod Lists
mod Planning
mod Steps
mod Texts
mod Walk
