mod Drawing
mod Dying
mod EventLists
mod Growing
mod Making
mod Sounds
mod Starting
