mod Drawing
mod Fitting
mod Growing
mod Joining
mod Working
