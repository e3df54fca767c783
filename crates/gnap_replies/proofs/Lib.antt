mod Printing
mod TokenArrays
mod Examples
