pub mod PlainBodies
