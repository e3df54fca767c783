mod Reading
mod PlainBodies
