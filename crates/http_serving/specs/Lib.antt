pub mod EdgeWire
