-- What only proofs and contracts of private functions speak of.
pub mod Apart
pub mod Blanks
pub mod Blocks
pub mod Crossings
pub mod FilledFrames
pub mod Looks
pub mod Pages
pub mod Pens
pub mod Plain
pub mod Sheets
pub mod Sinks
pub mod Tiles
