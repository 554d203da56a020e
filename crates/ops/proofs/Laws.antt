-- What the crates above know of the operations' values: they cite these laws and never the definitions' text.
pub use Rattle.meanings.proofs.Bounds.{value_below, value_bit, carry_bit, address_below, loaded_below, stored_below}
