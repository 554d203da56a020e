-- What the crates above name of the operations' values. The table and its laws stand in the crate meanings.
unfoldable pub use Rattle.meanings.specs.Value.{value, carry, address, loaded, stored}
