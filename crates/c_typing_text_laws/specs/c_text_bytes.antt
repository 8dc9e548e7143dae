pub use Rattle.mem_model.specs.Bytes
