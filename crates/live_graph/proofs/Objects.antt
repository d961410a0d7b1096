-- What the proofs of a graph use of rows by rising id.
pub use Rattle.object_shards.proofs.Ids.{objects_rise_put, objects_rise_filter, objects_rise_rewritten}
