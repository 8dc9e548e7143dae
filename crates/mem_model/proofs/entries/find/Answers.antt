use Rattle.std.proofs.Common.{rules}
use Rattle.std.specs.Prelude.{ltb}
use Rattle.std.proofs.lemmas.List.Sorted.{IsPartitionedBy-ltb, IsPartitionPoint-from_clause}
use Rattle.mem_model.specs.declared.entries.Entry.{Entry}
use Rattle.mem_model.proofs.EntryLists.{no_number_falls, place-searched}
use Rattle.mem_model.proofs.entries.find.Goals as goal

pub returns-clause-absent : goal.returns-clause-absent
returns-clause-absent c =
    place-searched c.args.made c.args.entries.now c.partition_point-at.result c.args.number c.requires
    (IsPartitionPoint-from_clause (λ (e : Entry). ltb e.number c.args.number) c.args.entries.now c.partition_point-at.result c.partition_point-at.ensures.partitioned
    (IsPartitionedBy-ltb (λ (e : Entry). e.number) c.args.entries.now c.args.number (no_number_falls 0 c.args.made c.args.entries.now c.requires)) (λ a r f k. search rules))
    (search rules)
