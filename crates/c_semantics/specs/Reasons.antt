-- The eleven points at which a run is undefined (C99 3.4.3). Each place of the meaning where a run may be undefined
-- names its point.
use Rattle.mem_model.specs.declared.value.MemFault.{MemFault}
use Rattle.mem_model.specs.declared.value.MemFault.TheVariants as f

pub data Reason : Type 0 where
  -- 1: a cell, or a local, that was never written is read
  ReadsUnwritten : Reason
  -- 2: an access outside its object, through null or what is no pointer, or at an offset that is not aligned
  AccessesOutside : Reason
  -- 3: a pointer is moved outside 0 to the size of its object, or null is moved
  MovesOutside : Reason
  -- 4: an access through a pointer whose object has ended, or one that is moved, compared, tested or subtracted
  UsesDeadObject : Reason
  -- 5: `<`, `>`, `<=`, `>=` or `-` on pointers of different objects or on null, or a distance of no whole elements
  ComparesApart : Reason
  -- 6: `==` or `!=` on pointers of different objects of which one stands at its object's end
  ComparesAtEnd : Reason
  -- 7: a count of a shift outside 0 to the width less 1
  ShiftsTooFar : Reason
  -- 8: the object of a text literal is written
  WritesLiteral : Reason
  -- 9: the value of a function that ended without one is used
  UsesNoValue : Reason
  -- 10: a stored pointer, or a part of one, is read as a number, or a pointer is read where none stands whole
  ReadsPointerPart : Reason
  -- 11: the two places of a struct assignment overlap and are not the same
  OverlapsItself : Reason

-- the point of a fault of memory
abbrev pub reason_of : MemFault → Reason
reason_of f.NoObject = UsesDeadObject
reason_of f.Outside = AccessesOutside
reason_of f.Misaligned = AccessesOutside
reason_of f.ReadOnly = WritesLiteral
reason_of f.Never = ReadsUnwritten
reason_of f.PartPointer = ReadsPointerPart
