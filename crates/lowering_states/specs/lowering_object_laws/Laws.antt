-- What is said of a local that is an object of the C meaning while its block lasts (C99 6.2.4). In the code it stands
-- in an object that lasts as long as the call, and of which nothing is asked when the block is entered anew.
use Rattle.std.specs.Prelude.{◌≡◌, ◌≤◌, ℕ, ◌+◌, true, List, length, slice_get, Some, None}
use Rattle.mem_model.specs.Memory.{Memory, begin_object, end_object}
use Rattle.mem_model.specs.Related.{Names, IsMemoryOf, with_name}
use Rattle.mem_objects.specs.declared.TheConstants.{MOST_DATA}
use Rattle.c_typed_tree.specs.declared.types.StructDef.{StructDef}
use Rattle.c_typed_tree.specs.declared.units.Local.{Local}
use Rattle.c_typed_tree.specs.View.{type_view}
use Rattle.c_typed_tree.specs.Layout.{size_of}
use Rattle.c_semantics.specs.Runs as c
use Rattle.c_semantics.specs.Objects.{Scope, bind_object}
use Rattle.suifvm_meaning.specs.Behave.{Registers}
use Rattle.lowering_code.specs.Registers.{object_index}
use Rattle.lowering_states.specs.States.{Fits, After}

-- a local that is an object no larger than the data may be, and that no scope around has
pub record MayBegin (ds : List StructDef) (ls : List Local) (scope : Scope) (k : ℕ) (x : Local) : Type 0 where
  pub found : slice_get ls k ≡ Some x
  pub inside : x.in_memory ≡ true
  pub none : scope k ≡ None
  pub small : size_of ds (type_view x.ty) ≤ MOST_DATA

-- the object of a local began, and stands as the object of the call that is its own
pub record LocalBegins (globals : ℕ) (ds : List StructDef) (ls : List Local) (own : ℕ) (f : Names) (scope : Scope)
    (r : Registers) (l : c.LocalRegisters) (m n : Memory) (input : List ℕ) (k : ℕ) (x : Local) : Type 0 where
  pub fits : Fits globals ds ls own (with_name f (length m) (own + object_index ls k))
      (bind_object scope k (length m)) r l
      (begin_object m (size_of ds (type_view x.ty)) true) n input

abbrev pub ObjectsBegin : Type 0
ObjectsBegin =
    (globals : ℕ) (ds : List StructDef) (ls : List Local) (own : ℕ) (f : Names) (scope : Scope) (r : Registers)
    (l : c.LocalRegisters) (m n : Memory) (input : List ℕ) (k : ℕ) (x : Local) → MayBegin ds ls scope k x →
    Fits globals ds ls own f scope r l m n input → LocalBegins globals ds ls own f scope r l m n input k x

-- the object of a local ends
abbrev pub ObjectsEnd : Type 0
ObjectsEnd =
    (globals : ℕ) (ds : List StructDef) (ls : List Local) (own : ℕ) (f : Names) (scope : Scope) (r : Registers)
    (l : c.LocalRegisters) (m n : Memory) (input : List ℕ) (k object : ℕ) → scope k ≡ None →
    Fits globals ds ls own f (bind_object scope k object) r l m n input →
    Fits globals ds ls own f scope r l (end_object m object) n input

-- what a part of a run leaves in between is, with the beginning and the end, what the whole leaves
abbrev pub ScopesAreParts : Type 0
ScopesAreParts =
    (f g : Names) (m n m1 n1 : Memory) (name size turns turns1 : ℕ) → IsMemoryOf f m n →
    After (with_name f (length m) name) (begin_object m size true) n turns g m1 n1 turns1 →
    After f m n turns g (end_object m1 (length m)) n1 turns1

pub record ObjectsBeginAndEnd : Type 0 where
  pub begin : ObjectsBegin
  pub end : ObjectsEnd
  pub parts : ScopesAreParts
