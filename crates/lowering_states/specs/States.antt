-- How the registers and the memory of a run of code correspond to those of the C meaning.
use Rattle.std.specs.Prelude.{◌≡◌, ℕ, ◌+◌, ◌*◌, ◌<◌, ◌≤◌, Bool, true, false, List, length, slice_get, All, Option, Some, None}
use Rattle.mem_model.specs.declared.value.Value.{Value}
use Rattle.mem_model.specs.declared.value.Value.TheVariants.{Word, Address, Unset}
use Rattle.mem_model.specs.Memory.{Memory, object_at}
use Rattle.mem_model.specs.Related.{Names, IsValueOf, IsMemoryOf, IsLocal}
use Rattle.mem_model.specs.RelatedLaws.{MoreNames}
use Rattle.mem_objects.specs.declared.TheConstants.{MOST_DATA}
use Rattle.bk_arithmetic.specs.Words.{is_word}
use Rattle.c_typed_tree.specs.declared.types.StructDef.{StructDef}
use Rattle.c_typed_tree.specs.declared.units.Local.{Local}
use Rattle.c_typed_tree.specs.Types.{PlainType, Void, Int, Pointer, Array, Struct}
use Rattle.c_typed_tree.specs.View.{type_view}
use Rattle.c_typed_tree.specs.Layout.{size_of}
use Rattle.c_semantics.specs.Runs as c
use Rattle.c_semantics.specs.Objects.{Scope, integer_or_word}
use Rattle.suifvm_meaning.specs.Behave.{Registers}
use Rattle.lowering_code.specs.Registers.{object_index}

-- ---- values

-- a value as its type holds it: an integer is a word of its type, and a pointer null or an address
abbrev pub IsHeld : PlainType → Value → Type 0
IsHeld ty Unset = Unit {0}
IsHeld Void v = Unit {0}
IsHeld (Int bytes signed) (Word n) = is_word (integer_or_word (Int bytes signed)) n ≡ true
IsHeld (Int bytes signed) (Address p) = ⊥
IsHeld (Pointer target) (Word n) = n ≡ 0
IsHeld (Pointer target) (Address p) = Unit {0}
IsHeld (Array element n) v = Unit {0}
IsHeld (Struct n) v = Unit {0}

-- what stands in a register for a value of a type; nothing where the type is void
abbrev pub IsInRegister : Names → PlainType → Value → Value → Type 0
IsInRegister f Void v w = Unit {0}
IsInRegister f (Int bytes signed) v w = IsValueOf f v w
IsInRegister f (Pointer target) v w = IsValueOf f v w
IsInRegister f (Array element n) v w = IsValueOf f v w
IsInRegister f (Struct n) v w = IsValueOf f v w

-- ---- calls

abbrev pub is_live : Memory → ℕ → Bool
is_live m o = (object_at m o).live

abbrev pub size_in : Memory → ℕ → ℕ
size_in m o = length (object_at m o).cells

-- what a local holds
abbrev pub type_at : Option Local → PlainType
type_at None = Void
type_at (Some l) = type_view l.ty

-- The code stands beside the C meaning within a call: of a unit with so many objects of static storage, of a function
-- with these locals, whose first object has the number own. names says which object of the code stands for one of the
-- C meaning.
pub record Fits (globals : ℕ) (ds : List StructDef) (ls : List Local) (own : ℕ) (f : Names) (scope : Scope)
    (r : Registers) (l : c.LocalRegisters) (m n : Memory) (input : List ℕ) : Type 0 where
  pub locals : (k : ℕ) → k < length ls → IsValueOf f (l k) (r k)
  pub held : (k : ℕ) → IsHeld (type_at (slice_get ls k)) (l k)
  pub statics : (k : ℕ) → k < globals → f k ≡ Some k
  pub memory : IsMemoryOf f m n
  -- no object is larger than the data may be
  pub small : (o : ℕ) → is_live m o ≡ true → size_in m o ≤ MOST_DATA
  pub scopes : (k o : ℕ) → scope k ≡ Some o → f o ≡ Some (own + object_index ls k)
  pub stands : (k : ℕ) (x : Local) → slice_get ls k ≡ Some x → x.in_memory ≡ true
      → IsLocal n (own + object_index ls k) (size_of ds (type_view x.ty))
  -- a live object with such a name is the one in scope
  pub owned : (k o : ℕ) (x : Local) → slice_get ls k ≡ Some x → x.in_memory ≡ true → is_live m o ≡ true
      → f o ≡ Some (own + object_index ls k) → scope k ≡ Some o
  pub bytes : All (λ b. b < 256) input

-- the registers from the first one of expressions to those of a depth are as before
pub record KeepsLower (locals depth : ℕ) (r q : Registers) : Type 0 where
  pub same : (k : ℕ) → locals ≤ k → k < locals + 5 * depth → q k ≡ r k

-- how a part of a run leaves names, memories and turns: it ends the objects that it began
pub record After (f : Names) (m n : Memory) (turns : ℕ) (g : Names) (m1 n1 : Memory) (turns1 : ℕ) : Type 0 where
  pub names : MoreNames f g
  pub lives : (o : ℕ) → is_live m1 o ≡ is_live m o
  pub sizes : (o : ℕ) → is_live m o ≡ true → size_in m1 o ≡ size_in m o
  pub locals : (q size : ℕ) → IsLocal n q size → IsLocal n1 q size
  pub turned : turns1 ≤ turns
