-- The laws of contents and the words that stand for them.
use Rattle.std.specs.Prelude.{◌≡◌, ℕ, ◌+◌, ◌^◌, ◌<◌, ℤ, Bool, Some}
use Rattle.std.specs.Int.{w32}
use Rattle.alpha_isa.specs.Arithmetic.{word_at, word_from, sign_extension, operation_effect}
use Rattle.alpha_isa.specs.Step.{is_branch_taken}
use Rattle.mem_model.specs.declared.value.Ptr.{Ptr}
use Rattle.mem_model.specs.Memory.{Memory}
use Rattle.temp_ir.specs.declared.operation.LoadOp.{LoadOp}
use Rattle.temp_ir.specs.declared.operation.LoadOp.TheVariants.{Ldl}
use Rattle.temp_ir.specs.declared.operation.StoreOp.{StoreOp}
use Rattle.temp_ir.specs.declared.operation.TempBranchOp.{TempBranchOp}
use Rattle.temp_ir.specs.declared.operation.Operation.{Operation}
use Rattle.temp_ir.specs.declared.operation.ExtendOp.{ExtendOp}
use Rattle.temp_ir.specs.Operations.{branch_op, operate_op, extend_op}
use Rattle.alloc_model.specs.Contents.{Content, operate_answer, extend_answer, moved_content, loaded_content, stored_memory, load_width, store_width, branch_test}
use Rattle.frame_memory.specs.Bytes.{Bytes, bytes_from, put_bytes, low_bytes, number_from}
use Rattle.frame_memory.specs.Relation.{Extents, Owners, MemoryIs}
use Rattle.frame_memory.specs.Laws.{IsRangeAt, MoreExtents}
use Rattle.frame_memory.specs.flat_operations.Contents.{ContentIs, EffectIs}

-- an operation on two contents
abbrev pub OperationsCorrespond : Type 0
OperationsCorrespond =
    (xs : Extents) (memory : Memory) (owner : Owners) (m : Bytes) → MemoryIs xs memory owner m →
    (op : Operation) (a b : Content) (x y : ℕ) → x < 2 ^ 64 → y < 2 ^ 64 → ContentIs xs a x → ContentIs xs b y →
    EffectIs xs (operate_answer memory op a b) (operation_effect (operate_op op) x y)

-- a sign extension
abbrev pub ExtensionsCorrespond : Type 0
ExtensionsCorrespond =
    (xs : Extents) (op : ExtendOp) (c : Content) (x : ℕ) → ContentIs xs c x →
    EffectIs xs (extend_answer op c) (operation_effect (extend_op op) 0 x)

-- a content that is moved by so many bytes
abbrev pub FlatMovesCorrespond : Type 0
FlatMovesCorrespond =
    (xs : Extents) (memory : Memory) (owner : Owners) (m : Bytes) → MemoryIs xs memory owner m →
    (c d : Content) (x : ℕ) (by : ℤ) → ContentIs xs c x → moved_content memory c by ≡ Some d →
    ContentIs xs d (word_at (x + word_from by))

-- the test of a branch
abbrev pub FlatTestsCorrespond : Type 0
FlatTestsCorrespond =
    (xs : Extents) (memory : Memory) (owner : Owners) (m : Bytes) → MemoryIs xs memory owner m →
    (op : TempBranchOp) (c : Content) (x : ℕ) (b : Bool) → ContentIs xs c x → branch_test op memory c ≡ Some b →
    is_branch_taken (branch_op op) x ≡ b

-- more extents keep what stands for a content
abbrev pub ContentsStay : Type 0
ContentsStay = (xs ys : Extents) (c : Content) (w : ℕ) → MoreExtents xs ys → ContentIs xs c w → ContentIs ys c w

-- the word that a load makes of the number of its bytes
abbrev pub loaded_word : LoadOp → ℕ → ℕ
loaded_word Ldl n = sign_extension w32 n
loaded_word _ n = n

-- a load through the address of a pointer in an object
pub record IsLoadOf (xs : Extents) (owner : Owners) (m : Bytes) (op : LoadOp) (a : ℕ) (c : Content) : Type 0 where
  pub pointer : Ptr
  pub range : IsRangeAt owner pointer a (load_width op) (load_width op)
  pub content : ContentIs xs c (loaded_word op (number_from (bytes_from m a (load_width op))))

abbrev pub FlatLoadsCorrespond : Type 0
FlatLoadsCorrespond =
    (xs : Extents) (memory : Memory) (owner : Owners) (m : Bytes) → MemoryIs xs memory owner m →
    (op : LoadOp) (pointer c : Content) (x : ℕ) (plus : ℤ) → ContentIs xs pointer x →
    loaded_content memory op pointer plus ≡ Some c → IsLoadOf xs owner m op (word_at (x + word_from plus)) c

-- a store of the low bytes of a word
pub record IsStoreOf (xs : Extents) (new : Memory) (owner : Owners) (m : Bytes) (op : StoreOp) (a w : ℕ) : Type 0
  where
    pub pointer : Ptr
    pub range : IsRangeAt owner pointer a (store_width op) (store_width op)
    pub memory : MemoryIs xs new owner (put_bytes m a (low_bytes (store_width op) w))

abbrev pub FlatStoresCorrespond : Type 0
FlatStoresCorrespond =
    (xs : Extents) (memory new : Memory) (owner : Owners) (m : Bytes) → MemoryIs xs memory owner m →
    (op : StoreOp) (value pointer : Content) (w x : ℕ) (plus : ℤ) → ContentIs xs value w → ContentIs xs pointer x →
    stored_memory memory op value pointer plus ≡ Some new →
    IsStoreOf xs new owner m op (word_at (x + word_from plus)) w
