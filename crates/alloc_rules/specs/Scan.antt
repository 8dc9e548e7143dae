-- What the lists and sets are that an allocator's passes hand on.
use Rattle.std.specs.Prelude.{◌≡◌, ℕ, suc, ◌+◌, ◌*◌, ◌<◌, ◌↔◌, true, Bool, List, [], length, All, Contains, slice_index_or, slice_get, Some}
use Rattle.pass_core.specs.Functions.{insn_at}
use Rattle.temp_ir.specs.declared.insn.TempInsn.{TempInsn}
use Rattle.temp_ir.specs.Insns.{reads_of, writes_of}
use Rattle.temp_ir.specs.Programs.{TempFn}
use Rattle.bk_bits.specs.Sets.{has}
use Rattle.alloc_model.specs.Temporaries.{code_of}
use Rattle.alloc_model.specs.Places.{Plan, linear_number}
use Rattle.alloc_model.specs.Lifetimes.{Blocks, IsPart}
use Rattle.alloc_model.specs.Needs.{IsRelied, IsStored, IsWritten, IsNeeded}
use Rattle.alloc_rules.specs.declared.scan.LifetimePart.{LifetimePart}
use Rattle.alloc_rules.specs.declared.scan.Lifetimes.{Lifetimes}
use Rattle.alloc_rules.specs.declared.scan.Needs.{Needs}
use Rattle.alloc_rules.specs.declared.scan.Scanned.{Scanned}

-- ---- lifetimes

-- a point at which a temporary is read or written
pub data IsReference (blocks : Blocks) (t point : ℕ) : Type 0 where
  IsRead : (block at : ℕ) (x : TempInsn) → insn_at blocks block at ≡ Some x →
      point ≡ 2 * linear_number blocks block at → Contains (reads_of x) t → IsReference blocks t point
  IsWrite : (block at : ℕ) (x : TempInsn) → insn_at blocks block at ≡ Some x →
      point ≡ 2 * linear_number blocks block at + 1 → Contains (writes_of x) t → IsReference blocks t point

abbrev pub lifetime_parts : Lifetimes → (t : ℕ) → List LifetimePart
lifetime_parts lives t = slice_index_or lives.parts t []

abbrev pub refs_of : Lifetimes → (t : ℕ) → List ℕ
refs_of lives t = slice_index_or lives.refs t []

-- each temporary of a function has its parts and reference points, each of them once and in order
pub record AreLifetimes (f : TempFn) (lives : Lifetimes) : Type 0 where
  pub parts_length : length lives.parts ≡ f.temps
  pub refs_length : length lives.refs ≡ f.temps
  pub parts : (t first last : ℕ) → t < f.temps →
      Contains (lifetime_parts lives t) (record { first = first; last = last }) ↔ IsPart f.blocks t first last
  pub parts_rise : (t k : ℕ) (a b : LifetimePart) → slice_get (lifetime_parts lives t) k ≡ Some a →
      slice_get (lifetime_parts lives t) (suc k) ≡ Some b → a.last < b.first
  pub refs : (t point : ℕ) → t < f.temps → Contains (refs_of lives t) point ↔ IsReference f.blocks t point
  pub refs_rise : (t k a b : ℕ) → slice_get (refs_of lives t) k ≡ Some a →
      slice_get (refs_of lives t) (suc k) ≡ Some b → a < b

-- ---- sets for blocks

-- for each block there is a set of the temporaries of which something is so there
pub record AreSets (a : Plan) (IsSo : (t block : ℕ) → Type 0) (sets : List (List Bool)) : Type 0 where
  pub as_many : length sets ≡ length a.function.blocks
  pub bounds : All (λ set. length set ≡ a.temps) sets
  pub members : (t block : ℕ) → (has (slice_index_or sets block []) t ≡ true)
      ↔ ((t < a.temps) × (block < length a.function.blocks) × IsSo t block)

-- the temporaries in need of each block
abbrev pub AreNeeds : Plan → Needs → Type 0
AreNeeds a needs = AreSets a (IsNeeded a) needs.need

-- what was scanned, as an allocation in which nothing is done on edges
abbrev pub plan_of_scanned : Scanned → Plan
plan_of_scanned s = record {
  function = code_of s.func;
  params = s.func.params;
  temps = s.func.temps;
  top = s.top;
  bottom = s.bottom;
  at = s.at;
  regs = s.regs;
  edges = [];
}

-- its sets are those on whose slots a block relies, which it stores and which it writes
pub record AreScanned (s : Scanned) : Type 0 where
  pub relied : AreSets (plan_of_scanned s) (IsRelied (plan_of_scanned s)) s.relied
  pub stored : AreSets (plan_of_scanned s) (IsStored (plan_of_scanned s)) s.stored
  pub written : AreSets (plan_of_scanned s) (IsWritten (plan_of_scanned s)) s.written

-- ---- that this says which they are

-- lists of which it is said of the same function are the same, and so are sets of the same allocation or scan
pub record ListsAreUnique : Type 0 where
  pub lifetimes : (f : TempFn) (l m : Lifetimes) → AreLifetimes f l → AreLifetimes f m →
      (l.parts ≡ m.parts) × (l.refs ≡ m.refs)
  pub needs : (a : Plan) (n m : Needs) → AreNeeds a n → AreNeeds a m → n.need ≡ m.need
  pub scans : (s t : Scanned) → plan_of_scanned s ≡ plan_of_scanned t → AreScanned s → AreScanned t →
      (s.relied ≡ t.relied) × (s.stored ≡ t.stored) × (s.written ≡ t.written)
