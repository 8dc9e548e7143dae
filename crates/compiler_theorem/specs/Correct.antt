-- The theorem of the compiler, in one place: what it is for an image to be right for a C text, however it was made
-- (C99 5.1.2.3). The program and the image share bytes and numbers alone.
use Rattle.std.specs.Prelude.{◌≡◌, ◌≢◌, ℕ, ◌+◌, ◌*◌, ◌≤◌, List, length}
use Rattle.c_mean.specs.Behaviour.{Meaning, Good}
use Rattle.c_mean.specs.Behaviour as c
use Rattle.alpha_isa.specs.Program.{Program}
use Rattle.alpha_isa.specs.Behave.{IsStack, behave_a, output_of}
use Rattle.alpha_isa.specs.Behave as alpha
use Rattle.mem_model.specs.Bytes.{AreBytes}
use Rattle.machine_model.specs.Laws.{IsPrefix}
use Rattle.c_tree.specs.declared.declarations.TranslationUnit.{TranslationUnit}
use Rattle.c_typed_tree.specs.declared.units.TypedUnit.{TypedUnit}
use Rattle.c_typed_tree.specs.Weight.{unit_weight}
use Rattle.c_semantics.specs.Behaves.{meaning}
use Rattle.compiler_front_end.specs.Units.{IsUnitWithin}

-- ---- what the image does

-- on one input the image ends or traps exactly as the program does, is never stuck, and writes the same on
-- the way
pub record SameOn (m : Meaning) (p : Program) (stack : ℕ) (input : List ℕ) : Type 0 where
  pub ends : (n : ℕ) (output : List ℕ) (status : ℕ) → m.behave input n ≡ c.Done output status →
      (k : ℕ) × (behave_a p stack input k ≡ alpha.Done output status)
  pub traps : (n : ℕ) (output : List ℕ) (code : ℕ) → m.behave input n ≡ c.Trap output code →
      (k : ℕ) × (behave_a p stack input k ≡ alpha.Trap output code)
  pub ends_only : (k : ℕ) (output : List ℕ) (status : ℕ) → behave_a p stack input k ≡ alpha.Done output status →
      (n : ℕ) × (m.behave input n ≡ c.Done output status)
  pub traps_only : (k : ℕ) (output : List ℕ) (code : ℕ) → behave_a p stack input k ≡ alpha.Trap output code →
      (n : ℕ) × (m.behave input n ≡ c.Trap output code)
  pub never_stuck : (k : ℕ) (output : List ℕ) (pc : ℕ) → behave_a p stack input k ≢ alpha.Stuck output pc
  pub writes : (n : ℕ) → (k : ℕ) × IsPrefix (c.output_of (m.behave input n)) (output_of (behave_a p stack input k))
  pub writes_only : (k : ℕ) → (n : ℕ) × IsPrefix (output_of (behave_a p stack input k)) (c.output_of (m.behave input n))

-- on every input of bytes on which the program promises something with this stack
abbrev pub Same : Meaning → Program → ℕ → Type 0
Same m p stack = (input : List ℕ) → AreBytes input → Good m input stack → SameOn m p stack input

-- ---- what it costs

-- on one input, where the program ends or traps within n turns, the image has done so after 600 steps for each word of
-- its text and each turn, and for one turn more
pub record EndsSoonOn (m : Meaning) (p : Program) (stack : ℕ) (input : List ℕ) : Type 0 where
  pub ends : (n : ℕ) (output : List ℕ) (status : ℕ) → m.behave input n ≡ c.Done output status →
      (k : ℕ) → 600 * length p.words * (n + 1) ≤ k → behave_a p stack input k ≡ alpha.Done output status
  pub traps : (n : ℕ) (output : List ℕ) (code : ℕ) → m.behave input n ≡ c.Trap output code →
      (k : ℕ) → 600 * length p.words * (n + 1) ≤ k → behave_a p stack input k ≡ alpha.Trap output code

-- on every input of bytes on which the program promises something with this stack
abbrev pub EndsSoon : Meaning → Program → ℕ → Type 0
EndsSoon m p stack = (input : List ℕ) → AreBytes input → Good m input stack → EndsSoonOn m p stack input

-- ---- the theorem

-- an image is right for a typed unit: on every stack it behaves as the unit and ends soon, and its text has at most
-- 2,048 words for each unit of weight
pub record IsCorrectFor (unit : TypedUnit) (image : Program) : Type 0 where
  pub same : (stack : ℕ) → IsStack stack → Same (meaning unit) image stack
  pub soon : (stack : ℕ) → IsStack stack → EndsSoon (meaning unit) image stack
  pub short : length image.words ≤ 2048 * unit_weight unit

-- An image is right for a C text: the text has a unit within the limits, and the image is right for that.
pub record IsCorrectImage (text : List ℕ) (image : Program) : Type 0 where
  pub tree : TranslationUnit
  pub unit : TypedUnit
  pub is_unit : IsUnitWithin text tree unit
  pub correct : IsCorrectFor unit image
