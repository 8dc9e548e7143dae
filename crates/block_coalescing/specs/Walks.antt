-- What stands where in two versions of a block, of which the second one lacks copies and dead instructions. Names say of
-- temporaries of the first version which temporary of the second one holds the same.
use Rattle.std.specs.Prelude.{◌≡◌, ◌≢◌, ℕ, ◌<◌, Bool, true, List, [], ◌∷◌, Option, Some, None, IfSome, slice_get, Contains, ◌⊎◌}
use Rattle.pass_core.specs.Functions.{successors_of}
use Rattle.temp_ir.specs.declared.insn.TempInsn.{TempInsn}
use Rattle.temp_ir.specs.Insns.{reads_of, targets_of, flows_on_of}
use Rattle.block_coalescing.specs.Forms.{form_of, write_of, is_pure, copy_of}

abbrev pub Names : Type 0
Names = ℕ → Option ℕ

-- ---- names behind an instruction: each is one from before that still stands, or that of what was written

-- behind writes of the same into d by the first version, and into e by the second one
abbrev pub WriteName : Names → (d e r q : ℕ) → Type 0
WriteName n d e r q = ((r ≡ d) × (q ≡ e)) ⊎ ((r ≢ d) × (q ≢ e) × (n r ≡ Some q))

abbrev pub BehindName : Names → (d e : Option ℕ) → (r q : ℕ) → Type 0
BehindName n None None r q = n r ≡ Some q
BehindName n (Some d) (Some e) r q = WriteName n d e r q
BehindName n _ _ r q = ⊥

-- behind an instruction of both, where the one writes d, and the other e
pub record IsBehind (d e : Option ℕ) (n m : Names) : Type 0 where
  pub each : (r q : ℕ) → m r ≡ Some q → BehindName n d e r q

-- behind a copy of s into d that the second version lacks: d has the name that s has
abbrev pub CopyName : Names → (d s r q : ℕ) → Type 0
CopyName n d s r q = ((r ≡ d) × (n s ≡ Some q)) ⊎ ((r ≢ d) × (n r ≡ Some q))

pub record IsCopied (d s : ℕ) (n m : Names) : Type 0 where
  pub each : (r q : ℕ) → m r ≡ Some q → CopyName n d s r q

-- behind another instruction that it lacks: what that writes has no name
pub record IsLost (d : Option ℕ) (n m : Names) : Type 0 where
  pub each : (r q : ℕ) → m r ≡ Some q → (d ≢ Some r) × (n r ≡ Some q)

-- ---- an instruction over other temporaries

-- these are the names, each below a bound
abbrev pub HaveTheseNames : (temps : ℕ) → Names → List ℕ → List ℕ → Type 0
HaveTheseNames temps n [] [] = Unit {0}
HaveTheseNames temps n (r ∷ rs) (q ∷ qs) = (n r ≡ Some q) × (q < temps) × HaveTheseNames temps n rs qs
HaveTheseNames temps n _ _ = ⊥

-- the same instruction reads the temporaries that have the names, and writes one below the bound
pub record IsRenamed (temps : ℕ) (n : Names) (x y : TempInsn) : Type 0 where
  pub form : form_of x ≡ form_of y
  pub reads : HaveTheseNames temps n (reads_of x) (reads_of y)
  pub within : IfSome (write_of y) (λ e. e < temps)

-- ---- blocks

-- all that is live stands in its own temporary
abbrev pub IsHome : (ℕ → Bool) → Names → Type 0
IsHome live n = (r : ℕ) → live r ≡ true → n r ≡ Some r

-- From the names on, what is left of the second version does what is left of the first one, and all that is live at the
-- bottom then stands in its own temporary, also where a jump leaves
pub data Walked (temps : ℕ) (bottom : ℕ → Bool) : Names → List TempInsn → List TempInsn → Type 0 where
  Ends : {n : Names} → IsHome bottom n → Walked temps bottom n [] []
  Copies : {n : Names} (m : Names) (d s : ℕ) {xs ys : List TempInsn} → IsCopied d s n m →
      Walked temps bottom m xs ys → Walked temps bottom n (copy_of d s ∷ xs) ys
  Loses : {n : Names} (m : Names) (x : TempInsn) {xs ys : List TempInsn} → is_pure x ≡ true →
      IsLost (write_of x) n m → Walked temps bottom m xs ys → Walked temps bottom n (x ∷ xs) ys
  Keeps : {n : Names} (m : Names) (x y : TempInsn) {xs ys : List TempInsn} → IsRenamed temps n x y →
      IsBehind (write_of x) (write_of y) n m → (targets_of x ≡ []) ⊎ IsHome bottom n →
      Walked temps bottom m xs ys → Walked temps bottom n (x ∷ xs) (y ∷ ys)

-- at the top what is live stands in its own temporary, and nothing else has a name
pub record IsTop (top : ℕ → Bool) (n : Names) : Type 0 where
  pub each : (r q : ℕ) → n r ≡ Some q → (q ≡ r) × (top r ≡ true)

pub record BlockWalked (temps : ℕ) (top bottom : ℕ → Bool) (xs ys : List TempInsn) : Type 0 where
  pub names : Names
  pub start : IsTop top names
  pub walked : Walked temps bottom names xs ys

-- ---- functions

abbrev pub OptionWalked : (temps : ℕ) → (top bottom : ℕ → Bool) → Option (List TempInsn) → Option (List TempInsn) →
    Type 0
OptionWalked temps top bottom None None = Unit {0}
OptionWalked temps top bottom (Some xs) (Some ys) = BlockWalked temps top bottom xs ys
OptionWalked temps top bottom _ _ = ⊥

-- each block is walked along its second version
pub record AreWalked (temps : ℕ) (tops bottoms : (block r : ℕ) → Bool) (before after : List (List TempInsn)) :
    Type 0 where
  pub each : (block : ℕ) →
      OptionWalked temps (tops block) (bottoms block) (slice_get before block) (slice_get after block)

-- what is live at the top of a block is live at the bottom of each that it may follow
abbrev pub FlowBack : List (List TempInsn) → (tops bottoms : (block r : ℕ) → Bool) → Type 0
FlowBack blocks tops bottoms =
    (block next r : ℕ) (insns : List TempInsn) → slice_get blocks block ≡ Some insns →
    Contains (successors_of targets_of flows_on_of block insns) next → tops next r ≡ true → bottoms block r ≡ true

-- the blocks of a function with so many temporaries, and their second versions
pub record AreCoalesced (temps : ℕ) (before after : List (List TempInsn)) : Type 0 where
  pub tops : (block r : ℕ) → Bool
  pub bottoms : (block r : ℕ) → Bool
  pub flows : FlowBack before tops bottoms
  pub walked : AreWalked temps tops bottoms before after
