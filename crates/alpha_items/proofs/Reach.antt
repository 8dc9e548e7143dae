-- What it takes for a branch to reach, in numbers.
use Rattle.std.proofs.Common.{◌≡◌, ℕ, ◌+◌, ◌<◌, ◌≤◌, ℤ, pos, negsuc, ◌-ℤ◌, refl, arith}
use Rattle.std.proofs.lemmas.Int.{ints}
use Rattle.alpha_isa.specs.Lawful.{IsBranchDisplacement}
use Rattle.alpha_items.specs.Layout.{displacement}

-- a difference of 21 bits
pub difference_within : (z : ℤ) (a b : ℕ) → IsBranchDisplacement z → z ≡ pos a -ℤ pos b → (a < b + 1048576) × (b ≤ a + 1048576)
difference_within (pos n) a b h e = (omega (arith, ints), omega (arith, ints))
difference_within (negsuc n) a b h e = (omega (arith, ints), omega (arith, ints))

pub difference_from : (z : ℤ) (a b : ℕ) → z ≡ pos a -ℤ pos b → a < b + 1048576 → b ≤ a + 1048576 → IsBranchDisplacement z
difference_from (pos n) a b e low high = omega (arith, ints)
difference_from (negsuc n) a b e low high = omega (arith, ints)

-- a branch at a word reaches another word
pub reaches_within : (here there : ℕ) → IsBranchDisplacement (displacement here there) → (there < here + 1 + 1048576) × (here + 1 ≤ there + 1048576)
reaches_within here there h = difference_within (displacement here there) there (here + 1) h refl

pub reaches_from : (here there : ℕ) → there < here + 1 + 1048576 → here + 1 ≤ there + 1048576 → IsBranchDisplacement (displacement here there)
reaches_from here there low high = difference_from (displacement here there) there (here + 1) refl low high
