-- What holds of trees of every kind.
use Rattle.std.specs.Prelude.{◌≡◌, ℕ, suc, ◌<◌, ◌≤◌, max, List, [], length, Some, slice_get, slice_set}

-- Setting a child sets that one and nothing else; a leaf has no child; a node is higher than each child, and no
-- higher than it was but by what is put. Refinement is an order and goes through every node.
pub record TreeLaws {T : Type 0} (children : T → List T) (with_child : T → ℕ → T → T) (leaf : T) (height : T → ℕ)
    (Refines : T → T → Type 0) : Type 0 where
  pub sets : (n : T) (k : ℕ) (c : T) → k < length (children n) →
      children (with_child n k c) ≡ slice_set (children n) k c
  pub sets_again : (n : T) (k : ℕ) (b c : T) → with_child (with_child n k b) k c ≡ with_child n k c
  pub sets_same : (n : T) (k : ℕ) (c : T) → slice_get (children n) k ≡ Some c → with_child n k c ≡ n
  pub leaf_ends : children leaf ≡ []
  pub tall : (n : T) → 0 < height n
  pub lower : (n : T) (k : ℕ) (c : T) → slice_get (children n) k ≡ Some c → height c < height n
  pub raised : (n : T) (k : ℕ) (c : T) → height (with_child n k c) ≤ max (height n) (suc (height c))
  pub itself : (n : T) → Refines n n
  pub onwards : (a b c : T) → Refines a b → Refines b c → Refines a c
  pub through : (n : T) (k : ℕ) (c d : T) → slice_get (children n) k ≡ Some c → Refines d c →
      Refines (with_child n k d) n
