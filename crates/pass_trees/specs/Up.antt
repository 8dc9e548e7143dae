-- What a rule makes of a whole tree.
use Rattle.std.specs.Prelude.{ℕ, suc, zero, List, [], ◌∷◌, map}

module _ {T : Type 0} (with_child : T → ℕ → T → T) where
  -- a node with other children, from a number on
  abbrev pub with_children_from : ℕ → T → List T → T
  with_children_from k n [] = n
  with_children_from k n (c ∷ cs) = with_children_from (suc k) (with_child n k c) cs

module _ {T : Type 0} (children : T → List T) (with_child : T → ℕ → T → T) (height : T → ℕ) (turned : T → T) where
  -- each child is replaced by what is made of it, and then the node is turned; within so many levels
  abbrev pub up_within : ℕ → T → T
  up_within zero n = n
  up_within (suc levels) n =
      turned (with_children_from with_child 0 n (map (λ c. up_within levels c) (children n)))

  -- as many levels as the tree is high are enough
  abbrev pub up : T → T
  up n = up_within (suc (height n)) n
