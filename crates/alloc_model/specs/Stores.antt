-- What keeps the contents of a call: a content for each key, be it a temporary or a place. Keys have a test of
-- equality.
use Rattle.std.specs.Prelude.{Bool, List, [], ◌∷◌, drop, if◌then◌else◌}
use Rattle.alloc_model.specs.Contents.{Content, unset_content}

abbrev pub Store : Type 0 → Type 0
Store K = K → Content

-- the first content, or unset where there is none
abbrev pub first_or_unset : List Content → Content
first_or_unset [] = unset_content
first_or_unset (c ∷ cs) = c

module _ {K : Type 0} where
  -- nothing is held
  abbrev pub empty : Store K
  empty k = unset_content

  -- what some keys hold is lost
  abbrev pub without : (lost : K → Bool) → Store K → Store K
  without lost s k = if lost k then unset_content else s k

  -- a key holds a content, and keys hold contents in order
  abbrev pub put : (eq : K → K → Bool) → K → Content → Store K → Store K
  put eq k c s other = if eq other k then c else s other

  abbrev pub put_all : (eq : K → K → Bool) → List K → List Content → Store K → Store K
  put_all eq [] cs s = s
  put_all eq (k ∷ ks) cs s = put_all eq ks (drop 1 cs) (put eq k (first_or_unset cs) s)
