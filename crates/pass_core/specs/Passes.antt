-- Relations that passes keep.

-- the input is related to something in between by the first relation, and that to the output by the second
pub record Through {A B C : Type 0} (first : A → B → Type 0) (second : B → C → Type 0) (input : A)
    (output : C) : Type 0 where
  pub middle : B
  pub before : first input middle
  pub after : second middle output
