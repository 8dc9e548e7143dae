-- What is noted, and what each note adds.
use Rattle.std.specs.Prelude.{ℕ, ◌+◌, List, [], ◌∷◌, ◌++◌, length}
use Rattle.c_typing_faults.specs.declared.faults.Kind.{Kind}
use Rattle.c_typing_faults.specs.declared.faults.Fault.{Fault}
use Rattle.c_typed_tree.specs.declared.types.StructDef.{StructDef}
use Rattle.c_typing_rules.specs.declared.typed.LvalueKind.{LvalueKind}
use Rattle.c_typing_rules.specs.declared.typed.LvalueKind.TheVariants as p
use Rattle.c_typing_state.specs.declared.meanings.Tag.{Tag}
use Rattle.c_typing_state.specs.declared.notes.Notes.{Notes}

abbrev pub with_faults : List Fault → Notes → Notes
with_faults faults n = record {
  faults = faults;
  addressed = n.addressed;
  texts = n.texts;
  first_text = n.first_text;
  uses = n.uses;
  structs = n.structs;
  members = n.members;
  tags = n.tags;
  untagged = n.untagged;
}

abbrev pub with_fault : ℕ → Kind → Notes → Notes
with_fault at kind n = with_faults (n.faults ++ record { at = at; kind = kind } ∷ []) n

-- what is taken from the memory of a function, and of the unit: locals by their address, and texts
abbrev pub with_taken : List ℕ → List (List ℕ) → Notes → Notes
with_taken addressed texts n = record {
  faults = n.faults;
  addressed = addressed;
  texts = texts;
  first_text = n.first_text;
  uses = n.uses;
  structs = n.structs;
  members = n.members;
  tags = n.tags;
  untagged = n.untagged;
}

-- the address of a local, or of a part of one
abbrev pub with_address : LvalueKind → Notes → Notes
with_address p.Nowhere n = n
with_address (p.Local number) n = with_taken (n.addressed ++ number ∷ []) n.texts n
with_address (p.Global number) n = n
with_address p.Elsewhere n = n

-- a text, with its number among the objects of the unit
abbrev pub new_text : List ℕ → Notes → ℕ × Notes
new_text bytes n = (n.first_text + length n.texts, with_taken n.addressed (n.texts ++ bytes ∷ []) n)

-- an operand that is not evaluated takes nothing
abbrev pub nothing_taken : Notes → Notes
nothing_taken n = with_taken [] [] n

abbrev pub rejoin : List ℕ → List (List ℕ) → Notes → Notes
rejoin addressed texts n = with_taken addressed texts n

-- a use of what is never defined
abbrev pub with_use : (number : ℕ) → ℕ → Notes → Notes
with_use number at n = record {
  faults = n.faults;
  addressed = n.addressed;
  texts = n.texts;
  first_text = n.first_text;
  uses = n.uses ++ record { number = number; at = at } ∷ [];
  structs = n.structs;
  members = n.members;
  tags = n.tags;
  untagged = n.untagged;
}

-- a struct of which no member has a name yet
abbrev pub new_struct : StructDef → Notes → ℕ × Notes
new_struct structure n = (
  length n.structs,
  record {
    faults = n.faults;
    addressed = n.addressed;
    texts = n.texts;
    first_text = n.first_text;
    uses = n.uses;
    structs = n.structs ++ structure ∷ [];
    members = n.members ++ [] ∷ [];
    tags = n.tags;
    untagged = n.untagged;
  },
)

-- a tag
abbrev pub with_tag : List ℕ → Tag → Notes → Notes
with_tag name tag n = record {
  faults = n.faults;
  addressed = n.addressed;
  texts = n.texts;
  first_text = n.first_text;
  uses = n.uses;
  structs = n.structs;
  members = n.members;
  tags = record { name = name; value = tag } ∷ n.tags;
  untagged = n.untagged;
}
