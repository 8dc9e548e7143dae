-- What judgements note (C99 6.5 to 6.7): faults, uses, texts, tags, and structs of which no member is known, each
-- behind those that were noted before. Of the locals whose addresses were taken nothing is said.
use Rattle.std.specs.Prelude.{ℕ, nat_le, Bool, ◌&&◌, IsTrue, List, length}
use Rattle.mem_objects.specs.declared.TheConstants.{MOST_DATA}
use Rattle.c_typing_faults.specs.declared.faults.Kind.{Kind}
use Rattle.c_typing_state.specs.declared.meanings.Tag.TheVariants as g
use Rattle.c_typing_state.specs.declared.notes.Notes.{Notes}
use Rattle.c_typing_state.specs.Notes.{with_fault, with_use, with_taken, new_text, nothing_taken, rejoin, new_struct, with_tag}
use Rattle.c_typing_judgements.specs.Leaves.{incomplete_struct}

-- a text has its closing zero at least, and is no larger than the data may be
abbrev pub is_sized : (text : List ℕ) → Bool
is_sized text = nat_le 1 (length text) && nat_le (length text) MOST_DATA

-- one after the other
pub data NoteSteps : (n later : Notes) → Type 0 where
  Stays : {n : Notes} → NoteSteps n n
  Follows : {n m later : Notes} → NoteSteps n m → NoteSteps m later → NoteSteps n later
  AddsFault : {n : Notes} (at : ℕ) (kind : Kind) → NoteSteps n (with_fault at kind n)
  AddsUse : {n : Notes} (number at : ℕ) → NoteSteps n (with_use number at n)
  ListsAddresses : {n : Notes} (addressed : List ℕ) → NoteSteps n (with_taken addressed n.texts n)
  AddsText : {n : Notes} (bytes : List ℕ) → IsTrue (is_sized bytes) → NoteSteps n (new_text bytes n).1
  -- what an operand that is not evaluated takes is forgotten
  Aside : {n m : Notes} → NoteSteps (nothing_taken n) m → NoteSteps n (rejoin n.addressed n.texts m)
  AddsEnum : {n : Notes} (name : List ℕ) → NoteSteps n (with_tag name g.Enum n)
  AddsStruct : {n : Notes} (name : List ℕ) →
      NoteSteps n (with_tag name (g.Struct (length n.structs)) (new_struct (incomplete_struct name) n).1)
