-- Judgements: what is found, if the parts are without fault, and the notes with what was noted on the way.
use Rattle.std.specs.Prelude.{◌≡◌, ℕ, List, [], ◌∷◌, ◌++◌, Option, Some, None, Result, Ok, Err}
use Rattle.c_typing_faults.specs.declared.faults.Kind.{Kind}
use Rattle.c_typing_rules.specs.Rulings.{Ruling}
use Rattle.c_typing_state.specs.declared.notes.Notes.{Notes}
use Rattle.c_typing_state.specs.Notes.{with_fault}

abbrev pub Check : Type 0 → Type 0
Check A = Notes → A × Notes

abbrev pub pure : {A S : Type 0} → A → S → A × S
pure a s = (a, s)

abbrev pub and_then : {A B S T : Type 0} → A × S → (A → S → B × T) → B × T
and_then x k = k x.0 x.1

-- a fault, in place of what would be found
abbrev pub fault : {A : Type 0} → ℕ → Kind → Check (Option A)
fault at kind n = (None, with_fault at kind n)

-- what a rule makes, or its fault
abbrev pub note_fault : {A : Type 0} → Ruling A → Check (Option A)
note_fault (Ok a) n = (Some a, n)
note_fault (Err f) n = (None, with_fault f.at f.kind n)

-- ---- what is judged only where its parts are without fault

abbrev pub each : {A B S : Type 0} → Option A → (A → S → Option B × S) → S → Option B × S
each None k s = (None, s)
each (Some a) k s = k a s

abbrev pub both_parts : {A B C S : Type 0} → Option A → Option B → (A → B → S → Option C × S) → S → Option C × S
both_parts None b k s = (None, s)
both_parts (Some a) None k s = (None, s)
both_parts (Some a) (Some b) k s = k a b s

-- ---- lists

-- one more of the parts of a list
abbrev pub append_part : {A : Type 0} → Option (List A) → Option A → Option (List A)
append_part None x = None
append_part (Some xs) None = None
append_part (Some xs) (Some x) = Some (xs ++ x ∷ [])

-- the parts of a list in their order, after those that were found
abbrev pub walk : {A B S : Type 0} → (A → S → Option B × S) → List A → Option (List B) → S → Option (List B) × S
walk f [] found s = (found, s)
walk f (x ∷ xs) found s = and_then (f x s) (λ r. walk f xs (append_part found r))

-- ---- what a function of the code answers, unless memory is short

abbrev pub Finds : {A S E : Type 0} → A × S → Result A E → S → Type 0
Finds m (Ok a) new = m ≡ (a, new)
Finds m (Err e) new = Unit {0}
