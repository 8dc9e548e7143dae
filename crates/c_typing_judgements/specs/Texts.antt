-- String literals (C99 6.4.5, 5.1.1.2): those that stand side by side are one, and a zero stands at the end of all.
-- Each occurrence is an object of its own.
use Rattle.std.specs.Prelude.{ℕ, nat_le, if◌then◌else◌, List, [], ◌∷◌, ◌++◌, length, Option, Some}
use Rattle.mem_objects.specs.declared.TheConstants.{MOST_DATA}
use Rattle.c_typing_faults.specs.declared.faults.Kind.TheVariants.{BadType}
use Rattle.c_typing_literals.specs.Texts.{text_bytes}
use Rattle.c_typing_primary_rules.specs.Primary.{text}
use Rattle.c_typing_rules.specs.declared.typed.TypedExpression.{TypedExpression}
use Rattle.c_typing_state.specs.Checks.{Check, and_then, pure, fault}
use Rattle.c_typing_state.specs.Notes.{new_text}

abbrev pub join_spellings : (spellings : List (List ℕ)) → List ℕ
join_spellings [] = []
join_spellings (s ∷ ss) = text_bytes s ++ join_spellings ss

abbrev pub spelling_bytes : (spellings : List (List ℕ)) → List ℕ
spelling_bytes spellings = join_spellings spellings ++ 0 ∷ []

-- its array is no larger than the data may be
abbrev pub string_of : ℕ → (bytes : List ℕ) → Check (Option TypedExpression)
string_of at bytes n =
    if nat_le (length bytes) MOST_DATA
    then and_then (new_text bytes n) (λ number. pure (Some (text at number (length bytes))))
    else fault at BadType n

abbrev pub string : ℕ → (spellings : List (List ℕ)) → Check (Option TypedExpression)
string at spellings n = string_of at (spelling_bytes spellings) n
