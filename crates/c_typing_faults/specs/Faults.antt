-- Faults in order: by their places in the text, and at one place by the numbers of their kinds.
use Rattle.std.specs.Prelude.{ℕ, nat_lt, ◌==◌, if◌then◌else◌, Bool, true, false, List, [], ◌∷◌, Option, Some, None}
use Rattle.c_typing_faults.specs.declared.faults.Kind.{Kind}
use Rattle.c_typing_faults.specs.declared.faults.Kind.TheVariants as k
use Rattle.c_typing_faults.specs.declared.faults.Fault.{Fault}

abbrev pub kind_number : Kind → ℕ
kind_number k.MissingMain = 1
kind_number k.UnknownName = 2
kind_number k.Redeclared = 3
kind_number k.NotDefined = 4
kind_number k.BadType = 5
kind_number k.NotConstant = 6
kind_number k.BadOperand = 7
kind_number k.NotAssignable = 8
kind_number k.BadConversion = 9
kind_number k.NotFunction = 10
kind_number k.BadCall = 11
kind_number k.NoMember = 12
kind_number k.BadLabel = 13
kind_number k.BadJump = 14
kind_number k.BadReturn = 15
kind_number k.BadLiteral = 16
kind_number k.BadInit = 17

unfoldable pub is_before : Fault → Fault → Bool
is_before f g =
    if nat_lt f.at g.at then true
    else if f.at == g.at then nat_lt (kind_number f.kind) (kind_number g.kind)
    else false

-- a fault more in a sorted list, where the same fault counts once
abbrev pub insert_fault : Fault → List Fault → List Fault
insert_fault f [] = f ∷ []
insert_fault f (g ∷ gs) = if is_before f g then f ∷ g ∷ gs else if is_before g f then g ∷ insert_fault f gs else g ∷ gs

abbrev pub sorted_onto : List Fault → List Fault → List Fault
sorted_onto done [] = done
sorted_onto done (f ∷ fs) = sorted_onto (insert_fault f done) fs

-- the faults in order, each once
abbrev pub sort_faults : List Fault → List Fault
sort_faults fs = sorted_onto [] fs

abbrev pub head : List Fault → Option Fault
head [] = None
head (f ∷ fs) = Some f
