-- The code of instructions that are followed by the next one alone consists of such instructions. What holds of each
-- that names neither an object nor a function nor an argument place holds of most code.
use Rattle.std.proofs.Common.{◌≡◌, ℕ, zero, suc, ◌+◌, ◌-◌, List, [], ◌∷◌, ◌++◌, length, Bool, true, false, ℤ, pos, Option, Some, None, refl, ◌∙◌}
use Rattle.std.specs.Prelude.{◌&&◌, ◌==◌, nat_lt, if◌then◌else◌}
use Rattle.std.specs.List.{list_all}
use Rattle.std.specs.Int.{w16}
use Rattle.std.proofs.lemmas.Bool.{and_from, and_parts}
use Rattle.std.proofs.lemmas.List.Folds.{list_all-append}
use Rattle.alpha_isa.specs.Arithmetic.{fits_signed, word_from}
use Rattle.alpha_constants.specs.declared.recipe.Finish.{Finish}
use Rattle.alpha_constants.specs.declared.recipe.Finish.TheVariants.{Nothing, ShiftLeft, ShiftRight, LowHalf, AddLower}
use Rattle.alpha_constants.specs.declared.recipe.Recipe.{Recipe}
use Rattle.alpha_constants.specs.Recipes.{low_part, high_part, is_zero, recipe_of}
use Rattle.suifvm_ir.specs.declared.types.VmType.{VmType}
use Rattle.suifvm_ir.specs.declared.types.MemoryType.{MemoryType}
use Rattle.suifvm_ir.specs.declared.types.MemoryType.TheVariants as m
use Rattle.suifvm_ir.specs.declared.types.Alignment.{Alignment}
use Rattle.suifvm_ir.specs.declared.insn.VmBinaryOp.{VmBinaryOp}
use Rattle.suifvm_ir.specs.declared.insn.VmBinaryOp.TheVariants.{Add, Subtract, Multiply, Divide, Remainder, And, Or, ExclusiveOr}
use Rattle.suifvm_ir.specs.declared.insn.ShiftOp.{ShiftOp}
use Rattle.suifvm_ir.specs.declared.insn.ShiftOp.TheVariants.{ArithmeticRight, Left, LogicalRight}
use Rattle.suifvm_ir.specs.declared.insn.CompareOp.{CompareOp}
use Rattle.suifvm_ir.specs.declared.insn.CompareOp.TheVariants.{Equal, NotEqual, Less, LessOrEqual}
use Rattle.suifvm_ir.specs.declared.insn.VmBuiltin.{VmBuiltin}
use Rattle.suifvm_ir.specs.declared.insn.VmBuiltin.TheVariants.{PutChar, GetChar, Abort, Exit}
use Rattle.suifvm_ir.specs.declared.insn.VmCallee.{VmCallee}
use Rattle.suifvm_ir.specs.declared.insn.VmCallee.TheVariants as callee
use Rattle.suifvm_ir.specs.Programs.{alignment_bytes}
use Rattle.temp_ir.specs.declared.operation.AddressOp.TheVariants.{Lda, Ldah}
use Rattle.temp_ir.specs.declared.insn.FirstOperand.TheVariants as source
use Rattle.temp_ir.specs.declared.insn.TempInsn.{TempInsn}
use Rattle.temp_ir.specs.declared.insn.TempInsn.TheVariants as i
use Rattle.temp_ir.specs.Insns.{targets_of, flows_on_of}
use Rattle.temp_ir.specs.Fixed.{fixed_reads_of}
use Rattle.selection_forms.specs.alpha_forms.Constants.{unless_zero, near_items, lower_items, finish_items, recipe_items, constant_items}
use Rattle.selection_forms.specs.alpha_forms.Accesses.{near_load, near_store, far_items, load_by, load_items, store_by, store_items}
use Rattle.selection_forms.specs.alpha_forms.Operations.{binary_items, left_items, logical_right_items, shift_items, compare_items, convert_items, convert_item, is_narrow, from_unsigned_item, from_wide_item}
use Rattle.selection_forms.specs.alpha_copies.Copies.{part_items, moved_items, copy_reach, parts_items}
use Rattle.selection_code.specs.Instructions.{temp_of, pass_item, pass_items, take_item, take_items, result_items, byte_items, put_char_items, exit_call_items, builtin_items, call_items, argument_register}

-- an instruction without targets that is followed by the next one
abbrev pub is_plain : TempInsn → Bool
is_plain z = (length (targets_of z) == 0) && flows_on_of z

abbrev pub are_plain : List TempInsn → Bool
are_plain xs = list_all is_plain xs

-- one that names no object and no function
abbrev pub is_nameless : TempInsn → Bool
is_nameless (i.ObjectAddress d place plus) = false
is_nameless (i.Call function arguments) = false
is_nameless _ = true

-- one that names no argument place
abbrev pub is_placeless : TempInsn → Bool
is_placeless (i.WriteArgument number source) = false
is_placeless (i.ReadArgument d number) = false
is_placeless _ = true

-- a plain one that is both
abbrev pub is_bare : TempInsn → Bool
is_bare z = is_placeless z && (is_nameless z && is_plain z)

abbrev pub are_bare : List TempInsn → Bool
are_bare xs = list_all is_bare xs

-- one of these that reads no fixed register
abbrev pub is_simple : TempInsn → Bool
is_simple z = (length (fixed_reads_of z) == 0) && is_bare z

abbrev pub are_simple : List TempInsn → Bool
are_simple xs = list_all is_simple xs

pub plain-append : (xs ys : List TempInsn) → are_plain xs ≡ true → are_plain ys ≡ true → are_plain (xs ++ ys) ≡ true
plain-append xs ys h g = list_all-append is_plain xs ys ∙ and_from (are_plain xs) (are_plain ys) h g

simple-append : (xs ys : List TempInsn) → are_simple xs ≡ true → are_simple ys ≡ true → are_simple (xs ++ ys) ≡ true
simple-append xs ys h g = list_all-append is_simple xs ys ∙ and_from (are_simple xs) (are_simple ys) h g

simple_one : (b : Bool) (xs ys : List TempInsn) → are_simple xs ≡ true → are_simple ys ≡ true → are_simple (if b then xs else ys) ≡ true
simple_one true xs ys h g = h
simple_one false xs ys h g = g

pub simple_bare : (xs : List TempInsn) → are_simple xs ≡ true → are_bare xs ≡ true
simple_bare [] e = refl
simple_bare (z ∷ xs) e =
    let p = and_parts (is_simple z) (are_simple xs) e in
    and_from (is_bare z) (are_bare xs) (and_parts (length (fixed_reads_of z) == 0) (is_bare z) p.0).1 (simple_bare xs p.1)

pub bare_parts : (z : TempInsn) → is_bare z ≡ true → (is_placeless z ≡ true) × (is_nameless z ≡ true) × (is_plain z ≡ true)
bare_parts z e =
    let p = and_parts (is_placeless z) (is_nameless z && is_plain z) e in
    let q = and_parts (is_nameless z) (is_plain z) p.1 in
    (p.0, q.0, q.1)

pub bare_plain : (xs : List TempInsn) → are_bare xs ≡ true → are_plain xs ≡ true
bare_plain [] e = refl
bare_plain (z ∷ xs) e =
    let p = and_parts (is_bare z) (are_bare xs) e in
    and_from (is_plain z) (are_plain xs) (bare_parts z p.0).2 (bare_plain xs p.1)

pub simple_plain : (xs : List TempInsn) → are_simple xs ≡ true → are_plain xs ≡ true
simple_plain xs e = bare_plain xs (simple_bare xs e)

-- ---- constants

unless_simple : (z : ℤ) (x : TempInsn) → is_simple x ≡ true → are_simple (unless_zero z x) ≡ true
unless_simple z x h = simple_one (is_zero z) [] (x ∷ []) refl (and_from (is_simple x) true h refl)

near_simple : (d n : ℕ) → are_simple (near_items d n) ≡ true
near_simple d n =
    simple_one (is_zero (high_part n)) (i.Address Lda d source.Zero (low_part n) ∷ []) (i.Address Ldah d source.Zero (high_part n) ∷ unless_zero (low_part n) (i.Address Lda d (source.Temp d) (low_part n)))
    refl (unless_simple (low_part n) (i.Address Lda d (source.Temp d) (low_part n)) refl)

lower_simple : (d n : ℕ) → are_simple (lower_items d n) ≡ true
lower_simple d n =
    simple-append (unless_zero (high_part n) (i.Address Ldah d (source.Temp d) (high_part n))) (unless_zero (low_part n) (i.Address Lda d (source.Temp d) (low_part n)))
    (unless_simple (high_part n) (i.Address Ldah d (source.Temp d) (high_part n)) refl) (unless_simple (low_part n) (i.Address Lda d (source.Temp d) (low_part n)) refl)

finish_simple : (d : ℕ) (f : Finish) → are_simple (finish_items d f) ≡ true
finish_simple d Nothing = refl
finish_simple d (ShiftLeft places) = refl
finish_simple d (ShiftRight places) = refl
finish_simple d LowHalf = refl
finish_simple d (AddLower lower) = lower_simple d lower

recipe_simple : (d : ℕ) (r : Recipe) → are_simple (recipe_items d r) ≡ true
recipe_simple d r = simple-append (near_items d r.near) (finish_items d r.finish) (near_simple d r.near) (finish_simple d r.finish)

pub constant_simple : (d word : ℕ) → are_simple (constant_items d word) ≡ true
unfolding constant_items
constant_simple d word = simple_one (word == 0) _ (recipe_items d (recipe_of word)) refl (recipe_simple d (recipe_of word))

-- ---- accesses

near_load_simple : (ty : MemoryType) (d p : ℕ) (plus : ℤ) → are_simple (near_load ty d p plus) ≡ true
near_load_simple m.S8 d p plus = refl
near_load_simple m.U8 d p plus = refl
near_load_simple m.S16 d p plus = refl
near_load_simple m.U16 d p plus = refl
near_load_simple m.S32 d p plus = refl
near_load_simple m.U32 d p plus = refl
near_load_simple m.S64 d p plus = refl
near_load_simple m.U64 d p plus = refl
near_load_simple m.P64 d p plus = refl

far_simple : (p : ℕ) (plus : ℤ) → are_simple (far_items p plus) ≡ true
far_simple p plus = simple-append (constant_items 0 (word_from plus)) _ (constant_simple 0 (word_from plus)) refl

pub load_simple : (ty : MemoryType) (d p : ℕ) (plus : ℤ) → are_simple (load_items ty d p plus) ≡ true
load_simple ty d p plus = by_fit (fits_signed w16 plus)
  where
    by_fit : (b : Bool) → are_simple (load_by ty d p plus (if b then Some plus else None)) ≡ true
    by_fit true = near_load_simple ty d p plus
    by_fit false = simple-append (far_items p plus) (near_load ty d 0 (pos 0)) (far_simple p plus) (near_load_simple ty d 0 (pos 0))

pub store_simple : (ty : MemoryType) (p : ℕ) (plus : ℤ) (a : ℕ) → are_simple (store_items ty p plus a) ≡ true
store_simple ty p plus a = by_fit (fits_signed w16 plus)
  where
    by_fit : (b : Bool) → are_simple (store_by ty p plus a (if b then Some plus else None)) ≡ true
    by_fit true = refl
    by_fit false = simple-append (far_items p plus) (near_store ty a 0 (pos 0)) (far_simple p plus) refl

pub parts_simple : (al : Alignment) (n to from at : ℕ) → are_simple (parts_items al n to from at) ≡ true
parts_simple al zero to from at = refl
parts_simple al (suc n) to from at =
    simple_one (nat_lt at copy_reach) (part_items al to from at ++ parts_items al n to from (at + alignment_bytes al))
    (moved_items to from at ++ (part_items al 1 2 0 ++ parts_items al n 1 2 (alignment_bytes al)))
    (parts_simple al n to from (at + alignment_bytes al)) (parts_simple al n 1 2 (alignment_bytes al))

-- ---- operations

pub binary_bare : (op : VmBinaryOp) (ty : VmType) (d a b : ℕ) → are_bare (binary_items op ty d a b) ≡ true
binary_bare Add ty d a b = refl
binary_bare Subtract ty d a b = refl
binary_bare Multiply ty d a b = refl
binary_bare Divide ty d a b = refl
binary_bare Remainder ty d a b = refl
binary_bare And ty d a b = refl
binary_bare Or ty d a b = refl
binary_bare ExclusiveOr ty d a b = refl

left_simple : (narrow : Bool) (d a b : ℕ) → are_simple (left_items narrow d a b) ≡ true
left_simple true d a b = refl
left_simple false d a b = refl

right_simple : (narrow : Bool) (d a b : ℕ) → are_simple (logical_right_items narrow d a b) ≡ true
right_simple true d a b = refl
right_simple false d a b = refl

pub shift_simple : (op : ShiftOp) (ty : VmType) (d a b : ℕ) → are_simple (shift_items op ty d a b) ≡ true
shift_simple ArithmeticRight ty d a b = refl
shift_simple Left ty d a b = left_simple (is_narrow ty) d a b
shift_simple LogicalRight ty d a b = right_simple (is_narrow ty) d a b

pub compare_simple : (op : CompareOp) (ty : VmType) (d a b : ℕ) → are_simple (compare_items op ty d a b) ≡ true
compare_simple Equal ty d a b = refl
compare_simple NotEqual ty d a b = refl
compare_simple Less ty d a b = refl
compare_simple LessOrEqual ty d a b = refl

from_unsigned_simple : (narrow : Bool) (d a : ℕ) → is_simple (from_unsigned_item narrow d a) ≡ true
from_unsigned_simple true d a = refl
from_unsigned_simple false d a = refl

from_wide_simple : (narrow : Bool) (d a : ℕ) → is_simple (from_wide_item narrow d a) ≡ true
from_wide_simple true d a = refl
from_wide_simple false d a = refl

convert_item_simple : (from : MemoryType) (to : VmType) (d a : ℕ) → is_simple (convert_item from to d a) ≡ true
convert_item_simple m.S8 to d a = refl
convert_item_simple m.U8 to d a = refl
convert_item_simple m.S16 to d a = refl
convert_item_simple m.U16 to d a = refl
convert_item_simple m.S32 to d a = refl
convert_item_simple m.U32 to d a = from_unsigned_simple (is_narrow to) d a
convert_item_simple m.S64 to d a = from_wide_simple (is_narrow to) d a
convert_item_simple m.U64 to d a = from_wide_simple (is_narrow to) d a
convert_item_simple m.P64 to d a = from_wide_simple (is_narrow to) d a

pub convert_simple : (from : MemoryType) (to : VmType) (d a : ℕ) → are_simple (convert_items from to d a) ≡ true
convert_simple from to d a = and_from (is_simple (convert_item from to d a)) true (convert_item_simple from to d a) refl

-- ---- calls

pass_plain : (k t : ℕ) → is_plain (pass_item k t) ≡ true
pass_plain k t = by_test (nat_lt k 6)
  where
    by_test : (b : Bool) → is_plain (if b then i.ToFixed (argument_register k) t else i.WriteArgument (k - 6) t) ≡ true
    by_test true = refl
    by_test false = refl

passes_plain : (k : ℕ) (arguments : List ℕ) → are_plain (pass_items k arguments) ≡ true
passes_plain k [] = refl
passes_plain k (a ∷ arguments) = and_from (is_plain (pass_item k (temp_of a))) (are_plain (pass_items (suc k) arguments)) (pass_plain k (temp_of a)) (passes_plain (suc k) arguments)

take_plain : (k t : ℕ) → is_plain (take_item k t) ≡ true
take_plain k t = by_test (nat_lt k 6)
  where
    by_test : (b : Bool) → is_plain (if b then i.FromFixed t (argument_register k) else i.ReadArgument t (k - 6)) ≡ true
    by_test true = refl
    by_test false = refl

pub takes_plain : (k count : ℕ) → are_plain (take_items k count) ≡ true
takes_plain k zero = refl
takes_plain k (suc count) = and_from (is_plain (take_item k (temp_of k))) (are_plain (take_items (suc k) count)) (take_plain k (temp_of k)) (takes_plain (suc k) count)

pub result_bare : (d : Option ℕ) → are_bare (result_items d) ≡ true
result_bare None = refl
result_bare (Some d) = refl

byte_bare : (d : Option ℕ) (a : ℕ) → are_bare (byte_items d a) ≡ true
byte_bare None a = refl
byte_bare (Some d) a = refl

put_char_bare : (d : Option ℕ) (arguments : List ℕ) → are_bare (put_char_items d arguments) ≡ true
put_char_bare d [] = refl
put_char_bare d (a ∷ arguments) = byte_bare d a

exit_bare : (arguments : List ℕ) → are_bare (exit_call_items arguments) ≡ true
exit_bare [] = refl
exit_bare (a ∷ arguments) = refl

pub builtin_bare : (d : Option ℕ) (b : VmBuiltin) (arguments : List ℕ) → are_bare (builtin_items d b arguments) ≡ true
builtin_bare d PutChar arguments = put_char_bare d arguments
builtin_bare d GetChar arguments = result_bare d
builtin_bare d Abort arguments = refl
builtin_bare d Exit arguments = exit_bare arguments

pub call_plain : (d : Option ℕ) (c : VmCallee) (arguments : List ℕ) → are_plain (call_items d c arguments) ≡ true
call_plain d (callee.Function k) arguments = plain-append (pass_items 0 arguments) (i.Call k (length arguments) ∷ result_items d) (passes_plain 0 arguments) (bare_plain (result_items d) (result_bare d))
call_plain d (callee.Builtin b) arguments = bare_plain (builtin_items d b arguments) (builtin_bare d b arguments)
