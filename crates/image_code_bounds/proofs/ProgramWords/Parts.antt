-- The words of the parts of a text.
use Rattle.std.proofs.Common.{◌≡◌, ℕ, ◌+◌, ◌≤◌, List, [], ◌∷◌, ◌++◌, refl, sym, subst, arith}
use Rattle.alpha_items.specs.declared.item.AsmItem.{AsmItem}
use Rattle.alpha_items.specs.declared.item.AsmItem.TheVariants.{Name}
use Rattle.alpha_rt.specs.Items.{all_items}
use Rattle.temp_ir.specs.Cost.{bulk}
use Rattle.alloc_model.specs.Places.{plan_of}
use Rattle.image_code_bounds.specs.frame_words.Words.{most_words_of, LeanFunctionsAreShort}
use Rattle.frame_steps.specs.function_items.Items.{function_items}
use Rattle.frame_bounds.specs.Settings.{setting_of}
use Rattle.image_assembly_laws.proofs.AllocationLaws.Near.{plan_same}
use Rattle.image_assembly.specs.Programs.{start_items}
use Rattle.image_code_bounds.specs.program_words.Words.{StartsAreShort, LaidOutFunctionsAreShort}

pub words_join : (xs ys : List AsmItem) → most_words_of (xs ++ ys) ≡ most_words_of xs + most_words_of ys
words_join [] ys = omega arith
words_join (x ∷ xs) ys = let rest = words_join xs ys in omega (arith, rest)

-- ---- the start piece and the division routines

pub routine_words : most_words_of all_items ≡ 218
routine_words = refl

pub start_words : (main : ℕ) (rest : List AsmItem) → most_words_of (start_items main rest) ≡ 6 + most_words_of rest
start_words main rest = omega arith

pub starts_are_short : StartsAreShort
starts_are_short main = let e = start_words main all_items in let n = routine_words in omega (arith, e, n)

-- ---- a function

pub function_short : LeanFunctionsAreShort → LaidOutFunctionsAreShort
function_short short globals number first a f lists lean near laid =
    let same = plan_same (plan_of a) near in
    let words : most_words_of (function_items (plan_of a) (setting_of (plan_of a) globals first) number []) ≤ bulk a.func + 0 =
    short (plan_of a) (setting_of (plan_of a) globals first) number [] lean lists a.func.straight in
    let named : most_words_of (Name a.func.name ∷ function_items (plan_of a) (setting_of (plan_of a) globals first) number []) ≤ bulk a.func = omega (arith, words) in
    subst (λ xs. most_words_of xs ≤ bulk a.func) (sym laid.items)
    (subst (λ p. most_words_of (Name a.func.name ∷ function_items p (setting_of p globals first) number []) ≤ bulk a.func) (sym same) named)
