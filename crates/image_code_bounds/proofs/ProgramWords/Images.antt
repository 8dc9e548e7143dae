-- The words of a text, and that they fit an image.
use Rattle.std.proofs.Common.{◌≡◌, ℕ, ◌+◌, ◌*◌, ◌≤◌, ◌++◌, length, refl, arith}
use Rattle.alpha_items.specs.Layout.{text_words}
use Rattle.alpha_asm.specs.declared.assemble.AsmFault.TheVariants.{CodeTooLong, NoMemory}
use Rattle.alpha_rt.specs.Items.{all_items}
use Rattle.image_code_bounds.specs.frame_words.Words.{most_words_of, TextsHaveMostWords}
use Rattle.image_assembly.specs.Programs.{start_items}
use Rattle.image_assembly.specs.Assemblies.{final_items, main_of}
use Rattle.image_assembly.specs.Layouts.{first_label}
use Rattle.image_code_bounds.specs.program_words.Words.{LaidOutFunctionsAreShort, TextsAreWithinWeight, LightTextsFitImages, OnlyMemoryIsShort}
use Rattle.image_code_bounds.proofs.ProgramWords.Parts.{words_join, routine_words, start_words}
use Rattle.image_code_bounds.proofs.ProgramWords.Functions.{weights, finals_short}

counted : (text all finals start routines w : ℕ) → text ≤ all → all ≡ 6 + start → start ≡ finals + routines → routines ≡ 218 → finals ≤ 2048 * w → text ≤ 2048 * (1 + w)
counted text all finals start routines w a b c d e = omega (arith, a, b, c, d, e)

pub texts_are_within_weight : TextsHaveMostWords → LaidOutFunctionsAreShort → TextsAreWithinWeight
texts_are_within_weight texts short unit globals allocations finals light laid far =
    let items = start_items (main_of finals) (final_items finals ++ all_items) in
    let most = texts items far in
    let start = start_words (main_of finals) (final_items finals ++ all_items) in
    let joined = words_join (final_items finals) all_items in
    let functions = finals_short short unit.structs globals 0 (first_label (length allocations)) unit.functions allocations finals light.count light.lists light.lean light.near light.bulks laid in
    counted (text_words items far) (most_words_of items) (most_words_of (final_items finals)) (most_words_of (final_items finals ++ all_items)) (most_words_of all_items) (weights unit.structs unit.functions) most start joined routine_words functions

pub light_texts_fit_images : TextsAreWithinWeight → LightTextsFitImages
light_texts_fit_images within unit globals allocations finals light laid few = record {
  most = λ n has. let words = within unit globals allocations finals light laid has.far in let is = has.words in omega (arith, words, is, few);
}

pub only_memory_is_short : OnlyMemoryIsShort
only_memory_is_short asm (CodeTooLong n) few h = let most = few.most n h.0 in let more = h.1 in absurd (omega (arith, most, more))
only_memory_is_short asm NoMemory few h = (refl, h)
