-- What the options say, each by its value or, where it is not given, by what stands for it.
use Rattle.std.specs.Prelude.{ℕ, Bool, not, List, Option, Some, None, is_some, if◌then◌else◌, option_map, option_and_then, codes, bytes_eq}
use Rattle.std.specs.List.{list_all}
use Rattle.std.specs.Option.{option_map_or}
use Rattle.clap.specs.Words.{Row}
use Rattle.call_words.specs.declared.compile_options.Allocator.{Allocator}
use Rattle.call_words.specs.declared.compile_options.Allocator.TheVariants.{Binpack, Plain}
use Rattle.call_words.specs.declared.compile_options.Generation.{Generation}
use Rattle.call_words.specs.declared.compile_options.MachineLimits.{MachineLimits}
use Rattle.call_words.specs.declared.compile_options.Options.{Options}
use Rattle.call_words.specs.declared.compile_options.PassName.{PassName}
use Rattle.call_words.specs.declared.compile_options.PassName.TheVariants as pass
use Rattle.call_words.specs.declared.request.OptionName.{OptionName}
use Rattle.call_words.specs.declared.request.OptionName.TheVariants.{Pass, Alloc, Stack, Budget, Seed, Size}
use Rattle.call_words.specs.Limits.{default_stack, default_budget}
use Rattle.call_words.specs.Line.{option_in}
use Rattle.call_words.specs.Numbers.{stack_at, budget_at, text_seed_at, text_size_at}

-- none of these options is given
abbrev pub gives_none : List OptionName → List Row → Bool
gives_none names rows = list_all (λ name. not (is_some (option_in name rows))) names

-- what is asked for, where none of these options is given
abbrev pub unless_given : {A : Type 0} → List OptionName → List Row → Option A → Option A
unless_given names rows asked = if gives_none names rows then asked else None

-- the allocator of a compile that does not ask for one
abbrev pub default_allocator : Allocator
default_allocator = Binpack

-- the allocator, the pass, the stack and the budget of the words
abbrev pub allocator_at : List ℕ → Option Allocator
allocator_at word =
    if bytes_eq word (codes "binpack") then Some Binpack
    else if bytes_eq word (codes "plain") then Some Plain
    else None

abbrev pub allocator_in : List Row → Option Allocator
allocator_in rows = option_map_or allocator_at (option_in Alloc rows) (Some default_allocator)

abbrev pub options_in : List Row → Option Options
options_in rows = option_map (λ a. record { allocator = a }) (allocator_in rows)

abbrev pub pass_at : List ℕ → Option PassName
pass_at word =
    if bytes_eq word (codes "tree") then Some pass.Tree
    else if bytes_eq word (codes "vm") then Some pass.Vm
    else if bytes_eq word (codes "graph") then Some pass.Graph
    else if bytes_eq word (codes "select") then Some pass.Select
    else if bytes_eq word (codes "live") then Some pass.Live
    else if bytes_eq word (codes "alloc") then Some pass.Alloc
    else if bytes_eq word (codes "journal") then Some pass.Journal
    else if bytes_eq word (codes "asm") then Some pass.Asm
    else None

abbrev pub pass_in : List Row → Option PassName
pass_in rows = option_and_then pass_at (option_in Pass rows)

abbrev pub stack_in : List Row → Option ℕ
stack_in rows = option_map_or stack_at (option_in Stack rows) (Some default_stack)

abbrev pub budget_in : List Row → Option ℕ
budget_in rows = option_map_or budget_at (option_in Budget rows) (Some default_budget)

abbrev pub with_stack : ℕ → Option ℕ → Option MachineLimits
with_stack stack budget = option_map (λ n. record { stack = stack; budget = n }) budget

abbrev pub limits_in : List Row → Option MachineLimits
limits_in rows = option_and_then (λ stack. with_stack stack (budget_in rows)) (stack_in rows)

-- the seed and the size of a text that is made, which have to be given
abbrev pub seed_option_in : List Row → Option ℕ
seed_option_in rows = option_and_then text_seed_at (option_in Seed rows)

abbrev pub size_option_in : List Row → Option ℕ
size_option_in rows = option_and_then text_size_at (option_in Size rows)

abbrev pub generation_of : ℕ → ℕ → Options → MachineLimits → Generation
generation_of seed size options limits = record { seed = seed; size = size; options = options; limits = limits }

abbrev pub generation_in : List Row → Option Generation
generation_in rows =
    option_and_then (λ seed. option_and_then (λ size. option_and_then (λ options. option_map
    (generation_of seed size options) (limits_in rows)) (options_in rows)) (size_option_in rows)) (seed_option_in rows)
