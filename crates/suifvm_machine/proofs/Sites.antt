-- What stands at a point of a program, by its table, and its number.
use Rattle.std.proofs.Common.{◌≡◌, ℕ, zero, suc, ◌+◌, List, [], ◌∷◌, ◌++◌, map, length, take, sum_by, Option, Some, None, refl, sym, ap, ◌∙◌, subst, append_assoc, append-nil, arith}
use Rattle.std.specs.Prelude.{slice_get, option_map}
use Rattle.std.proofs.Math.Nat.{zero-add}
use Rattle.std.proofs.lemmas.Option.{slice_get-map}
use Rattle.std.proofs.lemmas.List.Sums.{sum_by-cons}
use Rattle.suifvm_ir.specs.declared.insn.VmInsn.{VmInsn}
use Rattle.pass_core.specs.Functions.{count_of}
use Rattle.suifvm_meaning.specs.Behave.{FunctionCode, site_in_function, site_in_block, site_or_next, blocks_in, sizes_in, point_number, vm_code}
use Rattle.suifvm_machine.specs.declared.tables.BlockTable.{BlockTable}
use Rattle.suifvm_machine.specs.declared.tables.FunctionTable.{FunctionTable}
use Rattle.suifvm_machine.specs.declared.tables.ProgramTable.{ProgramTable}
use Rattle.suifvm_machine.specs.Tables.{block_insns, table_code, program_code, BlocksAreNumbered, FunctionsAreNumbered}

some_is : {A : Type 0} (a b : A) → (let x : Option A = Some a in x ≡ Some b) → a ≡ b
some_is a b h = cc

none_some : {A : Type 0} (b : A) → (let x : Option A = None in x ≡ Some b) → ⊥
none_some b h = cc

some_none : {A : Type 0} (b : A) → (let x : Option A = Some b in x ≡ None) → ⊥
some_none b h = cc

-- ---- tables that grow

pub numbered_more : (first next : ℕ) (blocks : List BlockTable) (table : BlockTable) → table.first ≡ next → ((rest : List BlockTable) (end : ℕ) → BlocksAreNumbered next rest end → BlocksAreNumbered first (blocks ++ rest) end) → (rest : List BlockTable) (end : ℕ) → BlocksAreNumbered (next + length (block_insns table)) rest end → BlocksAreNumbered first ((blocks ++ table ∷ []) ++ rest) end
numbered_more first next blocks table is before rest end h =
    subst (λ bs. BlocksAreNumbered first bs end) (sym (append_assoc blocks (table ∷ []) rest)) (before (table ∷ rest) end (is, h))

pub numbered_end : (first next : ℕ) (blocks : List BlockTable) → ((rest : List BlockTable) (end : ℕ) → BlocksAreNumbered next rest end → BlocksAreNumbered first (blocks ++ rest) end) → BlocksAreNumbered first blocks next
numbered_end first next blocks before = subst (λ bs. BlocksAreNumbered first bs next) (append-nil blocks) (before [] next refl)

pub all_numbered_more : (first next : ℕ) (tables : List FunctionTable) (table : FunctionTable) → BlocksAreNumbered next table.blocks.items table.end → ((rest : List FunctionTable) (end : ℕ) → FunctionsAreNumbered next rest end → FunctionsAreNumbered first (tables ++ rest) end) → (rest : List FunctionTable) (end : ℕ) → FunctionsAreNumbered table.end rest end → FunctionsAreNumbered first ((tables ++ table ∷ []) ++ rest) end
all_numbered_more first next tables table is before rest end h =
    subst (λ ts. FunctionsAreNumbered first ts end) (sym (append_assoc tables (table ∷ []) rest)) (before (table ∷ rest) end (is, h))

pub all_numbered_end : (first next : ℕ) (tables : List FunctionTable) → ((rest : List FunctionTable) (end : ℕ) → FunctionsAreNumbered next rest end → FunctionsAreNumbered first (tables ++ rest) end) → FunctionsAreNumbered first tables next
all_numbered_end first next tables before = subst (λ ts. FunctionsAreNumbered first ts next) (append-nil tables) (before [] next refl)

-- ---- the number of the first instruction of a block, and the end of a function and of the program

-- a sum behind two others, where the last two are a sum of one more
split : (a b c d : ℕ) → d ≡ b + c → (a + b) + c ≡ a + d
split a b c d is = omega (arith, is)

abbrev count_insns : List VmInsn → ℕ
count_insns block = length block

abbrev count_blocks : FunctionCode → ℕ
count_blocks f = count_of f.blocks

none_more : (a : ℕ) → a ≡ a + 0
none_more a = omega arith

abbrev blocks_of : List BlockTable → List (List VmInsn)
blocks_of bs = map block_insns bs

block_first : (n end : ℕ) (bs : List BlockTable) (b : ℕ) (row : BlockTable) → BlocksAreNumbered n bs end → slice_get bs b ≡ Some row → row.first ≡ n + count_of (take b (blocks_of bs))
block_first n end [] b row h is = absurd (none_some row is)
block_first n end (x ∷ bs) zero row h is = ap (λ (t : BlockTable). t.first) (sym (some_is x row is)) ∙ h.0 ∙ none_more n
block_first n end (x ∷ bs) (suc b) row h is =
    let rest : row.first ≡ (n + length (block_insns x)) + count_of (take b (blocks_of bs)) = block_first (n + length (block_insns x)) end bs b row h.1 is in
    rest ∙ split n (length (block_insns x)) (count_of (take b (blocks_of bs))) (count_of (take (suc b) (blocks_of (x ∷ bs)))) (sum_by-cons count_insns (block_insns x) (take b (blocks_of bs)))

blocks_end : (n end : ℕ) (bs : List BlockTable) (b : ℕ) → BlocksAreNumbered n bs end → slice_get bs b ≡ None → end ≡ n + count_of (take b (blocks_of bs))
blocks_end n end [] zero h is = sym h ∙ none_more n
blocks_end n end [] (suc b) h is = sym h ∙ none_more n
blocks_end n end (x ∷ bs) zero h is = absurd (some_none x is)
blocks_end n end (x ∷ bs) (suc b) h is =
    let rest : end ≡ (n + length (block_insns x)) + count_of (take b (blocks_of bs)) = blocks_end (n + length (block_insns x)) end bs b h.1 is in
    rest ∙ split n (length (block_insns x)) (count_of (take b (blocks_of bs))) (count_of (take (suc b) (blocks_of (x ∷ bs)))) (sum_by-cons count_insns (block_insns x) (take b (blocks_of bs)))

all_end : (n end : ℕ) (bs : List BlockTable) → BlocksAreNumbered n bs end → end ≡ n + count_of (blocks_of bs)
all_end n end [] h = sym h ∙ none_more n
all_end n end (x ∷ bs) h =
    let rest : end ≡ (n + length (block_insns x)) + count_of (blocks_of bs) = all_end (n + length (block_insns x)) end bs h.1 in
    rest ∙ split n (length (block_insns x)) (count_of (blocks_of bs)) (count_of (blocks_of (x ∷ bs))) (sum_by-cons count_insns (block_insns x) (blocks_of bs))

abbrev counted : ℕ → List FunctionTable → ℕ
counted f fs = sum_by (λ g. count_of g.blocks) (take f (map table_code fs))

function_first : (n end : ℕ) (fs : List FunctionTable) (f : ℕ) (t : FunctionTable) → FunctionsAreNumbered n fs end → slice_get fs f ≡ Some t → BlocksAreNumbered (n + counted f fs) t.blocks.items t.end
function_first n end [] f t h is = absurd (none_some t is)
function_first n end (x ∷ fs) zero t h is =
    subst (λ k. BlocksAreNumbered k t.blocks.items t.end) (none_more n) (subst (λ (u : FunctionTable). BlocksAreNumbered n u.blocks.items u.end) (some_is x t is) h.0)
function_first n end (x ∷ fs) (suc f) t h is =
    let next : x.end ≡ n + count_of (blocks_of x.blocks.items) = all_end n x.end x.blocks.items h.0 in
    let same : x.end + counted f fs ≡ n + counted (suc f) (x ∷ fs) =
    ap (λ k. k + counted f fs) next ∙ split n (count_of (blocks_of x.blocks.items)) (counted f fs) (counted (suc f) (x ∷ fs)) (sum_by-cons count_blocks (table_code x) (take f (map table_code fs))) in
    subst (λ k. BlocksAreNumbered k t.blocks.items t.end) same (function_first x.end end fs f t h.1 is)

functions_end : (n end : ℕ) (fs : List FunctionTable) (f : ℕ) → FunctionsAreNumbered n fs end → slice_get fs f ≡ None → end ≡ n + counted f fs
functions_end n end [] zero h is = sym h ∙ none_more n
functions_end n end [] (suc f) h is = sym h ∙ none_more n
functions_end n end (x ∷ fs) zero h is = absurd (some_none x is)
functions_end n end (x ∷ fs) (suc f) h is =
    let next : x.end ≡ n + count_of (blocks_of x.blocks.items) = all_end n x.end x.blocks.items h.0 in
    let rest : end ≡ x.end + counted f fs = functions_end x.end end fs f h.1 is in
    rest ∙ ap (λ k. k + counted f fs) next ∙ split n (count_of (blocks_of x.blocks.items)) (counted f fs) (counted (suc f) (x ∷ fs)) (sum_by-cons count_blocks (table_code x) (take f (map table_code fs)))

-- ---- points of a program

module _ (p : ProgramTable) where
  code_at : (f : ℕ) (o : Option FunctionTable) → slice_get p.functions.items f ≡ o → slice_get (program_code p) f ≡ option_map table_code o
  code_at f o is = slice_get-map table_code p.functions.items f ∙ ap (option_map table_code) is

  pub site_missing : (f b at : ℕ) → slice_get p.functions.items f ≡ None → (vm_code (program_code p)).site (record { function = f; block = b; at = at }) ≡ None
  site_missing f b at is = ap (site_in_function b at) (code_at f None is)

  module _ (f : ℕ) (t : FunctionTable) (there : slice_get p.functions.items f ≡ Some t) where
    pub blocks_are : blocks_in (slice_get (program_code p) f) ≡ blocks_of t.blocks.items
    blocks_are = ap blocks_in (code_at f (Some t) there)

    pub sizes_are : sizes_in (slice_get (program_code p) f) ≡ map (λ o. o.size) t.objects.now
    sizes_are = ap sizes_in (code_at f (Some t) there)

    row_at : (b at : ℕ) (o : Option BlockTable) → slice_get t.blocks.items b ≡ o → (vm_code (program_code p)).site (record { function = f; block = b; at = at }) ≡ site_in_block b at (option_map block_insns o)
    row_at b at o is =
        ap (site_in_function b at) (code_at f (Some t) there)
        ∙ ap (site_in_block b at) (slice_get-map block_insns t.blocks.items b ∙ ap (option_map block_insns) is)

    pub site_there : (b at : ℕ) (row : BlockTable) → slice_get t.blocks.items b ≡ Some row → (vm_code (program_code p)).site (record { function = f; block = b; at = at }) ≡ Some (site_or_next b (slice_get (block_insns row) at))
    site_there b at row is = row_at b at (Some row) is

    pub site_past : (b at : ℕ) → slice_get t.blocks.items b ≡ None → (vm_code (program_code p)).site (record { function = f; block = b; at = at }) ≡ None
    site_past b at is = row_at b at None is

    number_in : (b at : ℕ) → point_number (program_code p) (record { function = f; block = b; at = at }) ≡ counted f p.functions.items + count_of (take b (blocks_of t.blocks.items)) + at
    number_in b at = ap (λ bs. counted f p.functions.items + count_of (take b bs) + at) blocks_are

    module _ (numbers : FunctionsAreNumbered 0 p.functions.items p.end) where
      first : BlocksAreNumbered (counted f p.functions.items) t.blocks.items t.end
      first = subst (λ k. BlocksAreNumbered k t.blocks.items t.end) (zero-add (counted f p.functions.items)) (function_first 0 p.end p.functions.items f t numbers there)

      pub number_there : (b at : ℕ) (row : BlockTable) → slice_get t.blocks.items b ≡ Some row → point_number (program_code p) (record { function = f; block = b; at = at }) ≡ row.first + at
      number_there b at row is =
          let is_first : row.first ≡ counted f p.functions.items + count_of (take b (blocks_of t.blocks.items)) = block_first (counted f p.functions.items) t.end t.blocks.items b row first is in
          number_in b at ∙ ap (λ n. n + at) (sym is_first)

      pub number_past : (b : ℕ) → slice_get t.blocks.items b ≡ None → point_number (program_code p) (record { function = f; block = b; at = 0 }) ≡ t.end
      number_past b is =
          let last : t.end ≡ counted f p.functions.items + count_of (take b (blocks_of t.blocks.items)) = blocks_end (counted f p.functions.items) t.end t.blocks.items b first is in
          let none : counted f p.functions.items + count_of (take b (blocks_of t.blocks.items)) + 0 ≡ counted f p.functions.items + count_of (take b (blocks_of t.blocks.items)) = omega arith in
          number_in b 0 ∙ none ∙ sym last

  pub number_missing : (f : ℕ) → slice_get p.functions.items f ≡ None → FunctionsAreNumbered 0 p.functions.items p.end → point_number (program_code p) (record { function = f; block = 0; at = 0 }) ≡ p.end
  number_missing f is numbers =
      let none : counted f p.functions.items + 0 + 0 ≡ counted f p.functions.items = omega arith in
      none ∙ sym (functions_end 0 p.end p.functions.items f numbers is ∙ zero-add (counted f p.functions.items))
