-- The assembly of a program has the items of the program.
use Rattle.std.proofs.Common.{◌≡◌, ℕ, zero, suc, ◌+◌, List, [], ◌∷◌, ◌++◌, Some, length, take, drop, map, refl, sym, ap, ◌∙◌, arith, append-nil}
use Rattle.std.specs.Prelude.{sum_by, slice_get, slice_index_or}
use Rattle.std.proofs.lemmas.List.Sums.{sum_by-cons}
use Rattle.alpha_items.specs.declared.item.AsmItem.{AsmItem}
use Rattle.alpha_items.specs.declared.item.AsmItem.TheVariants.{Name}
use Rattle.alpha_rt.specs.Items.{all_items}
use Rattle.mem_objects.specs.declared.DataObject.{DataObject}
use Rattle.temp_ir.specs.declared.program.TempProgram.{TempProgram}
use Rattle.alloc_model.specs.declared.allocation.Allocation.{Allocation}
use Rattle.alloc_model.specs.Temporaries.{main_of}
use Rattle.alloc_model.specs.Places.{Plan, plan_of}
use Rattle.frame_steps.specs.instruction_items.Items.{ItemSetting}
use Rattle.frame_steps.specs.function_items.Items.{function_items}
use Rattle.frame_bounds.specs.Shapes.{shape_of}
use Rattle.frame_bounds.specs.Settings.{setting_of, global_offset}
use Rattle.frame_bounds.proofs.Fronts.{function_front}
use Rattle.image_assembly.specs.Programs.{HasItemsOf, plans_of, start_items}
use Rattle.image_assembly.specs.Layouts.{first_label, label_count}
use Rattle.image_assembly_laws.specs.ProgramAssembly.{functions_items, program_assembly}
use Rattle.image_assembly_laws.specs.Laws.{no_plan, label_behind, setting_at, placement_of, AssembliesHavePrograms}

-- ---- lists

index-is : {X Y : Type 0} (f : X → Y) (xs : List X) (k : ℕ) (x : X) (d : Y) → slice_get xs k ≡ Some x → slice_index_or (map f xs) k d ≡ f x
index-is f [] k x d e = absurd (cc)
index-is f (y ∷ xs) zero x d e = let is : y ≡ x = cc in ap f is
index-is f (y ∷ xs) (suc k) x d e = index-is f xs k x d e

-- an allocation with a plan
pub record PlannedAllocation (allocations : List Allocation) (k : ℕ) (a : Plan) : Type 0 where
  pub one : Allocation
  pub there : slice_get allocations k ≡ Some one
  pub is : plan_of one ≡ a

pub planned_at : (allocations : List Allocation) (k : ℕ) (a : Plan) → slice_get (plans_of allocations) k ≡ Some a → PlannedAllocation allocations k a
planned_at [] k a e = absurd (cc)
planned_at (x ∷ xs) zero a e = let is : plan_of x ≡ a = cc in record { one = x; there = refl; is = is }
planned_at (x ∷ xs) (suc k) a e = let h = planned_at xs k a e in record { one = h.one; there = h.there; is = h.is }

-- ---- items in front of others

functions-front : (globals : List DataObject) (number first : ℕ) (allocations : List Allocation) (a b : List AsmItem) → functions_items globals number first allocations a ++ b ≡ functions_items globals number first allocations (a ++ b)
functions-front globals number first [] a b = refl
functions-front globals number first (x ∷ xs) a b =
    ap (λ zs. Name x.func.name ∷ zs)
    (function_front (plan_of x) (setting_of (plan_of x) globals first) number (functions_items globals (suc number) (first + label_count x) xs a) b
    ∙ ap (function_items (plan_of x) (setting_of (plan_of x) globals first) number) (functions-front globals (suc number) (first + label_count x) xs a b))

-- ---- where a function stands

-- the items of an allocation's function with a number and a first label, in front of those of others with a first label
abbrev own_items : List DataObject → (number first next : ℕ) → Allocation → List Allocation → (rest : List AsmItem) → List AsmItem
own_items globals number first next x others rest =
    function_items (plan_of x) (setting_of (plan_of x) globals first) number (functions_items globals (suc number) next others rest)

stands-at : (globals : List DataObject) (number first : ℕ) (allocations : List Allocation) (k : ℕ) (x : Allocation) (n m e : ℕ) (rest : List AsmItem) → slice_get allocations k ≡ Some x → n ≡ number + k
    → m ≡ first + sum_by label_count (take k allocations) → e ≡ first + sum_by label_count (take (suc k) allocations)
    → functions_items globals number first allocations rest ≡ functions_items globals number first (take k allocations) (Name x.func.name ∷ []) ++ own_items globals n m e x (drop (suc k) allocations) rest
stands-at globals number first [] k x n m e rest there at label next = absurd (cc)
stands-at globals number first (a ∷ allocations) zero x n m e rest there at label next =
    let is : a ≡ x = cc in
    let one = sum_by-cons label_count a [] in
    let same_number : number ≡ n = omega (arith, at) in
    let same_label : first ≡ m = omega (arith, label) in
    let same_next : first + label_count a ≡ e = omega (arith, next, one) in
    ap (λ z. Name a.func.name ∷ own_items globals number first z a allocations rest) same_next
    ∙ ap (λ z. Name a.func.name ∷ own_items globals number z e a allocations rest) same_label
    ∙ ap (λ z. Name a.func.name ∷ own_items globals z m e a allocations rest) same_number
    ∙ ap (λ (y : Allocation). Name y.func.name ∷ own_items globals n m e y allocations rest) is
stands-at globals number first (a ∷ allocations) (suc k) x n m e rest there at label next =
    let before = sum_by-cons label_count a (take k allocations) in
    let with = sum_by-cons label_count a (take (suc k) allocations) in
    let later = functions_items globals (suc number) (first + label_count a) (take k allocations) (Name x.func.name ∷ []) in
    let behind = own_items globals n m e x (drop (suc k) allocations) rest in
    ap (λ zs. Name a.func.name ∷ function_items (plan_of a) (setting_of (plan_of a) globals first) number zs)
    (stands-at globals (suc number) (first + label_count a) allocations k x n m e rest there (omega (arith, at)) (omega (arith, label, before)) (omega (arith, next, with)))
    ∙ ap (λ zs. Name a.func.name ∷ zs) (sym (function_front (plan_of a) (setting_of (plan_of a) globals first) number later behind))

-- ---- all parts

module _ (program : TempProgram) (allocations : List Allocation) where
  abbrev first : ℕ
  first = first_label (length allocations)

  place-is : (f : ℕ) (a : Plan) → slice_get (plans_of allocations) f ≡ Some a → slice_index_or (plans_of allocations) f no_plan ≡ a
  place-is f a e = let p = planned_at allocations f a e in index-is plan_of allocations f p.one no_plan p.there ∙ p.is

  -- the items of a function with a plan, as the placement has them
  abbrev placed : (f : ℕ) (a : Plan) (name : List ℕ) (g : ItemSetting) → List AsmItem
  placed f a name g =
      functions_items program.globals 0 first (take f allocations) (Name name ∷ [])
      ++ function_items a g f (functions_items program.globals (suc f) (label_behind allocations (suc f)) (drop (suc f) allocations) all_items)

  function-at : (f : ℕ) (a : Plan) → slice_get (plans_of allocations) f ≡ Some a →
      (program_assembly program allocations).items ≡ (placement_of program allocations).front f ++ function_items a (setting_at program.globals allocations f) f ((placement_of program allocations).behind f)
  function-at f a e =
      let p = planned_at allocations f a e in
      let number : f ≡ 0 + f = omega arith in
      let name = index-is (λ (x : Allocation). x.func.name) allocations f p.one [] p.there in
      ap (start_items (main_of program.functions))
      (stands-at program.globals 0 first allocations f p.one f (label_behind allocations f) (label_behind allocations (suc f)) all_items p.there number refl refl
      ∙ ap (λ q. placed f q p.one.func.name (setting_of q program.globals (label_behind allocations f))) p.is
      ∙ ap (λ n. placed f a n (setting_of a program.globals (label_behind allocations f))) (sym name)
      ∙ ap (λ q. placed f a (slice_index_or (map (λ (x : Allocation). x.func.name) allocations) f []) (setting_of q program.globals (label_behind allocations f))) (sym (place-is f a e)))

  pub has-items : HasItemsOf (program_assembly program allocations) program (plans_of allocations) (placement_of program allocations)
  has-items = record {
    start = refl;
    functions = function-at;
    shapes = λ f a e. ap shape_of (place-is f a e);
    routines = ap (start_items (main_of program.functions))
        (sym (functions-front program.globals 0 first allocations [] (all_items ++ [])
        ∙ ap (functions_items program.globals 0 first allocations) (append-nil all_items)));
    bytes = refl;
    fixes = refl;
    offsets = λ f a e k o there. ap global_offset there;
  }

pub assemblies-have : AssembliesHavePrograms
assemblies-have program allocations = has-items program allocations
