-- The image of an assembly with the items of a program behaves as the program.
use Rattle.std.proofs.Common.{◌≡◌, ℕ, suc, inl, inr, ◌+◌, ◌<◌, ◌≤◌, true, List, [], ◌∷◌, ◌++◌, Option, Some, None, length, map, drop, refl, sym, ap, ◌∙◌, subst, arith}
use Rattle.std.specs.Prelude.{slice_get, All, IsTrue, position, unwrap_or}
use Rattle.std.proofs.lemmas.List.Quantifiers.{position-Some}
use Rattle.alpha_isa.specs.declared.insn.BranchOp.TheVariants.{Bsr}
use Rattle.alpha_isa.specs.Program.{Program, IsLawful, data_of, data_start, stack_start}
use Rattle.alpha_isa.specs.Behave.{IsStack}
use Rattle.alpha_items.specs.declared.item.AsmItem.{AsmItem}
use Rattle.alpha_items.specs.declared.item.AsmItem.TheVariants.{Branch}
use Rattle.alpha_items.specs.Assembly.{Assembly, IsWhole}
use Rattle.alpha_items.specs.Layout.{label_place, text_words}
use Rattle.alpha_items.specs.Words.{fixed_data, Words}
use Rattle.alpha_items.proofs.Unique.{length-words}
use Rattle.frame_steps.specs.item_steps.Standing.{Labels, ItemsAt, HasLabel, StandsInTwo}
use Rattle.frame_steps.proofs.ItemSteps.Standing.{parts_stand, labels_are_words, labels_stand, ahead}
use Rattle.mem_model.specs.World.{Rooms}
use Rattle.mem_model.specs.Ending.{Ending, ending_peak}
use Rattle.pass_core.specs.Functions.{insn_in, insn_at}
use Rattle.cfg_edges.specs.Critical.{NoneCritical}
use Rattle.temp_ir.specs.Insns.{targets_of, flows_on_of}
use Rattle.temp_ir.specs.declared.insn.TempInsn.{TempInsn}
use Rattle.temp_ir.specs.declared.insn.TempInsn.TheVariants as i
use Rattle.temp_ir.specs.declared.program.TempProgram.{TempProgram}
use Rattle.temp_ir.specs.Programs.{TempFn, is_main, main_count, names_what_is_there, IsLawfulTempFn}
use Rattle.alloc_model.specs.declared.allocation.Allocation.{Allocation}
use Rattle.alloc_model.specs.Temporaries.{TemporaryCode, code_of, main_of, TempsEnd}
use Rattle.alloc_model.specs.Places.{Plan, registers_at}
use Rattle.mem_model.specs.Bytes.{AreBytes}
use Rattle.frame_memory.specs.flat_frames.Shapes.{FrameShape}
use Rattle.frame_steps.specs.frame_transfers.Items.{items_of_transfers}
use Rattle.frame_steps.specs.instruction_items.Items.{function_label}
use Rattle.frame_steps.specs.instruction_items.Laws.{IsThere}
use Rattle.frame_simulation.specs.edge_leads.Leaving.{ending_items}
use Rattle.image_theorem.specs.routine_places.Divisions.{RoutinesStand}
use Rattle.frame_simulation.specs.edge_leads.Items.{top_transfers, end_transfers, insns_items, blocks_items, exit_items, function_items}
use Rattle.frame_simulation.specs.edge_leads.Laws.{FunctionStands}
use Rattle.frame_simulation.proofs.EdgeLeads.Standing.{functions_stand}
use Rattle.frame_simulation.proofs.FlatSteps.Paid.{has-behind}
use Rattle.frame_simulation.proofs.FlatSteps.Lists.{stands-at}
use Rattle.image_theorem.specs.image_runs.Builds.{Build, any_call, EdgesLead, FunctionIsBuilt}
use Rattle.frame_simulation.specs.edge_leads.Leads.{AreBlocks, BranchesGoApart}
use Rattle.frame_simulation.proofs.EdgeLeads.Apart.{split_branches_go_apart}
use Rattle.frame_simulation.proofs.EdgeLeads.Leads.{edges_lead}
use Rattle.frame_memory.specs.flat_globals.Globals.{AreLaidOut, DataIs, extents_of}
use Rattle.frame_memory.proofs.FlatGlobals.LaidOut.{lawful_ones_are_laid_out}
use Rattle.frame_memory.specs.global_data.GlobalBytes.{global_bytes}
use Rattle.frame_memory.proofs.GlobalData.Holds.{data_holds_objects}
use Rattle.image_theorem.proofs.RoutinePlaces.Stand.{routines_stand}
use Rattle.image_theorem.specs.image_runs.Images.{IsImageOf, ImagesKeep}
use Rattle.image_theorem.specs.program_images.Programs.{plans_of, IsAllocated, ProgramPlacement, start_items, HasItemsOf, ImageBehaves}
use Rattle.image_theorem.proofs.ProgramImages.Lists.{all-get, get-map, MappedFrom, mapped_from, map-size}
use Rattle.image_theorem.proofs.ProgramImages.Standing.{InsnStands, behind-transfers, insn-stands}
use Rattle.image_theorem.proofs.ProgramImages.Names.{is-there, called-there}

-- a program has a function `main`
main-below : (functions : List TempFn) → main_count functions ≡ 1 → main_of functions < length functions
main-below [] e = absurd (cc)
main-below (f ∷ functions) e = by_place (position is_main (f ∷ functions)) refl
  where
    by_place : (o : Option ℕ) → position is_main (f ∷ functions) ≡ o → unwrap_or o 0 < length (f ∷ functions)
    by_place None is = omega arith
    by_place (Some k) is = (position-Some is_main (f ∷ functions) k f is).0

-- the label of a function stands behind the start piece
behind-start : (main f : ℕ) (rest : List AsmItem) → HasLabel (function_label f) (start_items main rest) → HasLabel (function_label f) rest
behind-start main f rest (inl is) = let zero-is : 0 ≡ 256 + f = cc in absurd (omega (arith, zero-is))
behind-start main f rest (inr (inl is)) = absurd (cc)
behind-start main f rest (inr (inr (inl is))) = absurd (cc)
behind-start main f rest (inr (inr (inr (inl is)))) = absurd (cc)
behind-start main f rest (inr (inr (inr (inr (inl is))))) = absurd (cc)
behind-start main f rest (inr (inr (inr (inr (inr has))))) = has

-- an instruction stands in a block
record InsnStandsAt (blocks : List (List TempInsn)) (block at : ℕ) (x : TempInsn) : Type 0 where
  insns : List TempInsn
  there : slice_get blocks block ≡ Some insns
  is : slice_get insns at ≡ Some x

placed : (blocks : List (List TempInsn)) (block at : ℕ) (x : TempInsn) → insn_at blocks block at ≡ Some x → InsnStandsAt blocks block at x
placed blocks block at x e = by_block (slice_get blocks block) refl e
  where
    by_block : (o : Option (List TempInsn)) → slice_get blocks block ≡ o → insn_in o at ≡ Some x → InsnStandsAt blocks block at x
    by_block None there f = absurd (cc)
    by_block (Some insns) there f = record { insns = insns; there = there; is = f }

module _ (asm : Assembly) (p : Program) (lawful : IsLawful p) (whole : IsWhole asm) (w : Words asm p) (program : TempProgram) (allocations : List Allocation) (rooms : Rooms) (q : ProgramPlacement) (allocated : IsAllocated program allocations rooms) (has : HasItemsOf asm program (plans_of allocations) q) (stack : ℕ) (is_stack : IsStack stack) where
  abbrev there : Labels
  there = label_place asm.items w.far

  abbrev plans : List Plan
  plans = plans_of allocations

  abbrev main : ℕ
  main = main_of program.functions

  -- the call of `main` and the end of the run stand at the entry
  start-stands : StandsInTwo p there (there 0) (Branch Bsr 26 (function_label main) ∷ ending_items) q.after_start (text_words asm.items w.far)
  start-stands = parts_stand p there (there 0) (text_words asm.items w.far) (Branch Bsr 26 (function_label main) ∷ ending_items) q.after_start
      (labels_stand asm p lawful whole w [] (Branch Bsr 26 (function_label main) ∷ (ending_items ++ q.after_start)) 0 has.start)

  abbrev b : Build
  b = record {
    program = p;
    there = there;
    start = record { behind = ending_items; end = start-stands.middle; top = stack_start p + stack };
    plans = plans;
    rooms = rooms;
    setting = q.setting;
    behind = q.behind;
    end = text_words asm.items w.far;
    globals = extents_of (data_start p) program.globals;
  }

  routines : RoutinesStand p there
  routines = routines_stand asm p whole w q.before_routines q.behind_routines has.routines

  -- the data of the image holds the objects
  data_is : DataIs program.globals (data_start p) (data_of p)
  data_is =
      let words = lawful.words in
      let size = ap (λ (l : List ℕ). length l) has.bytes in
      let most = whole.bytes in
      subst (λ (l : List ℕ). DataIs program.globals (data_start p) l) (sym (w.data_bytes ∙ ap (λ l. fixed_data (data_start p) l asm.fixes) has.bytes ∙ ap (fixed_data (data_start p) (global_bytes program.globals)) has.fixes))
      (data_holds_objects program.globals (data_start p) program.globals_lawful (omega (arith, words, size, most)))

  laid : AreLaidOut program.globals
  laid = lawful_ones_are_laid_out program.globals program.globals_lawful

  -- ---- a function

  same-count : length program.functions ≡ length plans
  same-count = sym (map-size code_of program.functions) ∙ ap length allocated.functions ∙ map-size (λ (a : Plan). a.function) plans

  module _ (f : ℕ) (a : Plan) (is : slice_get plans f ≡ Some a) where
    -- the function of the program
    source : MappedFrom code_of program.functions f a.function
    source = mapped_from code_of program.functions f a.function (ap (λ l. slice_get l f) allocated.functions ∙ get-map (λ (z : Plan). z.function) plans f a is)

    source-lawful : IsLawfulTempFn program.functions program.globals source.one
    source-lawful = all-get (IsLawfulTempFn program.functions program.globals) program.functions f source.one program.functions_lawful source.there

    same-blocks : source.one.blocks ≡ a.function.blocks
    same-blocks = ap (λ (c : TemporaryCode). c.blocks) source.is

    are-blocks : AreBlocks a.function.blocks
    are-blocks = subst AreBlocks same-blocks (record { targets = source.one.targets; marks = source-lawful.marks; straight = source.one.straight; stops_there = source.one.stops })

    apart : BranchesGoApart a.function.blocks
    apart = split_branches_go_apart a.function.blocks (subst (λ (bs : List (List TempInsn)). NoneCritical targets_of flows_on_of bs) same-blocks (allocated.split f source.one source.there))

    leads : EdgesLead a
    leads = edges_lead a (allocated.faithful.each f a is).lists are-blocks apart

    stands : FunctionStands p there a (q.setting f) f (q.behind f) (text_words asm.items w.far)
    stands = functions_stand asm p lawful whole w (q.front f) (q.behind f) a (q.setting f) f (has.functions f a is)

    named : (block at : ℕ) (x : TempInsn) → insn_at a.function.blocks block at ≡ Some x → names_what_is_there program.functions program.globals source.one.objects x ≡ true
    named block at x e =
        let z = placed source.one.blocks block at x (ap (λ (bs : List (List TempInsn)). insn_at bs block at) same-blocks ∙ e) in
        all-get (λ y. IsTrue (names_what_is_there program.functions program.globals source.one.objects y)) z.insns at x
        (all-get (All (λ y. IsTrue (names_what_is_there program.functions program.globals source.one.objects y))) source.one.blocks block z.insns source-lawful.names z.there) z.is

    -- an instruction stands in the image
    insn-there : (block at : ℕ) (x : TempInsn) → insn_at a.function.blocks block at ≡ Some x → InsnStands p there (q.setting f) (registers_at a block (0 + at)) x (text_words asm.items w.far)
    insn-there block at x e =
        let z = placed a.function.blocks block at x e in
        let tail = items_of_transfers (q.setting f).shape (end_transfers a block z.insns) (blocks_items a (q.setting f) (suc block) (drop (suc block) a.function.blocks) (exit_items (q.setting f) (q.behind f))) in
        insn-stands p there (text_words asm.items w.far) a (q.setting f) block 0 z.insns (items_of_transfers (q.setting f).shape (end_transfers a block z.insns) (blocks_items a (q.setting f) (suc block) (drop (suc block) a.function.blocks) (exit_items (q.setting f) (q.behind f)))) at x z.is
        (behind-transfers p there (text_words asm.items w.far) (q.setting f).shape (top_transfers a block) (insns_items a (q.setting f) block 0 z.insns (items_of_transfers (q.setting f).shape (end_transfers a block z.insns) (blocks_items a (q.setting f) (suc block) (drop (suc block) a.function.blocks) (exit_items (q.setting f) (q.behind f)))))
        (record { word = there ((q.setting f).block_label block); items_at = stands.blocks block z.insns z.there }))

    names : (block at : ℕ) (x : TempInsn) → insn_at a.function.blocks block at ≡ Some x → IsThere p (q.setting f) (any_call b f) x
    names block at x e =
        let sizes : (q.setting f).shape.sizes ≡ map (λ o. o.size) source.one.objects = ap (λ (s : FrameShape). s.sizes) (has.shapes f a is) ∙ sym (ap (λ (c : TemporaryCode). c.sizes) source.is) in
        is-there p lawful program.globals laid data_is (q.setting f) (has.offsets f a is) (any_call b f) refl source.one.objects sizes there (text_words asm.items w.far) (registers_at a block (0 + at)) program.functions x (named block at x e) (insn-there block at x e)

    calls : (block at function arguments : ℕ) → insn_at a.function.blocks block at ≡ Some (i.Call function arguments) → function < length plans
    calls block at function arguments e =
        let below = called-there program.functions function arguments (slice_get program.functions function) refl (named block at (i.Call function arguments) e) in
        let count = same-count in
        omega (arith, below, count)

    function-built : FunctionIsBuilt b f a
    function-built = record {
      stands = stands;
      shape = has.shapes f a is;
      faithful = allocated.faithful.each f a is;
      edges = leads;
      small = allocated.frames f a is;
      room = allocated.room f a is;
      names = names;
      calls = calls;
    }

  -- ---- the program

  -- `main` stands behind the start piece
  main-behind : HasLabel (function_label main) q.after_start
  main-behind =
      let z = stands-at plans main (let below = main-below program.functions program.one_main in let count = same-count in omega (arith, below, count)) in
      let back = function_items z.one (q.setting main) main (q.behind main) in
      behind-start main main q.after_start
      (subst (HasLabel (function_label main)) (sym (has.functions main z.one z.is) ∙ has.start) (has-behind (function_label main) (q.front main) back (inl refl)))

  image-of : IsImageOf b program allocations stack
  image-of = record {
    plans = refl;
    functions = allocated.functions;
    built = record {
      functions = function-built;
      routines = routines;
      ending = refl;
      top = (let words = lawful.words in let bytes = lawful.bytes in let most = is_stack.most in omega (arith, words, bytes, most));
      within = (let count = length-words asm p w in omega (arith, count));
    };
    begun = record {
      lawful = lawful;
      labels = labels_are_words asm p w;
      entry = subst (λ n. ItemsAt p there n (Branch Bsr 26 (function_label main) ∷ ending_items) start-stands.middle) (sym w.entry) start-stands.first;
      main_ahead = ahead p there (function_label main) q.after_start start-stands.middle (text_words asm.items w.far) start-stands.second main-behind;
      main_there = (let below = main-below program.functions program.one_main in let count = same-count in omega (arith, below, count));
      is_stack = is_stack;
      top = refl;
      laid_out = laid;
      data_is = data_is;
      extents = refl;
    };
  }

  behaves : ImagesKeep → (input : List ℕ) → AreBytes input → (turns : ℕ) (e : Ending) → TempsEnd rooms program input turns e → ending_peak e ≤ stack → ImageBehaves p plans stack input turns e
  behaves keep input bytes turns e temps peak =
      let d = keep b program allocations stack image-of input bytes turns e temps peak in
      record { behaves = d.behaves; only = d.only }

pub programs_behave : ImagesKeep → (asm : Assembly) (p : Program) → IsLawful p → IsWhole asm → (w : Words asm p) → (program : TempProgram) (allocations : List Allocation) (rooms : Rooms) (q : ProgramPlacement) → IsAllocated program allocations rooms → HasItemsOf asm program (plans_of allocations) q → (stack : ℕ) → IsStack stack → (input : List ℕ) → AreBytes input → (turns : ℕ) (e : Ending) → TempsEnd rooms program input turns e → ending_peak e ≤ stack → ImageBehaves p (plans_of allocations) stack input turns e
programs_behave keep asm p lawful whole w program allocations rooms q allocated has stack is_stack input bytes turns e temps peak =
    behaves asm p lawful whole w program allocations rooms q allocated has stack is_stack keep input bytes turns e temps peak
