-- What the test of instructions decides, and all that is asked.
use Rattle.std.proofs.Common.{◌≡◌, ℕ, ◌+◌, ◌≤◌, ◌^◌, Bool, true, List, [], ◌∷◌, refl, arith}
use Rattle.std.specs.Prelude.{◌&&◌, nat_lt, nat_le, IsTrue, All, ◌↔◌}
use Rattle.std.specs.Bool.{Decides}
use Rattle.std.specs.List.{list_all}
use Rattle.std.proofs.lemmas.Bool.{ltb-true, lt-ltb, leb-true, le-leb, and_parts, and_from}
use Rattle.std.proofs.lemmas.Bool.Decides.{Decides-by_and}
use Rattle.std.proofs.lemmas.List.Elements.{All-head, All-tail, All-cons, All-nil}
use Rattle.mem_objects.specs.declared.DataObject.{DataObject}
use Rattle.pass_core.specs.declared.function.MemoryLocal.{MemoryLocal}
use Rattle.pass_core.specs.Functions.{AllInsns}
use Rattle.temp_ir.specs.declared.insn.TempInsn.{TempInsn}
use Rattle.temp_ir.specs.declared.insn.TempInsn.TheVariants as i
use Rattle.alloc_model.specs.declared.allocation.Allocation.{Allocation}
use Rattle.alloc_model.specs.Effect.{width_of, widest_in, widest_call}
use Rattle.frame_layout.specs.Names.{NamesObjects, CallsBelow}
use Rattle.frame_layout.specs.Conditions.{CanBeLaidOut}
use Rattle.frame_checks.specs.model.Asked.{is_asked}
use Rattle.frame_checks.specs.model.Storage.{lie_from, are_small_from}
use Rattle.frame_checks.specs.model.Tests.{Numbers, names_fit}
use Rattle.frame_checks.proofs.Storage.{small_decides, lie_decides}

-- ---- instructions

record IsAsked (globals : List DataObject) (objects : List MemoryLocal) (first : ℕ) (x : TempInsn) : Type 0 where
  calls : CallsBelow first x
  names : NamesObjects globals objects x
  width : width_of x ≤ 2 ^ 24

module _ (globals : List DataObject) (objects : List MemoryLocal) (first : ℕ) where
  asked-from : (x : TempInsn) → is_asked globals objects first x ≡ true → IsAsked globals objects first x
  asked-from (i.ObjectAddress destination place plus) e = record { calls = tt; names = e; width = omega arith }
  asked-from (i.Call function arguments) e =
      let both = and_parts (nat_lt (256 + function) first) (nat_le arguments (2 ^ 24)) e in
      record { calls = ltb-true (256 + function) first both.0; names = tt; width = leb-true arguments (2 ^ 24) both.1 }
  asked-from (i.Address op destination base plus) e = record { calls = tt; names = tt; width = omega arith }
  asked-from (i.Load op destination pointer plus) e = record { calls = tt; names = tt; width = omega arith }
  asked-from (i.Store op value pointer plus) e = record { calls = tt; names = tt; width = omega arith }
  asked-from (i.Operate op destination left right) e = record { calls = tt; names = tt; width = omega arith }
  asked-from (i.Extend op destination source) e = record { calls = tt; names = tt; width = omega arith }
  asked-from (i.ToFixed register source) e = record { calls = tt; names = tt; width = omega arith }
  asked-from (i.FromFixed destination register) e = record { calls = tt; names = tt; width = omega arith }
  asked-from (i.SetFixed register number) e = record { calls = tt; names = tt; width = omega arith }
  asked-from (i.WriteArgument number source) e = record { calls = tt; names = tt; width = omega arith }
  asked-from (i.ReadArgument destination number) e = record { calls = tt; names = tt; width = omega arith }
  asked-from (i.Branch op source block) e = record { calls = tt; names = tt; width = omega arith }
  asked-from (i.Jump block) e = record { calls = tt; names = tt; width = omega arith }
  asked-from (i.Divide routine) e = record { calls = tt; names = tt; width = omega arith }
  asked-from (i.Serve service) e = record { calls = tt; names = tt; width = omega arith }
  asked-from (i.Return with_value) e = record { calls = tt; names = tt; width = omega arith }
  asked-from i.Mark e = record { calls = tt; names = tt; width = omega arith }

  asked-if : (x : TempInsn) → IsAsked globals objects first x → is_asked globals objects first x ≡ true
  asked-if (i.ObjectAddress destination place plus) h = h.names
  asked-if (i.Call function arguments) h =
      and_from (nat_lt (256 + function) first) (nat_le arguments (2 ^ 24)) (lt-ltb (256 + function) first h.calls) (le-leb arguments (2 ^ 24) h.width)
  asked-if (i.Address op destination base plus) h = refl
  asked-if (i.Load op destination pointer plus) h = refl
  asked-if (i.Store op value pointer plus) h = refl
  asked-if (i.Operate op destination left right) h = refl
  asked-if (i.Extend op destination source) h = refl
  asked-if (i.ToFixed register source) h = refl
  asked-if (i.FromFixed destination register) h = refl
  asked-if (i.SetFixed register number) h = refl
  asked-if (i.WriteArgument number source) h = refl
  asked-if (i.ReadArgument destination number) h = refl
  asked-if (i.Branch op source block) h = refl
  asked-if (i.Jump block) h = refl
  asked-if (i.Divide routine) h = refl
  asked-if (i.Serve service) h = refl
  asked-if (i.Return with_value) h = refl
  asked-if i.Mark h = refl

  -- ---- blocks

  all-decides : (blocks : List (List TempInsn)) → Decides (list_all (list_all (is_asked globals objects first)) blocks) (AllInsns (IsAsked globals objects first) blocks)
  all-decides blocks =
      Decides-by_and (list_all (is_asked globals objects first)) (All (IsAsked globals objects first)) (list_all (list_all (is_asked globals objects first)))
      (λ insns. Decides-by_and (is_asked globals objects first) (IsAsked globals objects first) (list_all (is_asked globals objects first)) (λ x. (asked-from x, asked-if x)) refl (λ _ _. refl) insns)
      refl (λ _ _. refl) blocks

  widest-in : (insns : List TempInsn) → All (IsAsked globals objects first) insns → widest_in insns ≤ 2 ^ 24
  widest-in [] h = omega arith
  widest-in (x ∷ xs) h =
      let one = (All-head (IsAsked globals objects first) x xs h).width in
      let rest = widest-in xs (All-tail (IsAsked globals objects first) x xs h) in
      omega (arith, one, rest)

  widest-of : (blocks : List (List TempInsn)) → AllInsns (IsAsked globals objects first) blocks → widest_call blocks ≤ 2 ^ 24
  widest-of [] h = omega arith
  widest-of (b ∷ bs) h =
      let one = widest-in b (All-head (All (IsAsked globals objects first)) b bs h) in
      let rest = widest-of bs (All-tail (All (IsAsked globals objects first)) b bs h) in
      omega (arith, one, rest)

  insns-asked : (insns : List TempInsn) → All (CallsBelow first) insns → All (NamesObjects globals objects) insns → widest_in insns ≤ 2 ^ 24 → All (IsAsked globals objects first) insns
  insns-asked [] calls names width = All-nil (IsAsked globals objects first)
  insns-asked (x ∷ xs) calls names width =
      All-cons (IsAsked globals objects first) x xs
      (record {
        calls = All-head (CallsBelow first) x xs calls;
        names = All-head (NamesObjects globals objects) x xs names;
        width = omega (arith, width);
      })
      (insns-asked xs (All-tail (CallsBelow first) x xs calls) (All-tail (NamesObjects globals objects) x xs names) (omega (arith, width)))

  blocks-asked : (blocks : List (List TempInsn)) → AllInsns (CallsBelow first) blocks → AllInsns (NamesObjects globals objects) blocks → widest_call blocks ≤ 2 ^ 24 → AllInsns (IsAsked globals objects first) blocks
  blocks-asked [] calls names width = All-nil (All (IsAsked globals objects first))
  blocks-asked (b ∷ bs) calls names width =
      All-cons (All (IsAsked globals objects first)) b bs
      (insns-asked b (All-head (All (CallsBelow first)) b bs calls) (All-head (All (NamesObjects globals objects)) b bs names) (omega (arith, width)))
      (blocks-asked bs (All-tail (All (CallsBelow first)) b bs calls) (All-tail (All (NamesObjects globals objects)) b bs names) (omega (arith, width)))

-- ---- all that is asked

pub laid_out : (a : Allocation) (globals : List DataObject) (number first : ℕ) (numbers tested result : Bool) → (IsTrue numbers ↔ Numbers a number first) → tested ≡ names_fit a globals first → result ≡ (numbers && tested) → IsTrue result ↔ CanBeLaidOut a globals number first
laid_out a globals number first numbers tested result n t r = (
  λ e.
      let both = and_parts numbers tested (cc) in
      let ns = n.0 both.0 in
      let three : names_fit a globals first ≡ true = cc in
      let s = and_parts (lie_from 0 globals) (are_small_from 0 a.func.objects && list_all (list_all (is_asked globals a.func.objects first)) a.func.blocks) three in
      let o = and_parts (are_small_from 0 a.func.objects) (list_all (list_all (is_asked globals a.func.objects first)) a.func.blocks) s.1 in
      let lie = (lie_decides globals).0 s.0 in
      let small = (small_decides a.func.objects).0 o.0 in
      let asked = (all-decides globals a.func.objects first a.func.blocks).0 o.1 in
      record {
        own = ns.0;
        calls = λ k d lt j x inside. (asked k d lt j x inside).calls;
        labels = ns.1;
        layout = lie.0;
        data_size = lie.1;
        names = λ k d lt j x inside. (asked k d lt j x inside).names;
        objects = small;
        temps = ns.2;
        arguments = widest-of globals a.func.objects first a.func.blocks asked;
      },
  λ h.
      let three : names_fit a globals first ≡ true =
      and_from (lie_from 0 globals) (are_small_from 0 a.func.objects && list_all (list_all (is_asked globals a.func.objects first)) a.func.blocks)
      ((lie_decides globals).1 (h.layout, h.data_size))
      (and_from (are_small_from 0 a.func.objects) (list_all (list_all (is_asked globals a.func.objects first)) a.func.blocks)
      ((small_decides a.func.objects).1 h.objects)
      ((all-decides globals a.func.objects first a.func.blocks).1 (blocks-asked globals a.func.objects first a.func.blocks h.calls h.names h.arguments))) in
      let one = n.1 (h.own, h.labels, h.temps) in
      let all = and_from numbers tested one (cc) in
      cc,
)
