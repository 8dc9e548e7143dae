-- What is near is not cut.
use Rattle.std.proofs.Common.{◌≡◌, ℕ, ◌-◌, min, max, List, [], ◌∷◌, map, refl, ap, ◌∙◌, arith}
use Rattle.std.specs.Prelude.{All}
use Rattle.std.proofs.lemmas.List.Elements.{All-head, All-tail}
use Rattle.pass_core.specs.Functions.{AllInsns}
use Rattle.temp_ir.specs.declared.insn.TempInsn.{TempInsn}
use Rattle.temp_ir.specs.declared.insn.TempInsn.TheVariants as i
use Rattle.alloc_model.specs.Effect.{width_of, widest_in, widest_call}
use Rattle.alloc_model.specs.Places.{Plan}
use Rattle.frame_memory.specs.flat_frames.Shapes.{FrameShape}
use Rattle.frame_emitter.specs.Shapes.{plan_names, shape_of}
use Rattle.frame_emitter.specs.Settings.{most_arguments, near_insn, near_blocks, with_blocks, near_plan}
use Rattle.frame_bounds.specs.Near.{IsNear}

near-same : (x : TempInsn) → IsNear x → near_insn x ≡ x
near-same (i.Address op d base plus) h = refl
near-same (i.ObjectAddress d place plus) h = refl
near-same (i.Load op d p plus) h = refl
near-same (i.Store op v p plus) h = refl
near-same (i.Operate op d l r) h = refl
near-same (i.Extend op d s) h = refl
near-same (i.ToFixed r s) h = refl
near-same (i.FromFixed d r) h = refl
near-same (i.SetFixed r n) h = refl
near-same (i.WriteArgument n s) h = let e : min n most_arguments ≡ n = omega (arith, h) in ap (λ k. i.WriteArgument k s) e
near-same (i.ReadArgument d n) h = let e : min n most_arguments ≡ n = omega (arith, h) in ap (λ k. i.ReadArgument d k) e
near-same (i.Branch op s t) h = refl
near-same (i.Jump t) h = refl
near-same (i.Call g n) h = refl
near-same (i.Divide r) h = refl
near-same (i.Serve s) h = refl
near-same (i.Return v) h = refl
near-same i.Mark h = refl

insns-same : (insns : List TempInsn) → All IsNear insns → map near_insn insns ≡ insns
insns-same [] h = refl
insns-same (x ∷ xs) h = ap (λ z. z ∷ map near_insn xs) (near-same x (All-head IsNear x xs h)) ∙ ap (λ zs. x ∷ zs) (insns-same xs (All-tail IsNear x xs h))

blocks-same : (blocks : List (List TempInsn)) → AllInsns IsNear blocks → near_blocks blocks ≡ blocks
blocks-same [] h = refl
blocks-same (b ∷ bs) h =
    ap (λ z. z ∷ near_blocks bs) (insns-same b (All-head (All IsNear) b bs h)) ∙ ap (λ zs. b ∷ zs) (blocks-same bs (All-tail (All IsNear) b bs h))

pub plan_same : (a : Plan) → AllInsns IsNear a.function.blocks → near_plan a ≡ a
plan_same a h = ap (with_blocks a) (blocks-same a.function.blocks h)

near-width : (x : TempInsn) → width_of (near_insn x) ≡ width_of x
near-width (i.Address op d base plus) = refl
near-width (i.ObjectAddress d place plus) = refl
near-width (i.Load op d p plus) = refl
near-width (i.Store op v p plus) = refl
near-width (i.Operate op d l r) = refl
near-width (i.Extend op d s) = refl
near-width (i.ToFixed r s) = refl
near-width (i.FromFixed d r) = refl
near-width (i.SetFixed r n) = refl
near-width (i.WriteArgument n s) = refl
near-width (i.ReadArgument d n) = refl
near-width (i.Branch op s t) = refl
near-width (i.Jump t) = refl
near-width (i.Call g n) = refl
near-width (i.Divide r) = refl
near-width (i.Serve s) = refl
near-width (i.Return v) = refl
near-width i.Mark = refl

near-widest : (insns : List TempInsn) → widest_in (map near_insn insns) ≡ widest_in insns
near-widest [] = refl
near-widest (x ∷ xs) = ap (λ n. max n (widest_in (map near_insn xs))) (near-width x) ∙ ap (λ n. max (width_of x) n) (near-widest xs)

pub near_widest : (blocks : List (List TempInsn)) → widest_call (near_blocks blocks) ≡ widest_call blocks
near_widest [] = refl
near_widest (b ∷ bs) = ap (λ n. max n (widest_call (near_blocks bs))) (near-widest b) ∙ ap (λ n. max (widest_in b) n) (near_widest bs)

shape-with : Plan → (widest : ℕ) → FrameShape
shape-with a widest = record { outgoing = widest - 6; temps = a.temps; sizes = a.function.sizes; saves = plan_names a }

pub shape_same : (a : Plan) → shape_of (near_plan a) ≡ shape_of a
unfolding shape-with
shape_same a = ap (shape-with a) (near_widest a.function.blocks)
