-- Where two functions over temporaries with the same walks stand.
use Rattle.std.proofs.Common.{◌≡◌, ℕ, zero, suc, Bool, true, false, List, [], ◌∷◌, length, Some, None, slice_get, refl, sym, ap, subst, ◌∙◌, arith}
use Rattle.std.specs.Prelude.{◌↔◌}
use Rattle.std.proofs.lemmas.Option.{same_Some, none-some}
use Rattle.temp_ir.specs.declared.operation.TempBranchOp.{TempBranchOp}
use Rattle.temp_ir.specs.declared.insn.TempInsn.{TempInsn}
use Rattle.temp_ir.specs.declared.insn.TempInsn.TheVariants.{Address, ObjectAddress, Load, Store, Operate, Extend, ToFixed, FromFixed, SetFixed, WriteArgument, ReadArgument, Call, Divide, Serve, Return, Branch, Jump, Mark}
use Rattle.temp_ir.specs.Insns.{targets_of, with_block, flows_on_of}
use Rattle.cfg.specs.Walks.{zero_targets, block_at, Step, Done, Taken, NotTaken, Walk, Stops, Goes, Returns, Passes, Takes, Jumps, Falls}

abbrev pub W : List (List TempInsn) → ℕ → List TempInsn → List (Step TempInsn) → Type 0
W f b is steps = Walk targets_of with_block flows_on_of f b is steps

abbrev pub strip : TempInsn → TempInsn
strip i = zero_targets targets_of with_block i

-- the instructions with a target, and all others
pub data Sort : TempInsn → Type 0 where
  IsJump : (t : ℕ) → Sort (Jump t)
  IsBranch : (op : TempBranchOp) (s t : ℕ) → Sort (Branch op s t)
  IsPlain : (i : TempInsn) → targets_of i ≡ [] → strip i ≡ i → Sort i

pub sort : (i : TempInsn) → Sort i
sort (Branch op source block) = IsBranch op source block
sort (Jump block) = IsJump block
sort (Address a b c d) = IsPlain _ refl refl
sort (ObjectAddress a b c) = IsPlain _ refl refl
sort (Load a b c d) = IsPlain _ refl refl
sort (Store a b c d) = IsPlain _ refl refl
sort (Operate a b c d) = IsPlain _ refl refl
sort (Extend a b c) = IsPlain _ refl refl
sort (ToFixed a b) = IsPlain _ refl refl
sort (FromFixed a b) = IsPlain _ refl refl
sort (SetFixed a b) = IsPlain _ refl refl
sort (WriteArgument a b) = IsPlain _ refl refl
sort (ReadArgument a b) = IsPlain _ refl refl
sort (Call a b) = IsPlain _ refl refl
sort (Divide a) = IsPlain _ refl refl
sort (Serve a) = IsPlain _ refl refl
sort (Return a) = IsPlain _ refl refl
sort Mark = IsPlain _ refl refl

never : true ≡ false → ⊥
never is = cc

no_one : (t : ℕ) → (let x : List ℕ = t ∷ [] in x ≡ []) → ⊥
no_one t is = cc

heads : {A : Type 0} (x y : A) (xs ys : List A) → x ∷ xs ≡ y ∷ ys → x ≡ y
heads x y xs ys is = cc

tails : {A : Type 0} (x y : A) (xs ys : List A) → x ∷ xs ≡ y ∷ ys → xs ≡ ys
tails x y xs ys is = cc

no_cons : {A : Type 0} (x : A) (xs : List A) → (let e : List A = [] in e ≡ x ∷ xs) → ⊥
no_cons x xs is = cc

-- what is no jump
abbrev pub Loud : TempInsn → Type 0
Loud i = flows_on_of i ≡ false → targets_of i ≡ []

-- two instructions that are the same, but that branches may have other targets
pub data Pair : TempInsn → TempInsn → Type 0 where
  SameInsn : (i : TempInsn) → targets_of i ≡ [] → Pair i i
  TwoBranches : (op : TempBranchOp) (s t u : ℕ) → Pair (Branch op s t) (Branch op s u)

pair_by : (i j : TempInsn) → Sort i → Sort j → strip i ≡ strip j → Loud i → Loud j → Pair i j
pair_by _ j (IsJump t) b same li lj = absurd (no_one t (li refl))
pair_by i _ (IsPlain _ none stays) (IsJump t) same li lj = absurd (no_one t (lj refl))
pair_by _ _ (IsBranch op s t) (IsJump u) same li lj = absurd (no_one u (lj refl))
pair_by _ _ (IsBranch op s t) (IsBranch op2 s2 u) same li lj =
    let is : Branch op s 0 ≡ Branch op2 s2 0 = same in
    let ops : op ≡ op2 = cc in
    let sources : s ≡ s2 = cc in
    subst (λ o. Pair (Branch op s t) (Branch o s2 u)) ops (subst (λ r. Pair (Branch op s t) (Branch op r u)) sources (TwoBranches op s t u))
pair_by _ j (IsBranch op s t) (IsPlain _ none stays) same li lj = absurd (no_one 0 (ap targets_of (same ∙ stays) ∙ none))
pair_by i _ (IsPlain _ none stays) (IsBranch op s t) same li lj = absurd (no_one 0 (ap targets_of (sym same ∙ stays) ∙ none))
pair_by i j (IsPlain _ none stays) (IsPlain _ none2 stays2) same li lj = subst (λ x. Pair i x) (sym stays ∙ same ∙ stays2) (SameInsn i none)

pub pair_of : (i j : TempInsn) → strip i ≡ strip j → Loud i → Loud j → Pair i j
pair_of i j same li lj = pair_by i j (sort i) (sort j) same li lj

jump_by : (i : TempInsn) (k t : ℕ) → Sort i → slice_get (targets_of i) k ≡ Some t → flows_on_of i ≡ false → i ≡ Jump t
jump_by _ zero t (IsJump u) has stop = ap Jump (same_Some u t has)
jump_by _ (suc k) t (IsJump u) has stop = absurd (none-some t has)
jump_by _ k t (IsBranch op s u) has stop = absurd (never stop)
jump_by i k t (IsPlain _ none stays) has stop = absurd (none-some t (sym (ap (λ ts. slice_get ts k) none) ∙ has))

single : (ts : List ℕ) (t k x : ℕ) → ts ≡ t ∷ [] → slice_get ts k ≡ Some x → x ≡ t
single ts t zero x is has = same_Some x t (sym has ∙ ap (λ us. slice_get us 0) is)
single ts t (suc k) x is has = let none : None ≡ Some x = sym (ap (λ us. slice_get us (suc k)) is) ∙ has in absurd (none-some x none)

flow_clash : (i j : TempInsn) → i ≡ j → flows_on_of i ≡ true → flows_on_of j ≡ false → ⊥
flow_clash i j is goes stops = never (sym goes ∙ ap flows_on_of is ∙ stops)

-- by jumps and ends of blocks alone
pub data Silent (g : List (List TempInsn)) : ℕ → List TempInsn → ℕ → List TempInsn → Type 0 where
  Here : {c : ℕ} {xs : List TempInsn} → Silent g c xs c xs
  ByJump : {c d : ℕ} {xs ys : List TempInsn} (i : TempInsn) (t : ℕ) → i ≡ Jump t → Silent g t (block_at g t) d ys → Silent g c (i ∷ xs) d ys
  ByFall : {c d : ℕ} {ys : List TempInsn} → Silent g (suc c) (block_at g (suc c)) d ys → Silent g c [] d ys

inv_jump : {g : List (List TempInsn)} {c : ℕ} {xs : List TempInsn} {steps : List (Step TempInsn)} → W g c xs steps → (i : TempInsn) (js : List TempInsn) (t : ℕ) → xs ≡ i ∷ js → i ≡ Jump t → W g t (block_at g t) steps
inv_jump Stops i js t is jump = Stops
inv_jump (Goes {rest = rest} j none flows walk) i js t is jump = absurd (flow_clash j (Jump t) (heads j i rest js is ∙ jump) flows refl)
inv_jump (Returns {rest = rest} j none stop) i js t is jump = absurd (omega (arith, none, ap (λ x. length (targets_of x)) (heads j i rest js is ∙ jump)))
inv_jump (Passes {rest = rest} j some flows walk) i js t is jump = absurd (flow_clash j (Jump t) (heads j i rest js is ∙ jump) flows refl)
inv_jump (Takes {rest = rest} j k target has flows walk) i js t is jump = absurd (flow_clash j (Jump t) (heads j i rest js is ∙ jump) flows refl)
inv_jump {g = g} (Jumps {rest = rest} {steps = steps} j k target has stop walk) i js t is jump =
    let same : target ≡ t = single (targets_of j) t k target (ap targets_of (heads j i rest js is ∙ jump)) has in
    subst (λ x. W g x (block_at g x) steps) same walk
inv_jump (Falls walk) i js t is jump = absurd (no_cons i js is)

inv_falls : {g : List (List TempInsn)} {c : ℕ} {xs : List TempInsn} {steps : List (Step TempInsn)} → W g c xs steps → xs ≡ [] → W g (suc c) (block_at g (suc c)) steps
inv_falls Stops is = Stops
inv_falls (Goes {rest = rest} j none flows walk) is = absurd (no_cons j rest (sym is))
inv_falls (Returns {rest = rest} j none stop) is = absurd (no_cons j rest (sym is))
inv_falls (Passes {rest = rest} j some flows walk) is = absurd (no_cons j rest (sym is))
inv_falls (Takes {rest = rest} j k target has flows walk) is = absurd (no_cons j rest (sym is))
inv_falls (Jumps {rest = rest} j k target has stop walk) is = absurd (no_cons j rest (sym is))
inv_falls (Falls walk) is = walk

done_only : (x y : TempInsn) → (let s : Step TempInsn = NotTaken x in s ≡ Done y) → ⊥
done_only x y is = cc

done_not_taken : (x y : TempInsn) (k : ℕ) → (let s : Step TempInsn = Taken x k in s ≡ Done y) → ⊥
done_not_taken x y k is = cc

passed_not_done : (x y : TempInsn) → (let s : Step TempInsn = Done x in s ≡ NotTaken y) → ⊥
passed_not_done x y is = cc

passed_not_taken : (x y : TempInsn) (k : ℕ) → (let s : Step TempInsn = Taken x k in s ≡ NotTaken y) → ⊥
passed_not_taken x y k is = cc

taken_not_done : (x y : TempInsn) (k : ℕ) → (let s : Step TempInsn = Done x in s ≡ Taken y k) → ⊥
taken_not_done x y k is = cc

taken_not_passed : (x y : TempInsn) (k : ℕ) → (let s : Step TempInsn = NotTaken x in s ≡ Taken y k) → ⊥
taken_not_passed x y k is = cc

inv_goes : {g : List (List TempInsn)} {c : ℕ} {xs : List TempInsn} {ss : List (Step TempInsn)} → W g c xs ss → (i : TempInsn) (js : List TempInsn) (x : TempInsn) (steps : List (Step TempInsn)) → xs ≡ i ∷ js → ss ≡ Done x ∷ steps → targets_of i ≡ [] → W g c js steps
inv_goes Stops i js x steps is ss_is none = absurd (no_cons (Done x) steps ss_is)
inv_goes {g = g} {c = c} (Goes {rest = rest} {steps = old} j nothing flows walk) i js x steps is ss_is none =
    subst (λ s. W g c js s) (tails (Done (strip j)) (Done x) old steps ss_is) (subst (λ ys. W g c ys old) (tails j i rest js is) walk)
inv_goes {g = g} {c = c} (Returns {rest = rest} j nothing stop) i js x steps is ss_is none =
    subst (λ s. W g c js s) (tails (Done (strip j)) (Done x) [] steps ss_is) Stops
inv_goes (Passes {rest = rest} {steps = old} j some flows walk) i js x steps is ss_is none = absurd (done_only (strip j) x (heads (NotTaken (strip j)) (Done x) old steps ss_is))
inv_goes (Takes {rest = rest} {steps = old} j k target has flows walk) i js x steps is ss_is none = absurd (done_not_taken (strip j) x k (heads (Taken (strip j) k) (Done x) old steps ss_is))
inv_goes (Jumps {rest = rest} j k target has stop walk) i js x steps is ss_is none =
    absurd (none-some target (sym (ap (λ ts. slice_get ts k) (ap targets_of (heads j i rest js is) ∙ none)) ∙ has))
inv_goes (Falls walk) i js x steps is ss_is none = absurd (no_cons i js is)

inv_passes : {g : List (List TempInsn)} {c : ℕ} {xs : List TempInsn} {ss : List (Step TempInsn)} → W g c xs ss → (i : TempInsn) (js : List TempInsn) (x : TempInsn) (steps : List (Step TempInsn)) → xs ≡ i ∷ js → ss ≡ NotTaken x ∷ steps → flows_on_of i ≡ true → W g c js steps
inv_passes Stops i js x steps is ss_is goes = absurd (no_cons (NotTaken x) steps ss_is)
inv_passes (Goes {rest = rest} {steps = old} j nothing flows walk) i js x steps is ss_is goes = absurd (passed_not_done (strip j) x (heads (Done (strip j)) (NotTaken x) old steps ss_is))
inv_passes (Returns {rest = rest} j nothing stop) i js x steps is ss_is goes = absurd (passed_not_done (strip j) x (heads (Done (strip j)) (NotTaken x) [] steps ss_is))
inv_passes {g = g} {c = c} (Passes {rest = rest} {steps = old} j some flows walk) i js x steps is ss_is goes =
    subst (λ s. W g c js s) (tails (NotTaken (strip j)) (NotTaken x) old steps ss_is) (subst (λ ys. W g c ys old) (tails j i rest js is) walk)
inv_passes (Takes {rest = rest} {steps = old} j k target has flows walk) i js x steps is ss_is goes = absurd (passed_not_taken (strip j) x k (heads (Taken (strip j) k) (NotTaken x) old steps ss_is))
inv_passes (Jumps {rest = rest} j k target has stop walk) i js x steps is ss_is goes = absurd (flow_clash i j (sym (heads j i rest js is)) goes stop)
inv_passes (Falls walk) i js x steps is ss_is goes = absurd (no_cons i js is)

inv_takes : {g : List (List TempInsn)} {c : ℕ} {xs : List TempInsn} {ss : List (Step TempInsn)} → W g c xs ss → (i : TempInsn) (js : List TempInsn) (x : TempInsn) (k t : ℕ) (steps : List (Step TempInsn)) → xs ≡ i ∷ js → ss ≡ Taken x k ∷ steps → targets_of i ≡ t ∷ [] → flows_on_of i ≡ true → W g t (block_at g t) steps
inv_takes Stops i js x k t steps is ss_is one goes = absurd (no_cons (Taken x k) steps ss_is)
inv_takes (Goes {rest = rest} {steps = old} j nothing flows walk) i js x k t steps is ss_is one goes = absurd (taken_not_done (strip j) x k (heads (Done (strip j)) (Taken x k) old steps ss_is))
inv_takes (Returns {rest = rest} j nothing stop) i js x k t steps is ss_is one goes = absurd (taken_not_done (strip j) x k (heads (Done (strip j)) (Taken x k) [] steps ss_is))
inv_takes (Passes {rest = rest} {steps = old} j some flows walk) i js x k t steps is ss_is one goes = absurd (taken_not_passed (strip j) x k (heads (NotTaken (strip j)) (Taken x k) old steps ss_is))
inv_takes {g = g} (Takes {rest = rest} {steps = old} j n target has flows walk) i js x k t steps is ss_is one goes =
    let same : target ≡ t = single (targets_of j) t n target (ap targets_of (heads j i rest js is) ∙ one) has in
    subst (λ s. W g t (block_at g t) s) (tails (Taken (strip j) n) (Taken x k) old steps ss_is) (subst (λ y. W g y (block_at g y) old) same walk)
inv_takes (Jumps {rest = rest} j n target has stop walk) i js x k t steps is ss_is one goes = absurd (flow_clash i j (sym (heads j i rest js is)) goes stop)
inv_takes (Falls walk) i js x k t steps is ss_is one goes = absurd (no_cons i js is)

silent_up : {g : List (List TempInsn)} {c d : ℕ} {xs ys : List TempInsn} {steps : List (Step TempInsn)} → Silent g c xs d ys → W g d ys steps → W g c xs steps
silent_up Here walk = walk
silent_up (ByJump i t is rest) walk = Jumps i 0 t (ap (λ j. slice_get (targets_of j) 0) is) (ap flows_on_of is) (silent_up rest walk)
silent_up (ByFall rest) walk = Falls (silent_up rest walk)

silent_down : {g : List (List TempInsn)} {c d : ℕ} {xs ys : List TempInsn} {steps : List (Step TempInsn)} → Silent g c xs d ys → W g c xs steps → W g d ys steps
silent_down Here walk = walk
silent_down (ByJump {xs = xs} i t is rest) walk = silent_down rest (inv_jump walk i xs t refl is)
silent_down (ByFall rest) walk = silent_down rest (inv_falls walk refl)

-- the instruction that is done next
pub record NextInsn (g : List (List TempInsn)) (c : ℕ) (xs : List TempInsn) (x : TempInsn) : Type 0 where
  pub block : ℕ
  pub insn : TempInsn
  pub rest : List TempInsn
  pub silent : Silent g c xs block (insn ∷ rest)
  pub same : strip insn ≡ x
  pub loud : Loud insn

abbrev pub step_insn : Step TempInsn → TempInsn
step_insn (Done x) = x
step_insn (Taken x k) = x
step_insn (NotTaken x) = x

nil_of : (ts : List ℕ) → length ts ≡ 0 → ts ≡ []
nil_of [] none = refl
nil_of (t ∷ ts) none = absurd (omega arith)

find : {g : List (List TempInsn)} {c : ℕ} {xs : List TempInsn} {ss : List (Step TempInsn)} → W g c xs ss → (s : Step TempInsn) (steps : List (Step TempInsn)) → ss ≡ s ∷ steps → NextInsn g c xs (step_insn s)
find Stops s steps is = absurd (no_cons s steps is)
find {c = c} (Goes {rest = rest} {steps = old} j none flows walk) s steps is = record { block = c; insn = j; rest = rest; silent = Here; same = ap step_insn (heads (Done (strip j)) s old steps is); loud = λ stop. absurd (flow_clash j j refl flows stop) }
find {c = c} (Returns {rest = rest} j none stop) s steps is = record { block = c; insn = j; rest = rest; silent = Here; same = ap step_insn (heads (Done (strip j)) s [] steps is); loud = λ stops. nil_of (targets_of j) none }
find {c = c} (Passes {rest = rest} {steps = old} j some flows walk) s steps is = record { block = c; insn = j; rest = rest; silent = Here; same = ap step_insn (heads (NotTaken (strip j)) s old steps is); loud = λ stop. absurd (flow_clash j j refl flows stop) }
find {c = c} (Takes {rest = rest} {steps = old} j k target has flows walk) s steps is = record { block = c; insn = j; rest = rest; silent = Here; same = ap step_insn (heads (Taken (strip j) k) s old steps is); loud = λ stop. absurd (flow_clash j j refl flows stop) }
find (Jumps j k target has stop walk) s steps is =
    let found = find walk s steps is in
    record { block = found.block; insn = found.insn; rest = found.rest; silent = ByJump j target (jump_by j k target (sort j) has stop) found.silent; same = found.same; loud = found.loud }
find (Falls walk) s steps is =
    let found = find walk s steps is in
    record { block = found.block; insn = found.insn; rest = found.rest; silent = ByFall found.silent; same = found.same; loud = found.loud }

-- from two places the same may be done
abbrev pub Alike : (f g : List (List TempInsn)) → ℕ → List TempInsn → ℕ → List TempInsn → Type 0
Alike f g b xs c ys = (steps : List (Step TempInsn)) → W f b xs steps ↔ W g c ys steps

module _ (f g : List (List TempInsn)) where
  meets_by : (b c : ℕ) (i : TempInsn) (rest ys : List TempInsn) (flow : Bool) (ts : List ℕ) → flows_on_of i ≡ flow → targets_of i ≡ ts → Loud i → Alike f g b (i ∷ rest) c ys → NextInsn g c ys (strip i)
  meets_by b c i rest ys true [] flows ts_is loud alike = find ((alike (Done (strip i) ∷ [])).0 (Goes i (ap length ts_is) flows Stops)) (Done (strip i)) [] refl
  meets_by b c i rest ys true (t ∷ ts) flows ts_is loud alike = find ((alike (NotTaken (strip i) ∷ [])).0 (Passes i (omega (arith, ap length ts_is)) flows Stops)) (NotTaken (strip i)) [] refl
  meets_by b c i rest ys false ts flows ts_is loud alike = find ((alike (Done (strip i) ∷ [])).0 (Returns i (ap length (loud flows)) flows)) (Done (strip i)) [] refl

  -- the other function comes to the same instruction
  pub meets : (b c : ℕ) (i : TempInsn) (rest ys : List TempInsn) → Loud i → Alike f g b (i ∷ rest) c ys → NextInsn g c ys (strip i)
  meets b c i rest ys loud alike = meets_by b c i rest ys (flows_on_of i) (targets_of i) refl refl loud alike

  pub after_same : (b c d : ℕ) (i : TempInsn) (rest ys ks : List TempInsn) → targets_of i ≡ [] → flows_on_of i ≡ true → Silent g c ys d (i ∷ ks) → Alike f g b (i ∷ rest) c ys → Alike f g b rest d ks
  after_same b c d i rest ys ks none flows silent alike steps = (
    (λ walk. inv_goes (silent_down silent ((alike (Done (strip i) ∷ steps)).0 (Goes i (ap length none) flows walk))) i ks (strip i) steps refl refl none),
    (λ walk. inv_goes ((alike (Done (strip i) ∷ steps)).1 (silent_up silent (Goes i (ap length none) flows walk))) i rest (strip i) steps refl refl none),
  )

  pub after_passed : (b c d : ℕ) (op : TempBranchOp) (s t u : ℕ) (rest ys ks : List TempInsn) → Silent g c ys d (Branch op s u ∷ ks) → Alike f g b (Branch op s t ∷ rest) c ys → Alike f g b rest d ks
  after_passed b c d op s t u rest ys ks silent alike steps = (
    (λ walk. inv_passes (silent_down silent ((alike (NotTaken (Branch op s 0) ∷ steps)).0 (Passes (Branch op s t) (omega arith) refl walk))) (Branch op s u) ks (Branch op s 0) steps refl refl refl),
    (λ walk. inv_passes ((alike (NotTaken (Branch op s 0) ∷ steps)).1 (silent_up silent (Passes (Branch op s u) (omega arith) refl walk))) (Branch op s t) rest (Branch op s 0) steps refl refl refl),
  )

  pub after_taken : (b c d : ℕ) (op : TempBranchOp) (s t u : ℕ) (rest ys ks : List TempInsn) → Silent g c ys d (Branch op s u ∷ ks) → Alike f g b (Branch op s t ∷ rest) c ys → Alike f g t (block_at f t) u (block_at g u)
  after_taken b c d op s t u rest ys ks silent alike steps = (
    (λ walk. inv_takes (silent_down silent ((alike (Taken (Branch op s 0) 0 ∷ steps)).0 (Takes (Branch op s t) 0 t refl refl walk))) (Branch op s u) ks (Branch op s 0) 0 u steps refl refl refl refl),
    (λ walk. inv_takes ((alike (Taken (Branch op s 0) 0 ∷ steps)).1 (silent_up silent (Takes (Branch op s u) 0 u refl refl walk))) (Branch op s t) rest (Branch op s 0) 0 t steps refl refl refl refl),
  )

  pub after_jump : (b c t : ℕ) (rest ys : List TempInsn) → Alike f g b (Jump t ∷ rest) c ys → Alike f g t (block_at f t) c ys
  after_jump b c t rest ys alike steps = (
    (λ walk. (alike steps).0 (Jumps (Jump t) 0 t refl refl walk)),
    (λ walk. inv_jump ((alike steps).1 walk) (Jump t) rest t refl refl),
  )

  pub after_fall : (b c : ℕ) (ys : List TempInsn) → Alike f g b [] c ys → Alike f g (suc b) (block_at f (suc b)) c ys
  after_fall b c ys alike steps = (
    (λ walk. (alike steps).0 (Falls walk)),
    (λ walk. inv_falls ((alike steps).1 walk) refl),
  )
