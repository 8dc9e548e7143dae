-- Where both machines stand, and what straight code over temporaries makes the one of them do.
use Rattle.std.proofs.Common.{◌≡◌, ℕ, zero, suc, ◌+◌, List, [], ◌∷◌, ◌++◌, length, map, Bool, true, false, Option, Some, None, refl, sym, ap, ◌∙◌, subst, arith, length-append, All}
use Rattle.std.specs.Prelude.{◌&&◌, ◌==◌, slice_get, if◌then◌else◌}
use Rattle.std.specs.List.{list_all}
use Rattle.std.proofs.Common.{eq-eqb}
use Rattle.std.proofs.lemmas.Bool.{and_from}
use Rattle.std.proofs.lemmas.Option.{none-some, same_Some, slice_get_within, get_or_from_slice_get}
use Rattle.std.proofs.lemmas.List.{append_assoc}
use Rattle.std.proofs.lemmas.List.Folds.{list_all-append}
use Rattle.mem_model.specs.World.{Outer, Meter, World, Rooms}
use Rattle.machine_model.specs.Code.{Stop, Act, Writes, Jumps, Calls, Returns, Stops, Code}
use Rattle.machine_model.specs.Machine.{Frame, Config, Next, Goes, Over, whole_world, turn_if, stop_ending, act_on, step_with, step_at, step, go_on, exec}
use Rattle.machine_model.proofs.Runs.{steps_add_up}
use Rattle.pass_core.specs.Functions.{last_of}
use Rattle.temp_ir.specs.declared.insn.TempInsn.{TempInsn}
use Rattle.temp_ir.specs.declared.insn.TempInsn.TheVariants as i
use Rattle.temp_ir.specs.Insns.{flows_on_of}
use Rattle.alloc_model.specs.Contents.{Content}
use Rattle.alloc_model.specs.Stores.{without, put_all}
use Rattle.alloc_model.specs.Effect.{holder_eq, holders_read, holders_written, is_emptied, widest_call, does, takes_turn}
use Rattle.alloc_model.specs.Temporaries.{TemporaryCode, Temps, blocks_in, temp_site, next_site, flows_out, goes_on, is_left_at, next_if, site_or_next, site_in, temp_site_at, temp_code}
use Rattle.selection_forms.specs.alpha_forms.Straight.{Ran, After, Halted, NotStraight, goes_with, runs}

-- ---- lists

pub read_behind : {A : Type 0} (xs : List A) (y : A) (ys : List A) → slice_get (xs ++ y ∷ ys) (length xs) ≡ Some y
read_behind [] y ys = refl
read_behind (x ∷ xs) y ys = read_behind xs y ys

pub read_end : {A : Type 0} (xs : List A) → slice_get (xs ++ []) (length xs) ≡ None
read_end [] = refl
read_end (x ∷ xs) = read_end xs

pub all_get : {A : Type 0} (P : A → Type 0) (xs : List A) (k : ℕ) (x : A) → All P xs → slice_get xs k ≡ Some x → P x
all_get P xs k x h e = subst P (get_or_from_slice_get xs k x x e) (h k x (slice_get_within xs k x e))

-- ---- a place in a block

-- so many instructions stand before a place of a block, and what is left stands from there on
pub record BlockPlace {I : Type 0} (blocks : List (List I)) (block at : ℕ) (left : List I) : Type 0 where
  pub before : List I
  pub there : slice_get blocks block ≡ Some (before ++ left)
  pub here : length before ≡ at

abbrev pub next_place : {I : Type 0} (blocks : List (List I)) (block at : ℕ) (x : I) (left : List I) → BlockPlace blocks block at (x ∷ left) → BlockPlace blocks block (suc at) left
next_place blocks block at x left p = record {
  before = p.before ++ x ∷ [];
  there = p.there ∙ ap Some (sym (append_assoc p.before (x ∷ []) left));
  here = let h = p.here in omega (arith, h, length-append p.before (x ∷ []));
}

pub insn_there : {I : Type 0} (blocks : List (List I)) (block at : ℕ) (x : I) (left insns : List I) → BlockPlace blocks block at (x ∷ left) → slice_get blocks block ≡ Some insns → slice_get insns at ≡ Some x
insn_there blocks block at x left insns p e =
    let same : p.before ++ x ∷ left ≡ insns = same_Some (p.before ++ x ∷ left) insns (sym p.there ∙ e) in
    ap (λ k. slice_get insns k) (sym p.here) ∙ ap (λ l. slice_get l (length p.before)) (sym same) ∙ read_behind p.before x left

-- over temporaries, besides, what stands before flows on
pub record FlowingPlace (blocks : List (List TempInsn)) (block at : ℕ) (left : List TempInsn) : Type 0 where
  pub place : BlockPlace blocks block at left
  pub flows : list_all flows_on_of place.before ≡ true

pub next_standing : (blocks : List (List TempInsn)) (block at : ℕ) (x : TempInsn) (left : List TempInsn) → flows_on_of x ≡ true → FlowingPlace blocks block at (x ∷ left) → FlowingPlace blocks block (suc at) left
next_standing blocks block at x left f s = record {
  place = next_place blocks block at x left s.place;
  flows = list_all-append flows_on_of s.place.before (x ∷ []) ∙ and_from (list_all flows_on_of s.place.before) (flows_on_of x && true) s.flows (and_from (flows_on_of x) true f refl);
}

-- ---- what stands at a point

all_flow : (xs : List TempInsn) → list_all flows_on_of xs ≡ true → flows_out xs ≡ true
all_flow xs h = by_last (last_of xs) refl
  where
    from_all : (ys : List TempInsn) (k : ℕ) (x : TempInsn) → list_all flows_on_of ys ≡ true → slice_get ys k ≡ Some x → flows_on_of x ≡ true
    from_all [] k x e f = absurd (none-some x f)
    from_all (y ∷ ys) zero x e f = subst (λ z. flows_on_of z ≡ true) (same_Some y x f) (first (flows_on_of y) (list_all flows_on_of ys) e)
      where
        first : (a b : Bool) → (a && b) ≡ true → a ≡ true
        first true b g = refl
        first false b g = absurd (cc)
    from_all (y ∷ ys) (suc k) x e f = from_all ys k x (second (flows_on_of y) (list_all flows_on_of ys) e) f
      where
        second : (a b : Bool) → (a && b) ≡ true → b ≡ true
        second true b g = g
        second false b g = absurd (cc)

    by_last : (o : Option TempInsn) → last_of xs ≡ o → goes_on o ≡ true
    by_last None e = refl
    by_last (Some x) e = from_all xs _ x h e

module _ (functions : List TemporaryCode) (g b : ℕ) (fn : TemporaryCode) (number : slice_get functions g ≡ Some fn) where
  pub site_there : (at : ℕ) (x : TempInsn) (left : List TempInsn) → FlowingPlace fn.blocks b at (x ∷ left) →
      (temp_code functions).site (record { function = g; block = b; at = at }) ≡ Some (temp_site (widest_call fn.blocks) x)
  site_there at x left s =
      ap (λ o. temp_site_at (blocks_in o) (record { function = g; block = b; at = at })) number
      ∙ ap (λ o. site_in (λ k. temp_site (widest_call fn.blocks)) b at o) s.place.there
      ∙ ap (λ o. site_or_next (temp_site (widest_call fn.blocks)) b (is_left_at (s.place.before ++ x ∷ left) at) o)
      (insn_there fn.blocks b at x left (s.place.before ++ x ∷ left) s.place s.place.there)

  pub site_behind : (at : ℕ) → FlowingPlace fn.blocks b at [] → (temp_code functions).site (record { function = g; block = b; at = at }) ≡ Some (next_site b)
  site_behind at s =
      let insns = s.place.before ++ [] in
      let none : slice_get insns at ≡ None = ap (slice_get insns) (sym s.place.here) ∙ read_end s.place.before in
      let same : insns ≡ s.place.before = append_nil s.place.before in
      let count : at ≡ length insns = sym s.place.here ∙ ap length (sym same) in
      let left : is_left_at insns at ≡ true = and_from (flows_out insns) (at == length insns) (all_flow insns (ap (list_all flows_on_of) same ∙ s.flows)) (eq-eqb at (length insns) count) in
      ap (λ o. temp_site_at (blocks_in o) (record { function = g; block = b; at = at })) number
      ∙ ap (λ o. site_in (λ k. temp_site (widest_call fn.blocks)) b at o) s.place.there
      ∙ ap (λ o. site_or_next (temp_site (widest_call fn.blocks)) b (is_left_at insns at) o) none
      ∙ ap (next_if b) left
    where
      append_nil : (xs : List TempInsn) → xs ++ [] ≡ xs
      append_nil [] = refl
      append_nil (x ∷ xs) = ap (λ l. x ∷ l) (append_nil xs)

-- ---- runs over temporaries

-- a writing instruction is one that flows on
act_flows : (widest own : ℕ) (x : TempInsn) (cs ds : List Content) (o p : Outer) → does widest x own cs o ≡ Writes ds p → flows_on_of x ≡ true
act_flows widest own (i.Address op d base plus) cs ds o p e = refl
act_flows widest own (i.ObjectAddress d place plus) cs ds o p e = refl
act_flows widest own (i.Load op d pointer plus) cs ds o p e = refl
act_flows widest own (i.Store op v pointer plus) cs ds o p e = refl
act_flows widest own (i.Operate op d left right) cs ds o p e = refl
act_flows widest own (i.Extend op d source) cs ds o p e = refl
act_flows widest own (i.ToFixed register source) cs ds o p e = refl
act_flows widest own (i.FromFixed d register) cs ds o p e = refl
act_flows widest own (i.SetFixed register number) cs ds o p e = refl
act_flows widest own (i.WriteArgument number source) cs ds o p e = refl
act_flows widest own (i.ReadArgument d number) cs ds o p e = refl
act_flows widest own (i.Branch op source block) cs ds o p e = refl
act_flows widest own (i.Jump block) cs ds o p e = absurd (cc)
act_flows widest own (i.Call function arguments) cs ds o p e = refl
act_flows widest own (i.Divide routine) cs ds o p e = refl
act_flows widest own (i.Serve service) cs ds o p e = refl
act_flows widest own (i.Return with_value) cs ds o p e = absurd (cc)
act_flows widest own i.Mark cs ds o p e = refl

module _ (rooms : Rooms) (functions : List TemporaryCode) where
  abbrev pub code : Code Content Temps
  code = temp_code functions

  abbrev pub tconf : (g b at own : ℕ) → Temps → List (Frame Temps) → World → Config Temps
  tconf g b at own s ts w = record { here = record { point = record { function = g; block = b; at = at }; own = own; store = s }; callers = ts; world = w }

  -- from one configuration the run comes to another one, or to an ending
  pub record Comes (k : Config Temps) (n : Next Temps) : Type 0 where
    pub steps : ℕ
    pub run : exec Content Temps rooms (temp_code functions) steps k ≡ n

  pub comes_here : (k : Config Temps) → Comes k (Goes k)
  comes_here k = record { steps = 0; run = refl }

  pub comes_then : (k l : Config Temps) (n : Next Temps) → Comes k (Goes l) → Comes l n → Comes k n
  comes_then k l n c d = record {
    steps = c.steps + d.steps;
    run = steps_add_up Content Temps rooms (temp_code functions) c.steps d.steps k ∙ ap (λ x. go_on x (exec Content Temps rooms (temp_code functions) d.steps)) c.run ∙ d.run;
  }

  pub comes_by : (k : Config Temps) (n : Next Temps) → step Content Temps rooms (temp_code functions) k ≡ n → Comes k n
  comes_by k n e = record { steps = 1; run = ap (λ x. go_on x (exec Content Temps rooms (temp_code functions) 0)) e ∙ last n }
    where
      last : (n : Next Temps) → go_on n (λ l. Goes l) ≡ n
      last (Goes l) = refl
      last (Over e) = refl

  module _ (g b own : ℕ) (ts : List (Frame Temps)) (m : Meter) (fn : TemporaryCode) (number : slice_get functions g ≡ Some fn) where
    -- where straight code comes to
    pub record CameBehind (at : ℕ) (s : Temps) (o : Outer) (ys : List TempInsn) (t : Temps) (p : Outer) : Type 0 where
      pub place : ℕ
      pub comes : Comes (tconf g b at own s ts (whole_world o m)) (Goes (tconf g b place own t ts (whole_world p m)))
      pub standing : FlowingPlace fn.blocks b place ys

    pub record HasStopped (at : ℕ) (s : Temps) (o : Outer) (e : Stop) (p : Outer) : Type 0 where
      pub insn : ℕ
      pub comes : Comes (tconf g b at own s ts (whole_world o m)) (Over (stop_ending e insn (whole_world p m)))

    abbrev pub Came : (at : ℕ) → Temps → Outer → List TempInsn → Ran → Type 0
    Came at s o ys (After t p) = CameBehind at s o ys t p
    Came at s o ys (Halted e p) = HasStopped at s o e p
    Came at s o ys NotStraight = Unit {0}

    pub straight : (xs ys : List TempInsn) (at : ℕ) (s : Temps) (o : Outer) → FlowingPlace fn.blocks b at (xs ++ ys) → Came at s o ys (runs (widest_call fn.blocks) xs own s o)
    straight [] ys at s o h = record { place = at; comes = comes_here _; standing = h }
    straight (x ∷ xs) ys at s o h =
        by_turn (λ t p k. straight xs ys (suc at) t p k) (takes_turn x) refl (does (widest_call fn.blocks) x own (map s (holders_read x)) o) refl
      where
        here : Config Temps
        here = tconf g b at own s ts (whole_world o m)

        site : (temp_code functions).site (record { function = g; block = b; at = at }) ≡ Some (temp_site (widest_call fn.blocks) x)
        site = site_there functions g b fn number at x (xs ++ ys) h

        stepped : (a : Act Content) → takes_turn x ≡ false → does (widest_call fn.blocks) x own (map s (holders_read x)) o ≡ a →
            step Content Temps rooms (temp_code functions) here ≡ act_on Content Temps rooms (temp_code functions) here m (temp_site (widest_call fn.blocks) x) a
        stepped a turn act =
            ap (step_at Content Temps rooms (temp_code functions) here) site
            ∙ ap (λ t. step_with Content Temps rooms (temp_code functions) here (temp_site (widest_call fn.blocks) x) (turn_if t m)) turn
            ∙ ap (act_on Content Temps rooms (temp_code functions) here m (temp_site (widest_call fn.blocks) x)) act

        then_came : (t : Temps) (p : Outer) (r : Ran) → Comes here (Goes (tconf g b (suc at) own t ts (whole_world p m))) → Came (suc at) t p ys r → Came at s o ys r
        then_came t p (After u q) c d = record { place = d.place; comes = comes_then _ _ _ c d.comes; standing = d.standing }
        then_came t p (Halted e q) c d = record { insn = d.insn; comes = comes_then _ _ _ c d.comes }
        then_came t p NotStraight c d = tt

        by_turn : ((t : Temps) (p : Outer) → FlowingPlace fn.blocks b (suc at) (xs ++ ys) → Came (suc at) t p ys (runs (widest_call fn.blocks) xs own t p)) →
            (turn : Bool) → takes_turn x ≡ turn → (a : Act Content) → does (widest_call fn.blocks) x own (map s (holders_read x)) o ≡ a →
            Came at s o ys (if turn then NotStraight else goes_with x s a (λ t p. runs (widest_call fn.blocks) xs own t p))
        by_turn rest true turn a act = tt
        by_turn rest false turn (Writes cs p) act =
            let t = put_all holder_eq (holders_written x) cs (without (is_emptied x) s) in
            then_came t p (runs (widest_call fn.blocks) xs own t p) (comes_by _ _ (stepped (Writes cs p) turn act))
            (rest t p (next_standing fn.blocks b at x (xs ++ ys) (act_flows (widest_call fn.blocks) own x (map s (holders_read x)) cs o p act) h))
        by_turn rest false turn (Stops e p) act = record { insn = _; comes = comes_by _ _ (stepped (Stops e p) turn act) }
        by_turn rest false turn (Jumps k p) act = tt
        by_turn rest false turn (Calls f cs p) act = tt
        by_turn rest false turn (Returns cs p) act = tt
