-- A program whose functions have the same walks does the same, step by step.
use Rattle.std.proofs.Common.{◌≡◌, ◌==◌, ◌&&◌, false, eq-eqb, ℕ, zero, suc, ◌-◌, ◌<◌, ◌≤◌, true, List, [], ◌∷◌, length, drop, Option, Some, None, slice_get, if◌then◌else◌, refl, sym, ap, subst, ◌∙◌, inl, inr, arith}
use Rattle.std.specs.Prelude.{IsTrue}
use Rattle.std.proofs.lemmas.Bool.{cases_lt}
use Rattle.std.proofs.Math.Path.{fun_ext}
use Rattle.std.proofs.lemmas.Option.{slice_get-get_or}
use Rattle.mem_model.specs.World.{World, Rooms}
use Rattle.machine_model.specs.Code.{Site, Code}
use Rattle.machine_model.specs.Machine.{Frame, Config, Next, Goes, Over, step_at, step, go_on, exec}
use Rattle.temp_ir.specs.declared.insn.TempInsn.{TempInsn}
use Rattle.temp_ir.specs.declared.insn.TempInsn.TheVariants.{Jump}
use Rattle.temp_ir.specs.Insns.{targets_of, with_block, flows_on_of}
use Rattle.pass_core.specs.Functions.{AllInsns, GoesToBlocks, last_of, stops, successors_of, successors_after}
use Rattle.cfg.specs.Walks.{block_at, SameWalks}
use Rattle.cfg.proofs.Kept.{successor_within, target_goes}
use Rattle.std.specs.List.{Contains}
use Rattle.std.proofs.lemmas.List.Elements.{Contains-append_right}
use Rattle.alloc_model.specs.Contents.{Content, unset_content}
use Rattle.alloc_model.specs.Stores.{put_all, without}
use Rattle.alloc_model.specs.Effect.{Holder, Temp, Fixed, Incoming, Outgoing, holder_eq, holders_written, is_emptied, calls_function, widest_call}
use Rattle.alloc_model.specs.Temporaries.{Temps, TemporaryCode, temp_site, next_site, next_if, goes_on, is_left_at, site_or_next, site_in, blocks_in, temp_code}
use Rattle.block_pass_laws.specs.temp_walk_laws.SameRuns.{AreWithin}
use Rattle.block_pass_laws.proofs.TempWalkLaws.Walking.{Silent, Here, ByJump, ByFall, Alike}

-- what is left of a list
pub drop_get : {A : Type 0} (at : ℕ) (xs ys : List A) (x : A) → drop at xs ≡ x ∷ ys → slice_get xs at ≡ Some x
drop_get zero xs ys x is = ap (λ zs. slice_get zs 0) is
drop_get (suc at) [] ys x is = let clash : ⊥ = cc in absurd clash
drop_get (suc at) (z ∷ xs) ys x is = drop_get at xs ys x is

drop_none : {A : Type 0} (at : ℕ) (xs : List A) → drop at xs ≡ [] → slice_get xs at ≡ None
drop_none zero xs is = ap (λ zs. slice_get zs 0) is
drop_none (suc at) [] is = refl
drop_none (suc at) (z ∷ xs) is = drop_none at xs is

drop_next : {A : Type 0} (at : ℕ) (xs ys : List A) (x : A) → drop at xs ≡ x ∷ ys → drop (suc at) xs ≡ ys
drop_next zero xs ys x is = ap (drop 1) is
drop_next (suc at) [] ys x is = let clash : ⊥ = cc in absurd clash
drop_next (suc at) (z ∷ xs) ys x is = drop_next at xs ys x is

drop_length : {A : Type 0} (at : ℕ) (xs : List A) (x : A) → drop at xs ≡ x ∷ [] → length xs ≡ suc at
drop_length zero xs x is = ap length is
drop_length (suc at) [] x is = let clash : ⊥ = cc in absurd clash
drop_length (suc at) (z ∷ xs) x is = ap suc (drop_length at xs x is)

drop_last : {A : Type 0} (at : ℕ) (xs : List A) (x : A) → drop at xs ≡ x ∷ [] → last_of xs ≡ Some x
drop_last at xs x is =
    let place : length xs - 1 ≡ at = omega (arith, drop_length at xs x is) in
    ap (slice_get xs) place ∙ drop_get at xs [] x is

drop_nil : {A : Type 0} (at : ℕ) (xs : List A) → xs ≡ [] → drop at xs ≡ []
drop_nil zero xs is = is
drop_nil (suc at) [] is = refl
drop_nil (suc at) (x ∷ xs) is = let clash : ⊥ = cc in absurd clash

past_blocks : (g : List (List TempInsn)) (c : ℕ) → length g ≤ c → block_at g c ≡ []
past_blocks [] zero past = refl
past_blocks [] (suc c) past = refl
past_blocks (x ∷ g) zero past = absurd (omega arith)
past_blocks (x ∷ g) (suc c) past = past_blocks g c (omega arith)

no_insns : {A : Type 0} (x : A) (xs ys : List A) → ys ≡ x ∷ xs → ys ≡ [] → ⊥
no_insns x xs ys is none = let clash : ⊥ = cc in clash

-- what the invariants of a function say of its blocks
pub record Valid (f : List (List TempInsn)) : Type 0 where
  pub goes : AllInsns (GoesToBlocks targets_of (length f)) f
  pub ends : IsTrue (stops flows_on_of f)

pub record SameCode (f g : TemporaryCode) : Type 0 where
  pub sizes : f.sizes ≡ g.sizes
  pub valid : Valid f.blocks
  pub walks : SameWalks targets_of with_block flows_on_of f.blocks g.blocks
  pub before : AreWithin f.blocks
  pub after : AreWithin g.blocks

abbrev pub SameAt : Option TemporaryCode → Option TemporaryCode → Type 0
SameAt None None = Unit {0}
SameAt None (Some g) = ⊥
SameAt (Some f) None = ⊥
SameAt (Some f) (Some g) = SameCode f g

-- where nothing is left of a block, what stands last in it goes on
abbrev pub IsLeft : List (List TempInsn) → (b at : ℕ) → Type 0
IsLeft f b at = drop at (block_at f b) ≡ [] → is_left_at (block_at f b) at ≡ true

left_of_none : (xs : List TempInsn) → drop 0 xs ≡ [] → is_left_at xs 0 ≡ true
left_of_none [] none = refl
left_of_none (x ∷ xs) none = absurd (no_insns x xs (x ∷ xs) refl none)

pub left_zero : (f : List (List TempInsn)) (b : ℕ) → IsLeft f b 0
left_zero f b none = left_of_none (block_at f b) none

left_behind : (xs : List TempInsn) (at : ℕ) (i : TempInsn) (rest : List TempInsn) → flows_on_of i ≡ true → drop at xs ≡ i ∷ rest → drop (suc at) xs ≡ [] → is_left_at xs (suc at) ≡ true
left_behind xs at i rest flows is none =
    let empty : rest ≡ [] = sym (drop_next at xs rest i is) ∙ none in
    let one : drop at xs ≡ i ∷ [] = is ∙ ap (λ ys. i ∷ ys) empty in
    let place : suc at ≡ length xs = sym (drop_length at xs i one) in
    ap (λ o. goes_on o && (suc at == length xs)) (drop_last at xs i one) ∙ ap (λ b. b && (suc at == length xs)) flows ∙ eq-eqb (suc at) (length xs) place

pub left_next : (f : List (List TempInsn)) (b at : ℕ) (i : TempInsn) (rest : List TempInsn) → flows_on_of i ≡ true → drop at (block_at f b) ≡ i ∷ rest → IsLeft f b (suc at)
left_next f b at i rest flows is none = left_behind (block_at f b) at i rest flows is none

-- where two runs stand in a function: a place of the first, behind which there is more, from which the same may be done
pub record Stands (f g : List (List TempInsn)) (b at c to : ℕ) : Type 0 where
  pub inside : b < length f
  pub more : drop at (block_at f b) ≡ [] → suc b < length f
  pub first_left : IsLeft f b at
  pub other_left : IsLeft g c to
  pub alike : Alike f g b (drop at (block_at f b)) c (drop to (block_at g c))

module _ (f : List (List TempInsn)) (valid : Valid f) where
  pub behind_none : (b : ℕ) → b < length f → block_at f b ≡ [] → suc b < length f
  behind_none b below none =
      successor_within targets_of flows_on_of f valid.goes valid.ends b (suc b) below
      (subst (λ xs. Contains (successors_of targets_of flows_on_of b xs) (suc b)) (sym none) (0, omega arith, refl))

  behind_flow : (b : ℕ) (i : TempInsn) → b < length f → last_of (block_at f b) ≡ Some i → flows_on_of i ≡ true → suc b < length f
  behind_flow b i below last flows =
      successor_within targets_of flows_on_of f valid.goes valid.ends b (suc b) below
      (subst (λ o. Contains (successors_after targets_of flows_on_of b o) (suc b)) (sym last)
      (Contains-append_right (targets_of i) (if flows_on_of i then suc b ∷ [] else []) (suc b)
      (subst (λ goes_on. Contains (if goes_on then suc b ∷ [] else []) (suc b)) (sym flows) (0, omega arith, refl))))

  -- behind an instruction that goes on
  more_behind : (b at : ℕ) (i : TempInsn) (rest : List TempInsn) → b < length f → flows_on_of i ≡ true → drop at (block_at f b) ≡ i ∷ rest → drop (suc at) (block_at f b) ≡ [] → suc b < length f
  more_behind b at i rest below flows is none =
      let empty : rest ≡ [] = sym (drop_next at (block_at f b) rest i is) ∙ none in
      behind_flow b i below (drop_last at (block_at f b) i (is ∙ ap (λ xs. i ∷ xs) empty)) flows

  pub target_below : (b at t : ℕ) (i : TempInsn) (rest : List TempInsn) → b < length f → drop at (block_at f b) ≡ i ∷ rest → targets_of i ≡ t ∷ [] → t < length f
  target_below b at t i rest below is one =
      (target_goes targets_of flows_on_of f valid.goes valid.ends b at i below (drop_get at (block_at f b) rest i is) t
      (subst (λ ts. Contains ts t) (sym one) (0, omega arith, refl))).1

module _ (f g : List (List TempInsn)) (valid : Valid f) where
  pub stands_next : (b at c to : ℕ) (i j : TempInsn) (rest ks : List TempInsn) → b < length f → flows_on_of i ≡ true → flows_on_of j ≡ true → drop at (block_at f b) ≡ i ∷ rest → drop to (block_at g c) ≡ j ∷ ks → Alike f g b rest c ks → Stands f g b (suc at) c (suc to)
  stands_next b at c to i j rest ks below flows flows1 is there alike = record {
    inside = below;
    more = more_behind f valid b at i rest below flows is;
    first_left = left_next f b at i rest flows is;
    other_left = left_next g c to j ks flows1 there;
    alike = subst (λ xs. Alike f g b xs c (drop (suc to) (block_at g c))) (sym (drop_next at (block_at f b) rest i is))
        (subst (λ ys. Alike f g b rest c ys) (sym (drop_next to (block_at g c) ks j there)) alike);
  }

  pub stands_at : (t c to : ℕ) → t < length f → IsLeft g c to → Alike f g t (block_at f t) c (drop to (block_at g c)) → Stands f g t 0 c to
  stands_at t c to below left alike = record { inside = below; more = behind_none f valid t below; first_left = left_zero f t; other_left = left; alike = alike }

-- frames by their parts
abbrev pub frame : (n own : ℕ) → Temps → (b at : ℕ) → Frame Temps
frame n own rs b at = record { point = record { function = n; block = b; at = at }; own = own; store = rs }

abbrev pub config : (n own : ℕ) → Temps → (b at : ℕ) → List (Frame Temps) → World → Config Temps
config n own rs b at us w = record { here = frame n own rs b at; callers = us; world = w }

abbrev pub site_in_function : (b at : ℕ) → Option TemporaryCode → Option (Site Content Temps)
site_in_function b at o = site_in (λ k. temp_site (widest_call (blocks_in o))) b at (slice_get (blocks_in o) b)

-- the site of an instruction in a function
abbrev pub insn_site : TemporaryCode → TempInsn → Site Content Temps
insn_site g i = temp_site (widest_call g.blocks) i

site_of : (hs : List TemporaryCode) (n c to : ℕ) (g : TemporaryCode) → slice_get hs n ≡ Some g → c < length g.blocks → site_in_function c to (slice_get hs n) ≡ site_or_next (insn_site g) c (is_left_at (block_at g.blocks c) to) (slice_get (block_at g.blocks c) to)
site_of hs n c to g is below = ap (site_in_function c to) is ∙ ap (site_in (λ k. insn_site g) c to) (slice_get-get_or g.blocks c [] below)

pub site_insn : (hs : List TemporaryCode) (n c to : ℕ) (g : TemporaryCode) (i : TempInsn) (rest : List TempInsn) → slice_get hs n ≡ Some g → c < length g.blocks → drop to (block_at g.blocks c) ≡ i ∷ rest → site_in_function c to (slice_get hs n) ≡ Some (insn_site g i)
site_insn hs n c to g i rest is below here = site_of hs n c to g is below ∙ ap (site_or_next (insn_site g) c (is_left_at (block_at g.blocks c) to)) (drop_get to (block_at g.blocks c) rest i here)

pub site_end : (hs : List TemporaryCode) (n c to : ℕ) (g : TemporaryCode) → slice_get hs n ≡ Some g → c < length g.blocks → drop to (block_at g.blocks c) ≡ [] → IsLeft g.blocks c to → site_in_function c to (slice_get hs n) ≡ Some (next_site c)
site_end hs n c to g is below none left = site_of hs n c to g is below ∙ ap (site_or_next (insn_site g) c (is_left_at (block_at g.blocks c) to)) (drop_none to (block_at g.blocks c) none) ∙ ap (next_if c) (left none)

-- what a site leaves in the store
abbrev pub put_after : TempInsn → List Content → Temps → Temps
put_after i cs s = put_all holder_eq (holders_written i) cs (without (is_emptied i) s)

-- an instruction that is no call loses nothing
kept_at : (i : TempInsn) (s : Temps) → calls_function i ≡ false → (h : Holder) → without (is_emptied i) s h ≡ s h
kept_at i s calm h = ap (λ b. if b then unset_content else s h) (never_emptied i h calm)
  where
    never_emptied : (i : TempInsn) (h : Holder) → calls_function i ≡ false → is_emptied i h ≡ false
    never_emptied i (Temp k) calm = refl
    never_emptied i (Fixed k) calm = refl
    never_emptied i (Incoming k) calm = refl
    never_emptied i (Outgoing k) calm = calm

pub kept_temps : (i : TempInsn) (s : Temps) → calls_function i ≡ false → without (is_emptied i) s ≡ s
kept_temps i s calm = fun_ext (kept_at i s calm)

-- steps that only go elsewhere in a function
module _ (rooms : Rooms) (hs : List TemporaryCode) where
  abbrev code : Code Content Temps
  code = temp_code hs

  pub step_end : (n own : ℕ) (rs : Temps) (c to : ℕ) (us : List (Frame Temps)) (w : World) (g : TemporaryCode) → slice_get hs n ≡ Some g → c < length g.blocks → drop to (block_at g.blocks c) ≡ [] → IsLeft g.blocks c to → step Content Temps rooms code (config n own rs c to us w) ≡ Goes (config n own rs (suc c) 0 us w)
  step_end n own rs c to us w g is below none left = ap (step_at Content Temps rooms code (config n own rs c to us w)) (site_end hs n c to g is below none left)

  pub step_jump : (n own : ℕ) (rs : Temps) (c to : ℕ) (us : List (Frame Temps)) (w : World) (g : TemporaryCode) (i : TempInsn) (t : ℕ) (rest : List TempInsn) → slice_get hs n ≡ Some g → c < length g.blocks → drop to (block_at g.blocks c) ≡ i ∷ rest → i ≡ Jump t → step Content Temps rooms code (config n own rs c to us w) ≡ Goes (config n own rs t 0 us w)
  step_jump n own rs c to us w g i t rest is below here jump =
      ap (step_at Content Temps rooms code (config n own rs c to us w)) (site_insn hs n c to g i rest is below here ∙ ap (λ j. Some (insn_site g j)) jump) ∙ ap (λ s. Goes (config n own s t 0 us w)) (kept_temps (Jump t) rs refl)

  pub record Came (n own : ℕ) (rs : Temps) (c to : ℕ) (us : List (Frame Temps)) (w : World) (g : TemporaryCode) (d : ℕ) (ys : List TempInsn) : Type 0 where
    pub steps : ℕ
    pub place : ℕ
    pub runs : exec Content Temps rooms code steps (config n own rs c to us w) ≡ Goes (config n own rs d place us w)
    pub left : drop place (block_at g.blocks d) ≡ ys
    pub inside : d < length g.blocks

  no_past : (g : List (List TempInsn)) {c d : ℕ} {xs zs : List TempInsn} (y : TempInsn) (ys : List TempInsn) → Silent g c xs d zs → zs ≡ y ∷ ys → length g ≤ c → xs ≡ [] → ⊥
  no_past g {xs = xs} y ys Here is past none = no_insns y ys xs is none
  no_past g y ys (ByJump {xs = xs} i t jump rest) is past none = no_insns i xs (i ∷ xs) refl none
  no_past g {c = c} y ys (ByFall rest) is past none = no_past g y ys rest is (omega arith) (past_blocks g (suc c) (omega arith))

  there : (g : List (List TempInsn)) {c d : ℕ} {xs zs : List TempInsn} (y : TempInsn) (ys : List TempInsn) (to : ℕ) → Silent g c xs d zs → zs ≡ y ∷ ys → drop to (block_at g c) ≡ xs → c < length g
  there g {c = c} y ys to silent is at = elim (cases_lt c (length g)) [
    | inl below ↦ below
    | inr past ↦ absurd (no_past g y ys silent is past (sym at ∙ drop_nil to (block_at g c) (past_blocks g c past)))
  ]

  pub silent_run : (n own : ℕ) (rs : Temps) (us : List (Frame Temps)) (w : World) (g : TemporaryCode) → slice_get hs n ≡ Some g → {c d : ℕ} {xs zs : List TempInsn} (y : TempInsn) (ys : List TempInsn) (to : ℕ) → IsLeft g.blocks c to → Silent g.blocks c xs d zs → zs ≡ y ∷ ys → drop to (block_at g.blocks c) ≡ xs → Came n own rs c to us w g d zs
  silent_run n own rs us w g is {c = c} y ys to left Here zs_is at = record { steps = 0; place = to; runs = refl; left = at; inside = there g.blocks y ys to Here zs_is at }
  silent_run n own rs us w g is {c = c} y ys to left (ByJump {xs = xs} i t jump rest) zs_is at =
      let came = silent_run n own rs us w g is y ys 0 (left_zero g.blocks t) rest zs_is refl in
      record {
        steps = suc came.steps;
        place = came.place;
        runs = ap (λ x. go_on x (exec Content Temps rooms code came.steps)) (step_jump n own rs c to us w g i t xs is (there g.blocks y ys to (ByJump i t jump rest) zs_is at) at jump) ∙ came.runs;
        left = came.left;
        inside = came.inside;
      }
  silent_run n own rs us w g is {c = c} y ys to left (ByFall rest) zs_is at =
      let came = silent_run n own rs us w g is y ys 0 (left_zero g.blocks (suc c)) rest zs_is refl in
      record {
        steps = suc came.steps;
        place = came.place;
        runs = ap (λ x. go_on x (exec Content Temps rooms code came.steps)) (step_end n own rs c to us w g is (there g.blocks y ys to (ByFall rest) zs_is at) at left) ∙ came.runs;
        left = came.left;
        inside = came.inside;
      }

  pub go_zero : (x : Next Temps) → go_on x (exec Content Temps rooms code 0) ≡ x
  go_zero (Goes k) = refl
  go_zero (Over e) = refl
