-- Functions whose blocks are walked run alike.
use Rattle.std.proofs.Common.{◌≡◌, ℕ, zero, suc, ◌-◌, ◌≤◌, ◌<◌, ◌⊎◌, List, [], ◌∷◌, ◌++◌, Option, Some, None, Bool, true, false, if◌then◌else◌, refl, sym, ap, ◌∙◌, subst, inl, inr, map, drop, length, All, arith}
use Rattle.std.specs.Prelude.{slice_get, ◌==◌, ◌&&◌, Contains}
use Rattle.std.proofs.lemmas.Bool.{eqb-true, eq-eqb}
use Rattle.std.proofs.lemmas.Option.{slice_get_within, get_or_from_slice_get, slice_get_past}
use Rattle.std.specs.Int.Bits.{or_zero_l}
use Rattle.std.proofs.lemmas.List.Elements.{Contains-append_left, Contains-append_right}
use Rattle.mem_model.specs.declared.value.Value.TheVariants.{Word, Address, Unset}
use Rattle.mem_model.specs.World.{Outer, Rooms}
use Rattle.machine_model.specs.Code.{HasNoMeaning, Act, Writes, Stops, Point, next_point, block_point, entry_point}
use Rattle.pass_core.specs.Functions.{EndsLate, last_of, successors_after, successors_of}
use Rattle.temp_ir.specs.declared.insn.TempInsn.{TempInsn}
use Rattle.temp_ir.specs.declared.insn.TempInsn.TheVariants as i
use Rattle.temp_ir.specs.Insns.{targets_of, flows_on_of}
use Rattle.alloc_model.specs.Contents.{Content, Plain, Bundle, word_content}
use Rattle.alloc_model.specs.Stores.{without, put_all}
use Rattle.alloc_model.specs.Effect.{Temp, holder_eq, holders_read, holders_written, is_emptied, widest_call, does}
use Rattle.alloc_model.specs.Temporaries.{TemporaryCode, blocks_in, sizes_in, Temps, temp_site, temp_site_at, temp_code, next_site, next_if, is_left_at, site_or_next, site_in, goes_on, flows_out}
use Rattle.alloc_model.specs.Laws.{OnlyTheseTrap}
use Rattle.block_coalescing.specs.Forms.{write_of, is_pure, copy_of}
use Rattle.block_coalescing.specs.Walks.{Names, BehindName, IsBehind, IsCopied, IsLost, IsRenamed, IsHome, Walked, Ends, Copies, Loses, Keeps, BlockWalked, OptionWalked, AreCoalesced}
use Rattle.machine_model.proofs.Lagging.{both_take, AloneAct, WritesAlone, MeansNothing, Stands, Both, Alone, Nowhere, Lags}
use Rattle.block_coalescing.proofs.Forms.{SameForm, same_form}
use Rattle.block_coalescing.proofs.Pure.{PureAct, Gives_all, Means_nothing, pure_act, pure_form, copy_form}
use Rattle.block_coalescing.proofs.Held.{Holds, Agree, reads_same, writes_same, lost_holds, copy_holds, top_holds, home_agrees, same_agrees}
use Rattle.block_coalescing.proofs.Blocks.{late_tail, last_leaves, last_kept}
use Rattle.block_coalescing.proofs.Functions.{zip_walked, widest_same}

-- ---- places of lists

pub place : {A : Type 0} (l : List A) (at : ℕ) (x : A) (xs : List A) → drop at l ≡ x ∷ xs → (slice_get l at ≡ Some x) × (drop (suc at) l ≡ xs)
place [] zero x xs e = absurd (cc)
place [] (suc at) x xs e = absurd (cc)
place (y ∷ l) zero x xs e = let head : y ≡ x = cc in let tail : l ≡ xs = cc in (ap (λ k. Some k) head, tail)
place (y ∷ l) (suc at) x xs e = place l at x xs e

pub place_end : {A : Type 0} (l : List A) (at : ℕ) → drop at l ≡ [] → (slice_get l at ≡ None) × (length l ≤ at)
place_end [] at e = (refl, omega arith)
place_end (y ∷ l) zero e = absurd (cc)
place_end (y ∷ l) (suc at) e = let rest = place_end l at e in let past = rest.1 in (rest.0, omega (arith, past))

-- what is left of a block ends as that does
late_rest : (l : List TempInsn) (at : ℕ) (xs : List TempInsn) → drop at l ≡ xs → EndsLate targets_of flows_on_of l → EndsLate targets_of flows_on_of xs
late_rest l zero xs e ends = subst (EndsLate targets_of flows_on_of) e ends
late_rest [] (suc at) xs e ends = subst (EndsLate targets_of flows_on_of) e ends
late_rest (y ∷ l) (suc at) xs e ends = late_rest l at xs e (late_tail y l ends)

last_rest : (l : List TempInsn) (at : ℕ) (x : TempInsn) → drop at l ≡ x ∷ [] → last_of l ≡ Some x
last_rest l at x e =
    let here = place l at x [] e in
    let past = (place_end l (suc at) here.1).1 in
    let within = slice_get_within l at x here.0 in
    let last : length l - 1 ≡ at = omega (arith, past, within) in
    ap (slice_get l) last ∙ here.0

-- ---- instructions that jump write no temporary

jump_writes_none : (x : TempInsn) → 0 < length (targets_of x) → write_of x ≡ None
jump_writes_none (i.Address op d base plus) some = absurd (omega (arith, some))
jump_writes_none (i.ObjectAddress d place plus) some = absurd (omega (arith, some))
jump_writes_none (i.Load op d pointer plus) some = absurd (omega (arith, some))
jump_writes_none (i.Store op a pointer plus) some = absurd (omega (arith, some))
jump_writes_none (i.Operate op d a b) some = absurd (omega (arith, some))
jump_writes_none (i.Extend op d a) some = absurd (omega (arith, some))
jump_writes_none (i.ToFixed register s) some = absurd (omega (arith, some))
jump_writes_none (i.FromFixed d register) some = absurd (omega (arith, some))
jump_writes_none (i.SetFixed register number) some = absurd (omega (arith, some))
jump_writes_none (i.WriteArgument number s) some = absurd (omega (arith, some))
jump_writes_none (i.ReadArgument d number) some = absurd (omega (arith, some))
jump_writes_none (i.Branch op s block) some = refl
jump_writes_none (i.Jump block) some = refl
jump_writes_none (i.Call function arguments) some = absurd (omega (arith, some))
jump_writes_none (i.Divide routine) some = absurd (omega (arith, some))
jump_writes_none (i.Serve service) some = absurd (omega (arith, some))
jump_writes_none (i.Return with_value) some = absurd (omega (arith, some))
jump_writes_none i.Mark some = absurd (omega (arith, some))

has_target : (ts : List ℕ) (k block : ℕ) → slice_get ts k ≡ Some block → 0 < length ts
has_target ts k block e = let within = slice_get_within ts k block e in omega (arith, within)

contains_target : (ts : List ℕ) (k block : ℕ) → slice_get ts k ≡ Some block → Contains ts block
contains_target ts k block e = (k, slice_get_within ts k block e, get_or_from_slice_get ts k block block e)

all_at : {A : Type 0} (P : A → Type 0) (xs : List A) (k : ℕ) (x : A) → slice_get xs k ≡ Some x → All P xs → P x
all_at P xs k x e all = subst P (get_or_from_slice_get xs k x x e) (all k x (slice_get_within xs k x e))

and_left : (a b : Bool) → (a && b) ≡ true → a ≡ true
and_left true b e = refl
and_left false b e = absurd (cc)

and_right : (a b : Bool) → (a && b) ≡ true → b ≡ true
and_right true b e = e
and_right false b e = absurd (cc)

only_one : (b k t : ℕ) → slice_get (b ∷ []) k ≡ Some t → b ≡ t
only_one b k t is =
    let within = slice_get_within (b ∷ []) k t is in
    let first : k ≡ 0 = omega (arith, within) in
    let read : slice_get (b ∷ []) 0 ≡ Some t = ap (slice_get (b ∷ [])) (sym first) ∙ is in
    cc

not_past : (n m : ℕ) → n ≡ m → (suc n == m) ≡ false
not_past n m e = go (suc n == m) refl
  where
    go : (b : Bool) → (suc n == m) ≡ b → b ≡ false
    go true f = let same : suc n ≡ m = eqb-true (suc n) m f in absurd (omega (arith, same, e))
    go false f = refl

and_false : (a b : Bool) → b ≡ false → (a && b) ≡ false
and_false true b e = e
and_false false b e = refl

-- the block behind is one that follows
next_follows : (block : ℕ) (o : Option TempInsn) → goes_on o ≡ true → Contains (successors_after targets_of flows_on_of block o) (suc block)
next_follows block None e = contains_target (suc block ∷ []) 0 (suc block) refl
next_follows block (Some x) e =
    subst (λ b. Contains (targets_of x ++ (if b then suc block ∷ [] else [])) (suc block)) (sym e)
    (Contains-append_right (targets_of x) (suc block ∷ []) (suc block) (contains_target (suc block ∷ []) 0 (suc block) refl))

target_follows : (block to : ℕ) (x : TempInsn) (insns : List TempInsn) → last_of insns ≡ Some x → Contains (targets_of x) to → Contains (successors_of targets_of flows_on_of block insns) to
target_follows block to x insns e is =
    subst (λ o. Contains (successors_after targets_of flows_on_of block o) to) (sym e)
    (Contains-append_left (targets_of x) (if flows_on_of x then suc block ∷ [] else []) to is)

stays_behind : (d e : Option ℕ) (n : Names) → d ≡ None → e ≡ None → IsBehind d e n n
stays_behind d e n f g = record { each = λ r q named. subst (λ o. BehindName n o e r q) (sym f) (subst (λ o. BehindName n None o r q) (sym g) named) }

-- ---- what a copy does

pub data CopyAct (v : Content) (o : Outer) (a : Act Content) : Type 0 where
  Gives_it : a ≡ Writes (v ∷ []) o → CopyAct v o a
  Gives_none : a ≡ Stops HasNoMeaning o → CopyAct v o a

copy_act : (widest own d s : ℕ) (v : Content) (o : Outer) → CopyAct v o (does widest (copy_of d s) own (v ∷ []) o)
copy_act widest own d s (Plain (Word n)) o = Gives_it (ap (λ k. Writes (word_content k ∷ []) o) (or_zero_l n))
copy_act widest own d s (Plain (Address p)) o = Gives_it refl
copy_act widest own d s (Plain Unset) o = Gives_none refl
copy_act widest own d s (Bundle cells) o = Gives_it refl

-- ---- functions

pub record WalkedCode (f g : TemporaryCode) : Type 0 where
  pub temps : ℕ
  pub sizes : f.sizes ≡ g.sizes
  pub late : All (EndsLate targets_of flows_on_of) f.blocks
  pub coalesced : AreCoalesced temps f.blocks g.blocks

abbrev pub WalkedAt : Option TemporaryCode → Option TemporaryCode → Type 0
WalkedAt None None = Unit {0}
WalkedAt (Some f) (Some g) = WalkedCode f g
WalkedAt _ _ = ⊥

module _ (fs gs : List TemporaryCode) where
  -- a place of a block and one of its second version, from which the rest is walked
  pub record Walking (p q : Point) (s t : Temps) : Type 0 where
    pub f : TemporaryCode
    pub g : TemporaryCode
    pub code : WalkedCode f g
    pub there : slice_get fs p.function ≡ Some f
    pub there' : slice_get gs q.function ≡ Some g
    pub function : p.function ≡ q.function
    pub block : p.block ≡ q.block
    pub insns : List TempInsn
    pub insns' : List TempInsn
    pub here : slice_get f.blocks p.block ≡ Some insns
    pub here' : slice_get g.blocks q.block ≡ Some insns'
    pub whole : BlockWalked code.temps (code.coalesced.tops p.block) (code.coalesced.bottoms p.block) insns insns'
    pub late : EndsLate targets_of flows_on_of insns
    pub names : Names
    pub xs : List TempInsn
    pub ys : List TempInsn
    pub rest : drop p.at insns ≡ xs
    pub rest' : drop q.at insns' ≡ ys
    pub within' : q.at ≤ length insns'
    pub walk : Walked code.temps (code.coalesced.bottoms p.block) names xs ys
    pub holds : Holds names s t

  pub data Related (p q : Point) (s t : Temps) : Type 0 where
    Walks : Walking p q s t → Related p q s t
    Past : temp_site_at (blocks_in (slice_get fs p.function)) p ≡ None → Related p q s t

  -- the top of a block
  begins : (p q : Point) (f g : TemporaryCode) (code : WalkedCode f g) → slice_get fs p.function ≡ Some f → slice_get gs q.function ≡ Some g → p.function ≡ q.function → (block : ℕ) (u v : Temps) → Agree (code.coalesced.tops block) u v → Related (block_point p block) (block_point q block) u v
  begins p q f g code there there' function block u v agree = go (slice_get f.blocks block) (slice_get g.blocks block) refl refl (code.coalesced.walked.each block)
    where
      go : (o o' : Option (List TempInsn)) → slice_get f.blocks block ≡ o → slice_get g.blocks block ≡ o' → OptionWalked code.temps (code.coalesced.tops block) (code.coalesced.bottoms block) o o' → Related (block_point p block) (block_point q block) u v
      go None o' e e' walked = Past (ap (λ k. temp_site_at (blocks_in k) (block_point p block)) there ∙ ap (site_in (λ at. temp_site (widest_call f.blocks)) block 0) e)
      go (Some xs) None e e' walked = absurd walked
      go (Some xs) (Some ys) e e' walked = Walks (record {
        f = f;
        g = g;
        code = code;
        there = there;
        there' = there';
        function = function;
        block = refl;
        insns = xs;
        insns' = ys;
        here = e;
        here' = e';
        whole = walked;
        late = all_at (EndsLate targets_of flows_on_of) f.blocks block xs e code.late;
        names = walked.names;
        xs = xs;
        ys = ys;
        rest = refl;
        rest' = refl;
        within' = omega arith;
        walk = walked.walked;
        holds = top_holds walked.names (code.coalesced.tops block) u v walked.start agree;
      })

  module _ (rooms : Rooms) (traps : OnlyTheseTrap) (p q : Point) (s t : Temps) (k : Walking p q s t) where
    abbrev Here : Type 0
    Here = Stands Content Temps Temps rooms (temp_code fs) (temp_code gs) Related p q s t

    site_before : (o : Option TempInsn) → slice_get k.insns p.at ≡ o → temp_site_at (blocks_in (slice_get fs p.function)) p ≡ site_or_next (temp_site (widest_call k.f.blocks)) p.block (is_left_at k.insns p.at) o
    site_before o e =
        ap (λ f. temp_site_at (blocks_in f) p) k.there
        ∙ ap (site_in (λ at. temp_site (widest_call k.f.blocks)) p.block p.at) k.here
        ∙ ap (site_or_next (temp_site (widest_call k.f.blocks)) p.block (is_left_at k.insns p.at)) e

    widest_is : widest_call k.g.blocks ≡ widest_call k.f.blocks
    widest_is = widest_same k.code.temps k.f.blocks k.g.blocks (zip_walked k.code.temps k.code.coalesced.tops k.code.coalesced.bottoms k.f.blocks k.g.blocks k.code.coalesced.walked.each)

    site_after : (o : Option TempInsn) → slice_get k.insns' q.at ≡ o → temp_site_at (blocks_in (slice_get gs q.function)) q ≡ site_or_next (temp_site (widest_call k.f.blocks)) q.block (is_left_at k.insns' q.at) o
    site_after o e =
        ap (λ f. temp_site_at (blocks_in f) q) k.there'
        ∙ ap (site_in (λ at. temp_site (widest_call k.g.blocks)) q.block q.at) k.here'
        ∙ ap (site_or_next (temp_site (widest_call k.g.blocks)) q.block (is_left_at k.insns' q.at)) e
        ∙ ap (λ w. site_or_next (temp_site w) q.block (is_left_at k.insns' q.at) o) widest_is

    -- a block that follows, from the bottom of this one
    follows : (next : ℕ) (u v : Temps) → Contains (successors_of targets_of flows_on_of p.block k.insns) next → Agree (k.code.coalesced.bottoms p.block) u v → Related (block_point p next) (block_point q next) u v
    follows next u v is agree = begins p q k.f k.g k.code k.there k.there' k.function next u v (record {
      temps = λ r live. agree.temps r (k.code.coalesced.flows p.block next r k.insns k.here is live);
      others = agree.others;
    })

    -- further on in the block, with the first version a step ahead
    ahead : (names : Names) (xs ys : List TempInsn) (u : Temps) → drop (suc p.at) k.insns ≡ xs → drop q.at k.insns' ≡ ys → Walked k.code.temps (k.code.coalesced.bottoms p.block) names xs ys → Holds names u t → Related (next_point p) q u t
    ahead names xs ys u e e' walk holds = Walks (record {
      f = k.f;
      g = k.g;
      code = k.code;
      there = k.there;
      there' = k.there';
      function = k.function;
      block = k.block;
      insns = k.insns;
      insns' = k.insns';
      here = k.here;
      here' = k.here';
      whole = k.whole;
      late = k.late;
      names = names;
      xs = xs;
      ys = ys;
      rest = e;
      rest' = e';
      within' = k.within';
      walk = walk;
      holds = holds;
    })

    -- with both a step ahead
    along : (names : Names) (xs ys : List TempInsn) (u v : Temps) → drop (suc p.at) k.insns ≡ xs → drop (suc q.at) k.insns' ≡ ys → suc q.at ≤ length k.insns' → Walked k.code.temps (k.code.coalesced.bottoms p.block) names xs ys → Holds names u v → Related (next_point p) (next_point q) u v
    along names xs ys u v e e' within walk holds = Walks (record {
      f = k.f;
      g = k.g;
      code = k.code;
      there = k.there;
      there' = k.there';
      function = k.function;
      block = k.block;
      insns = k.insns;
      insns' = k.insns';
      here = k.here;
      here' = k.here';
      whole = k.whole;
      late = k.late;
      names = names;
      xs = xs;
      ys = ys;
      rest = e;
      rest' = e';
      within' = within;
      walk = walk;
      holds = holds;
    })

    -- behind the end of the block there is nothing
    past_end : drop p.at k.insns ≡ [] → (p.at == length k.insns) ≡ true → (u v : Temps) → Related (next_point p) (next_point q) u v
    past_end e last u v =
        let at_end : p.at ≡ length k.insns = eqb-true p.at (length k.insns) last in
        let none : slice_get k.insns (suc p.at) ≡ None = slice_get_past k.insns (suc p.at) (omega (arith, at_end)) in
        Past (ap (λ f. temp_site_at (blocks_in f) (next_point p)) k.there
        ∙ ap (site_in (λ at. temp_site (widest_call k.f.blocks)) p.block (suc p.at)) k.here
        ∙ ap (site_or_next (temp_site (widest_call k.f.blocks)) p.block (is_left_at k.insns (suc p.at))) none
        ∙ ap (next_if p.block) (and_false (flows_out k.insns) (suc p.at == length k.insns) (not_past p.at (length k.insns) at_end)))

    flows_same : flows_out k.insns' ≡ flows_out k.insns
    flows_same = last_kept k.code.temps (k.code.coalesced.bottoms p.block) goes_on (λ x straight. straight.1) (λ x y e. (same_form x y e).flows) k.whole.names k.insns k.insns' k.whole.walked k.late

    left_too : drop q.at k.insns' ≡ [] → flows_out k.insns ≡ true → is_left_at k.insns' q.at ≡ true
    left_too e' out =
        let past = (place_end k.insns' q.at e').1 in
        let within = k.within' in
        let at_end : q.at ≡ length k.insns' = omega (arith, past, within) in
        ap (λ b. b && (q.at == length k.insns')) (flows_same ∙ out) ∙ eq-eqb q.at (length k.insns') at_end

    ends : (n : Names) → drop p.at k.insns ≡ [] → drop q.at k.insns' ≡ [] → Holds n s t → IsHome (k.code.coalesced.bottoms p.block) n → (left : Bool) → is_left_at k.insns p.at ≡ left → Here
    ends n e e' held home false left = Nowhere (site_before None (place_end k.insns p.at e).0 ∙ ap (next_if p.block) left)
    ends n e e' held home true left =
        let out : flows_out k.insns ≡ true = and_left (flows_out k.insns) (p.at == length k.insns) left in
        Both (next_site p.block) (next_site q.block) (site_before None (place_end k.insns p.at e).0 ∙ ap (next_if p.block) left)
        (site_after None (place_end k.insns' q.at e').0 ∙ ap (next_if q.block) (left_too e' out)) (both_take Content Temps Temps rooms (temp_code fs) (temp_code gs) Related p q (next_site p.block) (next_site q.block) s t (record {
          function = k.function;
          does = λ own o. refl;
          turn = refl;
          targets = ap (λ b. suc b ∷ []) k.block;
          put = λ vs. past_end e (and_right (flows_out k.insns) (p.at == length k.insns) left) s t;
          edge = λ j block is.
              let next : suc p.block ≡ block = only_one (suc p.block) j block is in
              follows block s t (subst (λ b. Contains (successors_of targets_of flows_on_of p.block k.insns) b) next (next_follows p.block (last_of k.insns) out))
              (home_agrees n (k.code.coalesced.bottoms p.block) s t home held);
        }))

    -- a copy that the second version lacks
    copies : (n m : Names) (d f : ℕ) (us ys : List TempInsn) → drop p.at k.insns ≡ copy_of d f ∷ us → drop q.at k.insns' ≡ ys → Holds n s t → IsCopied d f n m → Walked k.code.temps (k.code.coalesced.bottoms p.block) m us ys → Here
    copies n m d f us ys e e' held is walk =
        Alone (temp_site (widest_call k.f.blocks) (copy_of d f)) (site_before (Some (copy_of d f)) (place k.insns p.at (copy_of d f) us e).0) refl
        (λ own o. go own o (copy_act (widest_call k.f.blocks) own d f (s (Temp f)) o))
      where
        go : (own : ℕ) (o : Outer) → CopyAct (s (Temp f)) o (does (widest_call k.f.blocks) (copy_of d f) own (s (Temp f) ∷ []) o) → AloneAct Content Temps Temps rooms (temp_code fs) (temp_code gs) Related p q (temp_site (widest_call k.f.blocks) (copy_of d f)) s t own o
        go own o (Gives_it a) =
            WritesAlone (s (Temp f) ∷ []) a
            (ahead m us ys _ (place k.insns p.at (copy_of d f) us e).1 e' walk (copy_holds n m (copy_of d f) (copy_form d f) f (s (Temp f) ∷ []) s t refl is held))
        go own o (Gives_none a) = MeansNothing a

    -- a dead instruction
    loses : (n m : Names) (x : TempInsn) (us ys : List TempInsn) → drop p.at k.insns ≡ x ∷ us → drop q.at k.insns' ≡ ys → Holds n s t → is_pure x ≡ true → IsLost (write_of x) n m → Walked k.code.temps (k.code.coalesced.bottoms p.block) m us ys → Here
    loses n m x us ys e e' held pure is walk =
        Alone (temp_site (widest_call k.f.blocks) x) (site_before (Some x) (place k.insns p.at x us e).0) (pure_form x pure).turn
        (λ own o. go own o (pure_act traps x pure (widest_call k.f.blocks) own (map s (holders_read x)) o))
      where
        go : (own : ℕ) (o : Outer) → PureAct o (does (widest_call k.f.blocks) x own (map s (holders_read x)) o) → AloneAct Content Temps Temps rooms (temp_code fs) (temp_code gs) Related p q (temp_site (widest_call k.f.blocks) x) s t own o
        go own o (Gives_all cs a) =
            WritesAlone cs a (ahead m us ys _ (place k.insns p.at x us e).1 e' walk (lost_holds n m x (pure_form x pure) cs s t is held))
        go own o (Means_nothing a) = MeansNothing a

    -- an instruction of both
    keeps : (n m : Names) (x y : TempInsn) (us vs : List TempInsn) → drop p.at k.insns ≡ x ∷ us → drop q.at k.insns' ≡ y ∷ vs → Holds n s t → IsRenamed k.code.temps n x y → IsBehind (write_of x) (write_of y) n m → (targets_of x ≡ []) ⊎ IsHome (k.code.coalesced.bottoms p.block) n → Walked k.code.temps (k.code.coalesced.bottoms p.block) m us vs → Here
    keeps n m x y us vs e e' held renamed is leaves walk =
        Both (temp_site (widest_call k.f.blocks) x) (temp_site (widest_call k.f.blocks) y) (site_before (Some x) (place k.insns p.at x us e).0) (site_after (Some y) (place k.insns' q.at y vs e').0) (both_take Content Temps Temps rooms (temp_code fs) (temp_code gs) Related p q (temp_site (widest_call k.f.blocks) x) (temp_site (widest_call k.f.blocks) y) s t (record {
          function = k.function;
          does = λ own o.
              ap (λ cs. does (widest_call k.f.blocks) x own cs o) (reads_same k.code.temps n s t x y held form renamed.reads)
              ∙ form.acts (widest_call k.f.blocks) own (map t (holders_read y)) o;
          turn = form.turn;
          targets = form.targets;
          put = λ cs.
              along m us vs _ _ (place k.insns p.at x us e).1 (place k.insns' q.at y vs e').1
              (let within = slice_get_within k.insns' q.at y (place k.insns' q.at y vs e').0 in omega (arith, within)) walk
              (writes_same n m x y cs s t form is held);
          edge = λ j block target. jumps leaves j block target;
        }))
      where
        form : SameForm x y
        form = same_form x y renamed.form

        jumps : (targets_of x ≡ []) ⊎ IsHome (k.code.coalesced.bottoms p.block) n → (j block : ℕ) → slice_get (targets_of x) j ≡ Some block → Related (block_point p block) (block_point q block) (put_all holder_eq (holders_written x) [] (without (is_emptied x) s)) (put_all holder_eq (holders_written y) [] (without (is_emptied y) t))
        jumps (inl none) j block target = let some = has_target (targets_of x) j block target in absurd (omega (arith, ap length none, some))
        jumps (inr home) j block target =
            let some = has_target (targets_of x) j block target in
            let some' : 0 < length (targets_of y) = subst (λ ts. 0 < length ts) form.targets some in
            let last : us ≡ [] = last_leaves x us (late_rest k.insns p.at (x ∷ us) e k.late) some in
            follows block _ _ (target_follows p.block block x k.insns (last_rest k.insns p.at x (e ∙ ap (λ l. x ∷ l) last)) (contains_target (targets_of x) j block target))
            (home_agrees n (k.code.coalesced.bottoms p.block) _ _ home
            (writes_same n n x y [] s t form (stays_behind (write_of x) (write_of y) n (jump_writes_none x some) (jump_writes_none y some')) held))

    by_walk : (n : Names) (xs ys : List TempInsn) → drop p.at k.insns ≡ xs → drop q.at k.insns' ≡ ys → Holds n s t → Walked k.code.temps (k.code.coalesced.bottoms p.block) n xs ys → Here
    by_walk n xs ys e e' held (Ends home) = ends n e e' held home (is_left_at k.insns p.at) refl
    by_walk n xs ys e e' held (Copies m d f {xs = us} {ys = vs} is walk) = copies n m d f us vs e e' held is walk
    by_walk n xs ys e e' held (Loses m x {xs = us} {ys = vs} pure is walk) = loses n m x us vs e e' held pure is walk
    by_walk n xs ys e e' held (Keeps m x y {xs = us} {ys = vs} renamed is leaves walk) = keeps n m x y us vs e e' held renamed is leaves walk

  module _ (rooms : Rooms) (traps : OnlyTheseTrap) (codes : (function : ℕ) → WalkedAt (slice_get fs function) (slice_get gs function)) where
    stands : (p q : Point) (s t : Temps) → Related p q s t → Stands Content Temps Temps rooms (temp_code fs) (temp_code gs) Related p q s t
    stands p q s t (Walks k) = by_walk rooms traps p q s t k k.names k.xs k.ys k.rest k.rest' k.holds k.walk
    stands p q s t (Past none) = Nowhere none

    enters : (function : ℕ) (u : Temps) (o o' : Option TemporaryCode) → slice_get fs function ≡ o → slice_get gs function ≡ o' → WalkedAt o o' → Related (entry_point function) (entry_point function) u u
    enters function u None o' e e' code = Past (ap (λ f. temp_site_at (blocks_in f) (entry_point function)) e)
    enters function u (Some f) None e e' code = absurd code
    enters function u (Some f) (Some g) e e' code = begins (entry_point function) (entry_point function) f g code e e' refl 0 u u (same_agrees (code.coalesced.tops 0) u)

    same_sizes : (o o' : Option TemporaryCode) → WalkedAt o o' → sizes_in o ≡ sizes_in o'
    same_sizes None None code = refl
    same_sizes None (Some g) code = absurd code
    same_sizes (Some f) None code = absurd code
    same_sizes (Some f) (Some g) code = code.sizes

    pub lags : Lags Content Temps Temps rooms (temp_code fs) (temp_code gs) Related
    lags = record {
      stands = stands;
      entry = λ function cs. enters function _ (slice_get fs function) (slice_get gs function) refl refl (codes function);
      locals = λ function. same_sizes (slice_get fs function) (slice_get gs function) (codes function);
      status = λ cs. refl;
    }
