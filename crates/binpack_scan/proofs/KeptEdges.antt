-- The edges of an allocation are kept.
use Rattle.std.proofs.Common.{◌≡◌, ℕ, zero, suc, ◌+◌, ◌<◌, ◌≤◌, ◌==◌, nat_lt, List, [], ◌∷◌, Bool, true, false, Option, Some, None, refl, sym, ap, ◌∙◌, inl, inr, subst, length, arith}
use Rattle.std.specs.Prelude.{All, Contains, find, slice_get, slice_index_or, ◌↔◌}
use Rattle.std.proofs.lemmas.Bool.{ltb-true, ltb-false}
use Rattle.std.proofs.lemmas.Option.{slice_get_within}
use Rattle.bk_bits.specs.Sets.{has as holds}
use Rattle.pass_core.specs.Functions.{insn_at, insn_in, successors_of}
use Rattle.pass_core.specs.Live.Live.{Passes, Follows}
use Rattle.temp_ir.specs.declared.insn.TempInsn.{TempInsn}
use Rattle.temp_ir.specs.Insns.{targets_of, flows_on_of}
use Rattle.alloc_model.specs.declared.allocation.TempPlace.{TempPlace}
use Rattle.alloc_model.specs.declared.allocation.Transfer.{Transfer}
use Rattle.alloc_model.specs.Effect.{Holder, Temp, Fixed, Incoming, Outgoing}
use Rattle.alloc_model.specs.Places.{Place, Reg, Slot, Plan, edge_transfers}
use Rattle.alloc_model.specs.Needs.{is_live_at, named_place, place_at_top, IsNeeded, IsWritten}
use Rattle.alloc_model.specs.Needs.IsNeeded.{Relied, Handed}
use Rattle.alloc_model.specs.Faithful.{HolderPlaces, move_all, at_start, held_before, sorted_edges_from, KeepsEdge}
use Rattle.binpack_scan.specs.model.Edges.{register_for, IsMap, IsCodeBetween, IsEdgeCode, ends_of}
use Rattle.binpack_scan.specs.model.Made.{IsMapOf}
use Rattle.binpack_scan.specs.model.Replays.{ReplaysBlock}
use Rattle.binpack_scan.proofs.EdgeMoves.{for_there}
use Rattle.binpack_scan.proofs.EdgeSteps.{place_for, edge_asks, edge_slots, edge_tops}
use Rattle.binpack_scan.proofs.MapsOf.{an_entry, is_map, place_named, no_places, past_empty}
use Rattle.binpack_scan.proofs.EdgeCodes.{found, edge_there}

-- ---- what is needed is live

-- a temporary that a block does not write is live at its top where it is live at its end
module _ (a : Plan) (t block : ℕ) (insns : List TempInsn) (there : slice_get a.function.blocks block ≡ Some insns) (unwritten : ¬ IsWritten a t block) where
  some_insn : (xs : List TempInsn) (k : ℕ) → k < length xs → (x : TempInsn) × (slice_get xs k ≡ Some x)
  some_insn [] k w = absurd (omega (arith, w))
  some_insn (x ∷ xs) zero w = (x, refl)
  some_insn (x ∷ xs) (suc k) w = some_insn xs k (omega (arith, w))

  back : (left at : ℕ) → at + left ≡ length insns → is_live_at a t block (length insns) → is_live_at a t block at
  back zero at e lv = subst (is_live_at a t block) (let same : length insns ≡ at = omega (arith, e) in same) lv
  back (suc left) at e lv =
      let x = some_insn insns at (omega (arith, e)) in
      let is : insn_at a.function.blocks block at ≡ Some x.0 = ap (λ o. insn_in o at) there ∙ x.1 in
      Passes x.0 is (λ w. unwritten (record { at = at; insn = x.0; there = is; written = w }))
      (back left (suc at) (omega (arith, e)) lv)

  pub live_through : is_live_at a t block (length insns) → is_live_at a t block 0
  live_through lv = back (length insns) 0 (omega arith) lv

pub needed_live : (a : Plan) (t : ℕ) → ((block r : ℕ) → place_at_top a block t ≡ Reg r → is_live_at a t block 0) → (block : ℕ) → IsNeeded a t block → is_live_at a t block 0
needed_live a t named block (Relied r) = named block r.register r.stands
needed_live a t named block (Handed insns next is has unwritten unstored needed) =
    live_through a t block insns is unwritten (Follows insns next is refl has (needed_live a t named next needed))

-- ---- an allocation with these maps and edges

-- the maps of an allocation are those of a scan, and its edges have code between them
pub record IsJoined (a : Plan) (tops : List (List Bool)) : Type 0 where
  pub tops_size : length a.top ≡ length a.function.blocks
  pub top : (block : ℕ) → block < length a.function.blocks → IsMapOf a.temps false (slice_index_or tops block []) (slice_index_or a.top block [])
  pub bottom : (block : ℕ) → block < length a.function.blocks → IsMapOf a.temps true (slice_index_or tops block []) (slice_index_or a.bottom block [])
  pub live : (t block : ℕ) → (holds (slice_index_or tops block []) t ≡ true) ↔ is_live_at a t block 0
  pub replays : (block : ℕ) (insns : List TempInsn) → slice_get a.function.blocks block ≡ Some insns → ReplaysBlock a block insns
  pub ends : ends_of a.edges ≡ sorted_edges_from 0 a.function.blocks
  pub codes : All (IsEdgeCode a.bottom a.top tops tops) a.edges

slot_or_register : (t r : ℕ) {A : Type 0} → Slot t ≡ Reg r → A
slot_or_register t r e = absurd (cc)

module _ (a : Plan) (tops : List (List Bool)) (joined : IsJoined a tops) where
  top_none : (block : ℕ) → length a.function.blocks ≤ block → slice_index_or a.top block [] ≡ []
  top_none block past = past_empty a.top block (let size = joined.tops_size in omega (arith, past, size))

  pub top_map : (block : ℕ) → IsMap (slice_index_or a.top block [])
  top_map block = by (nat_lt block (length a.function.blocks)) refl
    where
      by : (c : Bool) → nat_lt block (length a.function.blocks) ≡ c → IsMap (slice_index_or a.top block [])
      by true e = is_map a.temps false (slice_index_or tops block []) (slice_index_or a.top block []) (joined.top block (ltb-true block (length a.function.blocks) e))
      by false e = subst IsMap (sym (top_none block (ltb-false block (length a.function.blocks) e))) no_places

  top_named : (block t : ℕ) → place_at_top a block t ≡ place_for t (register_for (slice_index_or a.top block []) t)
  top_named block t = by (nat_lt block (length a.function.blocks)) refl
    where
      by : (c : Bool) → nat_lt block (length a.function.blocks) ≡ c → place_at_top a block t ≡ place_for t (register_for (slice_index_or a.top block []) t)
      by true e = place_named a.temps false (slice_index_or tops block []) (slice_index_or a.top block []) (joined.top block (ltb-true block (length a.function.blocks) e)) t
      by false e =
          let none = top_none block (ltb-false block (length a.function.blocks) e) in
          ap (λ ss. named_place t (find (λ (s : TempPlace). s.temp == t) ss)) none ∙ sym (ap (λ ss. place_for t (register_for ss t)) none)

  pub top_listed : (block i : ℕ) (s : TempPlace) → slice_get (slice_index_or a.top block []) i ≡ Some s → holds (slice_index_or tops block []) s.temp ≡ true
  top_listed block i s e = by (nat_lt block (length a.function.blocks)) refl
    where
      nothing : {A : Type 0} → slice_get [] i ≡ Some s → A
      nothing f = absurd (cc)

      by : (c : Bool) → nat_lt block (length a.function.blocks) ≡ c → holds (slice_index_or tops block []) s.temp ≡ true
      by true f = (an_entry a.temps false (slice_index_or tops block []) (slice_index_or a.top block []) (joined.top block (ltb-true block (length a.function.blocks) f)) i s e).listed
      by false f = nothing (ap (λ z. slice_get z i) (sym (top_none block (ltb-false block (length a.function.blocks) f))) ∙ e)

  -- what has a register at a top is live there
  top_live : (t block r : ℕ) → place_at_top a block t ≡ Reg r → is_live_at a t block 0
  top_live t block r e = by (register_for (slice_index_or a.top block []) t) refl
    where
      by : (o : Option ℕ) → register_for (slice_index_or a.top block []) t ≡ o → is_live_at a t block 0
      by None f = slot_or_register t r (sym (top_named block t ∙ ap (place_for t) f) ∙ e)
      by (Some q) f =
          let u = for_there (slice_index_or a.top block []) t q f in
          subst (λ n. is_live_at a n block 0) u.3 ((joined.live u.1.temp block).0 (top_listed block u.0 u.1 u.2))

  pub is_needed_live : (t block : ℕ) → IsNeeded a t block → is_live_at a t block 0
  is_needed_live t block needed = needed_live a t (top_live t) block needed

  -- what is known at an edge
  pub record IsBetween (block to : ℕ) : Type 0 where
    pub bottom : IsMap (slice_index_or a.bottom block [])
    pub code : IsCodeBetween (slice_index_or a.bottom block []) (slice_index_or a.top to []) (slice_index_or tops to []) (slice_index_or tops to []) (edge_transfers a block to)

  between : (block : ℕ) (insns : List TempInsn) → slice_get a.function.blocks block ≡ Some insns → (to : ℕ) → Contains (successors_of targets_of flows_on_of block insns) to → IsBetween block to
  between block insns is to has =
      let f = found a.edges block to (subst (λ es. Contains es (block, to)) (sym joined.ends) (edge_there 0 a.function.blocks block block insns to (omega arith) is has)) in
      let e : IsEdgeCode a.bottom a.top tops tops f.e = subst (IsEdgeCode a.bottom a.top tops tops) f.there.2 (joined.codes f.there.0 f.e f.there.1) in
      record {
        bottom = is_map a.temps true (slice_index_or tops block []) (slice_index_or a.bottom block []) (joined.bottom block (slice_get_within a.function.blocks block insns is));
        code =
            subst (λ xs. IsCodeBetween (slice_index_or a.bottom block []) (slice_index_or a.top to []) (slice_index_or tops to []) (slice_index_or tops to []) xs) (sym f.is)
            (subst (λ n. IsCodeBetween (slice_index_or a.bottom block []) (slice_index_or a.top n []) (slice_index_or tops n []) (slice_index_or tops n []) f.e.code) f.goes
            (subst (λ n. IsCodeBetween (slice_index_or a.bottom n []) (slice_index_or a.top f.e.to []) (slice_index_or tops f.e.to []) (slice_index_or tops f.e.to []) f.e.code) f.starts e));
      }

  pub edge_kept : (block : ℕ) (insns : List TempInsn) → slice_get a.function.blocks block ≡ Some insns → (j : ℕ) → Contains (successors_of targets_of flows_on_of block insns) (suc j) → KeepsEdge a block (suc j) (held_before a block (length insns))
  edge_kept block insns is j has = record {
    moves = edge_asks bottom top live live code k.code k.bottom (top_map (suc j)) h there (top_listed (suc j));
    leads = record { each = each };
  }
    where
      bottom : List TempPlace
      bottom = slice_index_or a.bottom block []

      top : List TempPlace
      top = slice_index_or a.top (suc j) []

      live : List Bool
      live = slice_index_or tops (suc j) []

      code : List Transfer
      code = edge_transfers a block (suc j)

      h : HolderPlaces
      h = held_before a block (length insns)

      k : IsBetween block (suc j)
      k = between block insns is (suc j) has

      there : (t : ℕ) → holds live t ≡ true → h (Temp t) (place_for t (register_for bottom t))
      there t lv =
          subst (λ p. h (Temp t) p) (place_named a.temps true (slice_index_or tops block []) (slice_index_or a.bottom block []) (joined.bottom block (slice_get_within a.function.blocks block insns is)) t)
          ((joined.replays block insns is).bottoms t (Follows insns (suc j) is refl has ((joined.live t (suc j)).0 lv)))

      each : (n : Holder) (q : Place) → at_start a (suc j) n q → move_all code h n q
      each (Temp t) q (inl (lv, place)) =
          subst (λ q. move_all code h (Temp t) q) (sym (place ∙ top_named (suc j) t))
          (edge_tops bottom top live live code k.code k.bottom (top_map (suc j)) h there (top_listed (suc j)) t ((joined.live t (suc j)).1 lv))
      each (Temp t) q (inr (needed, place)) =
          let lv = (joined.live t (suc j)).1 (is_needed_live t (suc j) needed) in
          subst (λ q. move_all code h (Temp t) q) (sym place) (edge_slots bottom top live live code k.code k.bottom (top_map (suc j)) h there (top_listed (suc j)) t lv lv)
      each (Fixed r) q k = absurd k
      each (Incoming r) q k = absurd k
      each (Outgoing r) q k = absurd k
