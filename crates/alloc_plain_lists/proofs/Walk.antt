-- What stands before each instruction: each live temporary in its slot, or just written, and each settled register.
use Rattle.std.proofs.Common.{◌≡◌, ◌≢◌, ◌⊎◌, ℕ, zero, suc, ◌+◌, List, [], ◌∷◌, ◌++◌, true, Option, Some, refl, sym, inl, inr, subst, ⊎_elim, length, map, arith}
use Rattle.std.specs.Prelude.{Contains}
use Rattle.std.specs.List.{range_with_len, list_all}
use Rattle.pass_core.specs.Functions.{insn_at}
use Rattle.pass_core.specs.Live.Live.{IsRead, Passes}
use Rattle.temp_ir.specs.declared.insn.TempInsn.{TempInsn}
use Rattle.temp_ir.specs.Insns.{reads_of, writes_of}
use Rattle.temp_ir.specs.Fixed.{fixed_reads_of, fixed_writes_of, has_number, written_behind}
use Rattle.alloc_model.specs.declared.allocation.Transfer.{Transfer}
use Rattle.alloc_model.specs.Effect.{Temp, Fixed, places_written, others_written, holders_written}
use Rattle.alloc_model.specs.Places.{Reg, Slot, home_of, ends_place}
use Rattle.alloc_model.specs.Lifetimes.{Blocks, lives_at}
use Rattle.alloc_model.specs.Faithful.{HolderPlaces, write_all, end_all, move_all, MovesAsk, ReadsAsk, FixedAsk, behind_insn}
use Rattle.alloc_plain_lists.specs.Plain.{loads, plain_registers, writes_in, first_in, stores_behind}
use Rattle.alloc_plain_lists.proofs.Sets.{same_or_not, moves_in_turn, asks_in_turn, reads_kept, stores_keep_registers, stores_keep_slots, stores_ask, stores_done, loads_keep_slots, loads_keep_others, loads_ask, loads_read, written_places, written_fresh, written_slot, written_keeps, written_fixed, fixed_ask}
use Rattle.alloc_plain_lists.proofs.Registers.{IsHigh, behind_either, written_high, all_has, lawful, few}
use Rattle.alloc_plain_lists.proofs.Lists.{range_behind}

contains_or_not : (xs : List ℕ) (t : ℕ) → Contains xs t ⊎ (Contains xs t → ⊥)
contains_or_not [] t = inr (λ (k, within, is). omega (arith, within))
contains_or_not (x ∷ xs) t = ⊎_elim (λ e. inl (0, omega arith, e)) (λ ne. further ne (contains_or_not xs t)) (same_or_not x t)
  where
    nowhere : x ≢ t → (Contains xs t → ⊥) → Contains (x ∷ xs) t → ⊥
    nowhere ne none (zero, within, is) = ne is
    nowhere ne none (suc k, within, is) = none (k, omega (arith, within), is)

    further : x ≢ t → Contains xs t ⊎ (Contains xs t → ⊥) → Contains (x ∷ xs) t ⊎ (Contains (x ∷ xs) t → ⊥)
    further ne (inl (k, within, is)) = inl (suc k, omega (arith, within), is)
    further ne (inr none) = inr (nowhere ne none)

-- before a place of a block, behind an instruction, where some fixed registers are written
pub record Stands (blocks : Blocks) (block at : ℕ) (before : Option TempInsn) (ws : List ℕ) (h : HolderPlaces) : Type 0 where
  pub slots : (t : ℕ) → lives_at blocks t block at → Contains (writes_in before) t ⊎ h (Temp t) (Slot t)
  pub fresh : ReadsAsk (writes_in before) (range_with_len (first_in before) (length (writes_in before))) h
  pub fixed : (r : ℕ) → has_number ws r ≡ true → h (Fixed r) (Reg r)
  pub high : (r : ℕ) → has_number ws r ≡ true → IsHigh r

-- behind the stores each live temporary stands in its slot
pub stored : (blocks : Blocks) (block at : ℕ) (p : Option TempInsn) (ws : List ℕ) (h : HolderPlaces) → Stands blocks block at p ws h → (t : ℕ) → lives_at blocks t block at → move_all (stores_behind p) h (Temp t) (Slot t)
stored blocks block at p ws h s t live =
    ⊎_elim (λ has. stores_done (writes_in p) (first_in p) h t has) (λ k. stores_keep_slots (writes_in p) (first_in p) h t k) (s.slots t live)

module _ (blocks : Blocks) (block at : ℕ) (p : Option TempInsn) (ws : List ℕ) (h : HolderPlaces) (x : TempInsn)
    (there : insn_at blocks block at ≡ Some x) (s : Stands blocks block at p ws h) where
  abbrev transfers : List Transfer
  transfers = stores_behind p ++ loads (reads_of x) 1

  pub asks : MovesAsk (stores_behind p ++ loads (reads_of x) 1) h
  asks =
      asks_in_turn (stores_behind p) (loads (reads_of x) 1) h (stores_ask (writes_in p) (first_in p) h s.fresh)
      (loads_ask (reads_of x) 1 (move_all (stores_behind p) h) (λ u has. stored blocks block at p ws h s u (IsRead x there has)))

  moved_slot : (t : ℕ) → lives_at blocks t block at → move_all transfers h (Temp t) (Slot t)
  moved_slot t live =
      moves_in_turn (stores_behind p) (loads (reads_of x) 1) h (Temp t) (Slot t)
      (loads_keep_slots (reads_of x) 1 (move_all (stores_behind p) h) (Temp t) t (stored blocks block at p ws h s t live))

  moved_fixed : (r : ℕ) → has_number ws r ≡ true → move_all transfers h (Fixed r) (Reg r)
  moved_fixed r is =
      moves_in_turn (stores_behind p) (loads (reads_of x) 1) h (Fixed r) (Reg r)
      (loads_keep_others (reads_of x) 1 (move_all (stores_behind p) h) (Fixed r) r
      (⊎_elim (λ low. inl low) (λ big. let most = few x in let reads = most.0 in inr (omega (arith, big, reads))) (s.high r is))
      (stores_keep_registers (writes_in p) (first_in p) h (Fixed r) r (s.fixed r is)))

  pub reads : ReadsAsk (reads_of x) (plain_registers x) (move_all (stores_behind p ++ loads (reads_of x) 1) h)
  reads =
      reads_kept (reads_of x) (plain_registers x) (move_all (loads (reads_of x) 1) (move_all (stores_behind p) h)) (move_all transfers h)
      (λ n q k. moves_in_turn (stores_behind p) (loads (reads_of x) 1) h n (Reg q) k)
      (loads_read (reads_of x) 1 (length (reads_of x) + length (writes_of x)) (move_all (stores_behind p) h) (omega arith))

  pub fixed_reads : list_all (has_number ws) (fixed_reads_of x) ≡ true → FixedAsk (fixed_reads_of x) (move_all (stores_behind p ++ loads (reads_of x) 1) h)
  fixed_reads all =
      fixed_ask (fixed_reads_of x) (move_all transfers h) (λ r has. moved_fixed r (all_has ws (fixed_reads_of x) r all has))

  abbrev ended : HolderPlaces
  ended = end_all (ends_place x) (move_all transfers h)

  abbrev behind_writes : HolderPlaces
  behind_writes = written_places (writes_of x) (fixed_writes_of x) (places_written x) (1 + length (reads_of x)) ended

  live_behind : (t : ℕ) → lives_at blocks t block (suc at) → Contains (writes_of x) t ⊎ (Contains (writes_of x) t → ⊥) → Contains (writes_of x) t ⊎ behind_writes (Temp t) (Slot t)
  live_behind t live (inl has) = inl has
  live_behind t live (inr none) =
      written_slot (writes_of x) (fixed_writes_of x) (places_written x) (1 + length (reads_of x)) ended t (lawful x)
      (moved_slot t (Passes x there none live), refl)

  fixed_behind : (r : ℕ) → has_number (written_behind ws x) r ≡ true → behind_writes (Fixed r) (Reg r)
  fixed_behind r is =
      ⊎_elim (λ new. written_fixed (writes_of x) (fixed_writes_of x) (places_written x) (1 + length (reads_of x)) ended r (lawful x) new)
      (λ (old, stays). written_keeps (writes_of x) (fixed_writes_of x) (places_written x) (1 + length (reads_of x)) ended r (lawful x)
      (λ e. let most = few x in let few_reads = most.0 in ⊎_elim (λ low. omega (arith, low, e)) (λ big. omega (arith, big, e, few_reads)) (s.high r old))
      (moved_fixed r old, stays))
      (behind_either ws x r is)

  written_there : Stands blocks block (suc at) (Some x) (written_behind ws x) behind_writes
  written_there = record {
    slots = λ t live. live_behind t live (contains_or_not (writes_of x) t);
    fresh = written_fresh (writes_of x) (fixed_writes_of x) (places_written x) (1 + length (reads_of x)) ended (lawful x);
    fixed = fixed_behind;
    high = λ r is. ⊎_elim (λ new. written_high x r new) (λ (old, stays). s.high r old) (behind_either ws x r is);
  }

  pub behind : Stands blocks block (suc at) (Some x) (written_behind ws x) (behind_insn (stores_behind p ++ loads (reads_of x) 1) (plain_registers x) (Some x) h)
  behind =
      subst (λ rs. Stands blocks block (suc at) (Some x) (written_behind ws x) (write_all (holders_written x) (map Reg rs ++ map home_of (others_written x)) ended))
      (sym (range_behind (length (reads_of x)) 1 (length (reads_of x) + length (writes_of x)) (length (writes_of x)) refl))
      written_there
