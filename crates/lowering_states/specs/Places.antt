-- Where code stands in the blocks of a function.
use Rattle.std.specs.Prelude.{◌≡◌, ℕ, suc, ◌+◌, ◌-◌, List, [], ◌∷◌, slice_get, Option, Some, None}
use Rattle.suifvm_ir.specs.declared.insn.VmBranchOp.TheVariants.{IfTrue}
use Rattle.suifvm_ir.specs.declared.insn.VmInsn.{VmInsn}
use Rattle.suifvm_ir.specs.declared.insn.VmInsn.TheVariants as n
use Rattle.lowering_code.specs.declared.item.CodeItem.{CodeItem}
use Rattle.lowering_code.specs.declared.item.CodeItem.TheVariants.{Start, Plain, Jump, Branch, Loop, Enter, Again, Repeat, Return}
use Rattle.lowering_code.specs.Items.{block_total}
use Rattle.lowering_code.specs.Layout.{head_or_zero, outer_heads}

-- a place in the blocks of a function
pub record CodePlace : Type 0 where
  pub block : ℕ
  pub at : ℕ

abbrev pub next_place : CodePlace → CodePlace
next_place p = record { block = p.block; at = suc p.at }

abbrev pub start_of_block : (block : ℕ) → CodePlace
start_of_block b = record { block = b; at = 0 }

abbrev pub next_block : CodePlace → CodePlace
next_block p = start_of_block (suc p.block)

-- what stands at a place: an instruction, or the end of the block
abbrev pub in_block : Option (List VmInsn) → (at : ℕ) → Option (Option VmInsn)
in_block None at = None
in_block (Some insns) at = Some (slice_get insns at)

abbrev pub stands_at : List (List VmInsn) → CodePlace → Option (Option VmInsn)
stands_at blocks p = in_block (slice_get blocks p.block) p.at

-- last is the number of the last block, and end are the instructions that end it
module _ (blocks : List (List VmInsn)) (last : ℕ) (end : List VmInsn) where
  abbrev pub IsInsn : CodePlace → VmInsn → Type 0
  IsInsn p i = stands_at blocks p ≡ Some (Some i)

  abbrev pub IsEnd : CodePlace → Type 0
  IsEnd p = stands_at blocks p ≡ Some None

  -- instructions stand one behind the other
  abbrev pub HasInsns : CodePlace → List VmInsn → Type 0
  HasInsns p [] = Unit {0}
  HasInsns p (i ∷ is) = IsInsn p i × HasInsns (next_place p) is

  -- items stand from a place on, in loops whose bodies begin with these blocks
  abbrev pub HasItems : (heads : List ℕ) → CodePlace → List CodeItem → Type 0
  HasItems heads p [] = HasInsns p end
  HasItems heads p (Start ∷ is) = IsEnd p × HasItems heads (next_block p) is
  HasItems heads p (Plain insn ∷ is) = IsInsn p insn × HasItems heads (next_place p) is
  HasItems heads p (Jump name ∷ is) = IsInsn p (n.Jump (last - name)) × HasItems heads (next_block p) is
  HasItems heads p (Branch op ty source name ∷ is) =
      IsInsn p (n.Branch op ty source (last - name)) × IsEnd (next_place p) × HasItems heads (next_block p) is
  HasItems heads p (Loop name ∷ is) =
      IsInsn p (n.Jump (last - name)) × IsInsn (next_block p) n.Mark
      × HasItems (suc p.block ∷ heads) (next_place (next_block p)) is
  HasItems heads p (Enter ∷ is) =
      IsEnd p × IsInsn (next_block p) n.Mark × HasItems (suc p.block ∷ heads) (next_place (next_block p)) is
  HasItems heads p (Again ty source ∷ is) =
      IsInsn p (n.Branch IfTrue ty source (head_or_zero heads)) × IsEnd (next_place p)
      × HasItems (outer_heads heads) (next_block p) is
  HasItems heads p (Repeat ∷ is) = IsInsn p (n.Jump (head_or_zero heads)) × HasItems (outer_heads heads)
      (next_block p) is
  HasItems heads p (Return value ∷ is) = IsInsn p (n.Return value) × HasItems heads (next_block p) is

  -- the items stand there, and as many blocks begin behind the place as they have
  pub record At (heads : List ℕ) (p : CodePlace) (is : List CodeItem) : Type 0 where
    pub has : HasItems heads p is
    pub size : p.block + block_total is ≡ last
