-- The items of transfers, in a frame of a shape.
use Rattle.std.specs.Prelude.{List, [], ◌∷◌, ◌++◌}
use Rattle.alpha_items.specs.declared.item.AsmItem.{AsmItem}
use Rattle.alloc_model.specs.declared.allocation.Transfer.{Transfer}
use Rattle.alloc_model.specs.declared.allocation.Transfer.TheVariants.{Store, Load, Shift}
use Rattle.frame_memory.specs.flat_frames.Shapes.{FrameShape, slot_at}
use Rattle.frame_steps.specs.frame_accesses.Items.{frame_load, frame_store, register_move}

abbrev pub transfer_items : FrameShape → Transfer → List AsmItem
transfer_items s (Store t r) = frame_store r (slot_at s t)
transfer_items s (Load t r) = frame_load r (slot_at s t)
transfer_items s (Shift t from to) = register_move from to

-- transfers, and the items behind them
abbrev pub items_of_transfers : FrameShape → List Transfer → (rest : List AsmItem) → List AsmItem
items_of_transfers s [] rest = rest
items_of_transfers s (x ∷ xs) rest = transfer_items s x ++ items_of_transfers s xs rest
