-- Items with others written behind them, in the order in which the code writes them.
use Rattle.std.specs.Prelude.{ℕ, List, [], ◌∷◌, ◌++◌}
use Rattle.alpha_isa.specs.declared.insn.OperateOp.{OperateOp}
use Rattle.alpha_isa.specs.declared.insn.OperateOp.TheVariants.{SublV, SubqV}
use Rattle.alpha_items.specs.declared.item.AsmItem.{AsmItem}
use Rattle.alpha_items.specs.declared.item.AsmItem.TheVariants.{Label}
use Rattle.alpha_rt.specs.Code.{prologue, magnitudes, numbers, low_numbers, signed_quotient, signed_remainder, plain_remainder, long_quotient, long_remainder}
use Rattle.alpha_rt.specs.Items.{plain_items, test_items, operand_items, answer_items, refusal_items, preparation_items, place_items, turn_items, epilogue_items}

-- the items of a part behind others
unfoldable pub behind : List AsmItem → List AsmItem → List AsmItem
behind items part = items ++ part

unfoldable pub signed_behind : List AsmItem → ℕ → OperateOp → ℕ → List AsmItem
signed_behind items entry negation past =
    behind (behind (behind items (test_items entry negation past)) (plain_items prologue)) (operand_items magnitudes)

unfoldable pub unsigned_behind : List AsmItem → ℕ → List AsmItem
unsigned_behind items entry = behind (behind (behind items (Label entry ∷ [])) (plain_items prologue))
    (operand_items numbers)

unfoldable pub long_behind : List AsmItem → ℕ → List AsmItem
long_behind items entry = behind (behind (behind items (Label entry ∷ [])) (plain_items prologue))
    (operand_items low_numbers)

unfoldable pub quads_behind : List AsmItem → List AsmItem
quads_behind items =
    let divq : List AsmItem = behind (signed_behind items 1 SubqV 17) (answer_items signed_quotient) in
    let remq : List AsmItem = behind (signed_behind divq 2 SubqV 18) (answer_items signed_remainder) in
    let divqu : List AsmItem = behind (unsigned_behind remq 3) (answer_items []) in
    behind (unsigned_behind divqu 4) (answer_items plain_remainder)

unfoldable pub longs_behind : List AsmItem → List AsmItem
longs_behind items =
    let divl : List AsmItem = behind (signed_behind items 5 SublV 19) (answer_items signed_quotient) in
    let reml : List AsmItem = behind (signed_behind divl 6 SublV 20) (answer_items signed_remainder) in
    let divlu : List AsmItem = behind (long_behind reml 7) (answer_items long_quotient) in
    behind (long_behind divlu 8) (answer_items long_remainder)

unfoldable pub common_behind : List AsmItem → List AsmItem
common_behind items =
    let ready : List AsmItem = behind (behind items refusal_items) preparation_items in
    let places : List AsmItem =
    behind (behind (behind (behind ready (place_items 13)) (place_items 14)) (place_items 15)) (place_items 16) in
    behind (behind places turn_items) epilogue_items

unfoldable pub all_behind : List AsmItem → List AsmItem
all_behind items = common_behind (longs_behind (quads_behind items))
