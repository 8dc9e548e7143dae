-- The items of the division routines are in their ranges, and name the labels that they use, each once.
use Rattle.std.proofs.Common.{◌≡◌, ℕ, zero, suc, ◌≤◌, ℤ, pos, negsuc, Bool, true, false, not, List, [], ◌∷◌, refl, arith}
use Rattle.std.specs.Prelude.{◌&&◌, nat_lt, nat_le, All, IsTrue, IfSome}
use Rattle.std.specs.List.{Contains, list_all}
use Rattle.std.proofs.lemmas.Bool.{and_parts, ltb-true, leb-true}
use Rattle.std.proofs.lemmas.List.Elements.{All-nil, All-cons}
use Rattle.alpha_isa.specs.declared.insn.Fields.{Fields}
use Rattle.alpha_isa.specs.declared.insn.Fields.TheVariants as fields
use Rattle.alpha_isa.specs.declared.insn.Operand.{Operand}
use Rattle.alpha_isa.specs.declared.insn.Operand.TheVariants.{Reg, Literal}
use Rattle.alpha_isa.specs.declared.insn.OperateOp.{OperateOp}
use Rattle.alpha_isa.specs.declared.insn.OperateOp.TheVariants as o
use Rattle.alpha_isa.specs.Lawful.{IsOperand, IsDisplacement, IsFirstOperand, AreLawfulFields, is_pal_function}
use Rattle.alpha_items.specs.declared.item.AsmItem.{AsmItem}
use Rattle.alpha_items.specs.declared.item.AsmItem.TheVariants.{Label, Name, Plain, Branch, TextAddress, DataAddress}
use Rattle.alpha_items.specs.Items.{label_used, is_branch, IsItem}
use Rattle.alpha_items.specs.Assembly.{labels}
use Rattle.alpha_rt.specs.Items.{all_items}
use Rattle.image_assembly_laws.proofs.Distinct.{Each, Distinct, is_among, among-has, test-distinct}

-- ---- fields

abbrev pub first_fits : OperateOp → ℕ → Bool
first_fits o.Sextb ra = false
first_fits o.Sextw ra = false
first_fits _ ra = nat_lt ra 32

abbrev pub operand_fits : Operand → Bool
operand_fits (Reg r) = nat_lt r 32
operand_fits (Literal n) = nat_lt n 256

abbrev pub displacement_fits : ℤ → Bool
displacement_fits (pos n) = nat_lt n 32768
displacement_fits (negsuc n) = nat_lt n 32768

abbrev pub fields_fit : Fields → Bool
fields_fit (fields.Memory op ra rb disp) = nat_lt ra 32 && (nat_lt rb 32 && displacement_fits disp)
fields_fit (fields.Branch op ra disp) = false
fields_fit (fields.Jump op ra rb) = nat_lt ra 32 && nat_lt rb 32
fields_fit (fields.Operate op ra rb rc) = first_fits op ra && (operand_fits rb && nat_lt rc 32)
fields_fit (fields.Pal function) = is_pal_function function

abbrev pub item_fits : AsmItem → Bool
item_fits (Label l) = true
item_fits (Name bytes) = false
item_fits (Plain insn) = fields_fit insn
item_fits (Branch op ra l) = nat_lt ra 32
item_fits (TextAddress ra l) = false
item_fits (DataAddress ra offset) = false

first-fits : (op : OperateOp) (ra : ℕ) → first_fits op ra ≡ true → IsFirstOperand op ra
first-fits o.Addl ra e = ltb-true ra 32 e
first-fits o.Subl ra e = ltb-true ra 32 e
first-fits o.Cmpult ra e = ltb-true ra 32 e
first-fits o.Addq ra e = ltb-true ra 32 e
first-fits o.S4addq ra e = ltb-true ra 32 e
first-fits o.Subq ra e = ltb-true ra 32 e
first-fits o.Cmpeq ra e = ltb-true ra 32 e
first-fits o.S8addq ra e = ltb-true ra 32 e
first-fits o.Cmpule ra e = ltb-true ra 32 e
first-fits o.AddlV ra e = ltb-true ra 32 e
first-fits o.SublV ra e = ltb-true ra 32 e
first-fits o.Cmplt ra e = ltb-true ra 32 e
first-fits o.AddqV ra e = ltb-true ra 32 e
first-fits o.SubqV ra e = ltb-true ra 32 e
first-fits o.Cmple ra e = ltb-true ra 32 e
first-fits o.And ra e = ltb-true ra 32 e
first-fits o.Bic ra e = ltb-true ra 32 e
first-fits o.Bis ra e = ltb-true ra 32 e
first-fits o.Cmoveq ra e = ltb-true ra 32 e
first-fits o.Cmovne ra e = ltb-true ra 32 e
first-fits o.Ornot ra e = ltb-true ra 32 e
first-fits o.Xor ra e = ltb-true ra 32 e
first-fits o.Eqv ra e = ltb-true ra 32 e
first-fits o.Zapnot ra e = ltb-true ra 32 e
first-fits o.Srl ra e = ltb-true ra 32 e
first-fits o.Sll ra e = ltb-true ra 32 e
first-fits o.Sra ra e = ltb-true ra 32 e
first-fits o.Mull ra e = ltb-true ra 32 e
first-fits o.Mulq ra e = ltb-true ra 32 e
first-fits o.Umulh ra e = ltb-true ra 32 e
first-fits o.MullV ra e = ltb-true ra 32 e
first-fits o.MulqV ra e = ltb-true ra 32 e
first-fits o.Sextb ra e = absurd (cc)
first-fits o.Sextw ra e = absurd (cc)

operand-fits : (x : Operand) → operand_fits x ≡ true → IsOperand x
operand-fits (Reg r) e = ltb-true r 32 e
operand-fits (Literal n) e = ltb-true n 256 e

displacement-fits : (z : ℤ) → displacement_fits z ≡ true → IsDisplacement z
displacement-fits (pos n) e = ltb-true n 32768 e
displacement-fits (negsuc n) e = ltb-true n 32768 e

fields-fit : (x : Fields) → fields_fit x ≡ true → AreLawfulFields x × IsTrue (not (is_branch x))
fields-fit (fields.Memory op ra rb disp) e =
    let a = and_parts (nat_lt ra 32) (nat_lt rb 32 && displacement_fits disp) e in
    let b = and_parts (nat_lt rb 32) (displacement_fits disp) a.1 in
    ((ltb-true ra 32 a.0, ltb-true rb 32 b.0, displacement-fits disp b.1), refl)
fields-fit (fields.Branch op ra disp) e = absurd (cc)
fields-fit (fields.Jump op ra rb) e =
    let a = and_parts (nat_lt ra 32) (nat_lt rb 32) e in
    ((ltb-true ra 32 a.0, ltb-true rb 32 a.1), refl)
fields-fit (fields.Operate op ra rb rc) e =
    let a = and_parts (first_fits op ra) (operand_fits rb && nat_lt rc 32) e in
    let b = and_parts (operand_fits rb) (nat_lt rc 32) a.1 in
    ((first-fits op ra a.0, operand-fits rb b.0, ltb-true rc 32 b.1), refl)
fields-fit (fields.Pal function) e = (e, refl)

item-fits : (size : ℕ) (x : AsmItem) → item_fits x ≡ true → IsItem size x
item-fits size (Label l) e = tt
item-fits size (Name bytes) e = absurd (cc)
item-fits size (Plain insn) e = fields-fit insn e
item-fits size (Branch op ra l) e = ltb-true ra 32 e
item-fits size (TextAddress ra l) e = absurd (cc)
item-fits size (DataAddress ra offset) e = absurd (cc)

pub items-fit : (size : ℕ) (xs : List AsmItem) → list_all item_fits xs ≡ true → All (IsItem size) xs
items-fit size [] e = All-nil (IsItem size)
items-fit size (x ∷ xs) e =
    let both = and_parts (item_fits x) (list_all item_fits xs) e in
    All-cons (IsItem size) x xs (item-fits size x both.0) (items-fit size xs both.1)

pub routines-fit : (size : ℕ) → All (IsItem size) all_items
routines-fit size = items-fit size all_items refl

-- ---- labels

pub routine-labels-differ : Distinct (labels all_items)
routine-labels-differ = test-distinct (labels all_items) refl

below : (xs : List ℕ) → list_all (λ l. nat_le 1 l && nat_le l 20) xs ≡ true → Each (λ l. (1 ≤ l) × (l ≤ 20)) xs
below [] e = tt
below (x ∷ xs) e =
    let both = and_parts (nat_le 1 x && nat_le x 20) (list_all (λ l. nat_le 1 l && nat_le l 20) xs) e in
    let b = and_parts (nat_le 1 x) (nat_le x 20) both.0 in
    ((leb-true 1 x b.0, leb-true x 20 b.1), below xs both.1)

pub routine-labels-low : Each (λ l. (1 ≤ l) × (l ≤ 20)) (labels all_items)
routine-labels-low = below (labels all_items) refl

abbrev is_used_among : List ℕ → AsmItem → Bool
is_used_among ls (Branch op ra l) = is_among ls l
is_used_among ls (TextAddress ra l) = is_among ls l
is_used_among ls _ = true

used-among : (ls : List ℕ) (x : AsmItem) → is_used_among ls x ≡ true → IfSome (label_used x) (Contains ls)
used-among ls (Label l) e = tt
used-among ls (Name bytes) e = tt
used-among ls (Plain insn) e = tt
used-among ls (Branch op ra l) e = among-has ls l e
used-among ls (TextAddress ra l) e = among-has ls l e
used-among ls (DataAddress ra offset) e = tt

all-used : (ls : List ℕ) (xs : List AsmItem) → list_all (is_used_among ls) xs ≡ true → All (λ x. IfSome (label_used x) (Contains ls)) xs
all-used ls [] e = All-nil (λ x. IfSome (label_used x) (Contains ls))
all-used ls (x ∷ xs) e =
    let both = and_parts (is_used_among ls x) (list_all (is_used_among ls) xs) e in
    All-cons (λ x. IfSome (label_used x) (Contains ls)) x xs (used-among ls x both.0) (all-used ls xs both.1)

pub routines-use : All (λ x. IfSome (label_used x) (Contains (labels all_items))) all_items
routines-use = all-used (labels all_items) all_items refl

-- the entries
pub has-entry : (l : ℕ) → 1 ≤ l → l ≤ 8 → Contains (labels all_items) l
has-entry zero low high = absurd (omega (arith, low))
has-entry (suc zero) low high = among-has (labels all_items) 1 refl
has-entry (suc (suc zero)) low high = among-has (labels all_items) 2 refl
has-entry (suc (suc (suc zero))) low high = among-has (labels all_items) 3 refl
has-entry (suc (suc (suc (suc zero)))) low high = among-has (labels all_items) 4 refl
has-entry (suc (suc (suc (suc (suc zero))))) low high = among-has (labels all_items) 5 refl
has-entry (suc (suc (suc (suc (suc (suc zero)))))) low high = among-has (labels all_items) 6 refl
has-entry (suc (suc (suc (suc (suc (suc (suc zero))))))) low high = among-has (labels all_items) 7 refl
has-entry (suc (suc (suc (suc (suc (suc (suc (suc zero)))))))) low high = among-has (labels all_items) 8 refl
has-entry (suc (suc (suc (suc (suc (suc (suc (suc (suc l))))))))) low high = absurd (omega (arith, high))
