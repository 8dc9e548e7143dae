use Rattle.std.proofs.Common.{◌≡◌, ◌+◌, ◌*◌, drop, length, ap, ◌∙◌, ℕ, List, sym, refl, arith, subst, Some, None, length-drop, take_all}
use Rattle.bk_memory.specs.Shortage.{MemoryIsShort}
use Rattle.alpha_isa.specs.Program.{Program, IsLawful}
use Rattle.alpha_isa.specs.ImageFormat.{IsImage}
use Rattle.alpha_image.specs.declared.read.ImageFault.{ImageFault}
use Rattle.alpha_image.specs.declared.read.ImageFault.TheVariants.{NoMemory}
use Rattle.alpha_image.specs.ReadImage.{IsImageFault}
use Rattle.alpha_image.specs.ImageFault.{length_fault, image_fault, first_place}
use Rattle.alpha_image.proofs.ImageFaults.{found_image_fault, was_read, image_fault-length}
use Rattle.alpha_image.proofs.read.read_image.Goals as goal

-- want of memory for bytes that have no place at which they stop being an image
short_fault : (bytes : List ℕ) (f : ImageFault) → image_fault bytes ≡ None → (f ≡ NoMemory) × MemoryIsShort → IsImageFault f bytes
short_fault bytes f none told = subst (λ f. IsImageFault f bytes) (sym told.0) (none, told.1)

pub returns-in-Err-clause-bad : goal.returns-in-Err-clause-bad
unfolding image_fault
returns-in-Err-clause-bad c = ap (λ fault. first_place fault (length_fault c.args.bytes.now)) c.in-Err.ensures.fault

pub returns-in-Some-clause-bad : goal.returns-in-Some-clause-bad
returns-in-Some-clause-bad c =
    let fields = c.in-Ok.ensures.fields in
    image_fault-length c.args.bytes.now (Some c.in-Some.at) c.in-Ok.ensures.fault (sym (c.in-Some.ensures.fault fields.0 fields.1 fields.4))

pub returns-in-Ok-from_slice-clause-found : goal.returns-in-Ok-from_slice-clause-found
returns-in-Ok-from_slice-clause-found c =
    let fields = c.in-Ok.ensures.fields in
    let p : Program = record { words = c.in-Ok-read_numbers.words.items; bytes = c.in-Ok-from_slice.bytes.items; zeros = c.in-Ok.header.zeros; entry = c.in-Ok.header.entry } in
    let due : length c.args.bytes.now ≡ c.in-Ok.header.text + 4 * c.in-Ok.header.words + c.in-Ok.header.bytes = c.in-None.ensures.due refl in
    let rest : c.in-Ok-from_slice.bytes.items ≡ drop (c.in-Ok.header.text + 4 * c.in-Ok.header.words) c.args.bytes.now =
    c.in-Ok-from_slice.ensures.items ∙ take_all _ _ (simp length-drop (omega arith)) in
    let lawful : IsLawful p = subst IsLawful c.new.ensures.image c.new.ensures.lawful in
    subst (IsImage c.args.bytes.now) (sym c.new.ensures.image)
    (found_image_fault c.args.bytes.now p (λ k. omega (arith, c.type_inv.bytes k)) c.in-Ok.ensures.fault fields.3
    (was_read c.args.bytes.now c.in-Ok-read_numbers.words.items c.in-Ok-from_slice.bytes.items c.in-Ok.header.words c.in-Ok.header.bytes c.in-Ok.header.entry c.in-Ok.header.zeros c.in-Ok.header.text
    fields.0 fields.1 fields.2 fields.4 due c.in-Ok-read_numbers.ensures.numbers c.in-Ok-read_numbers.ensures.count rest) lawful)

pub returns-in-Ok-from_slice-clause-good : goal.returns-in-Ok-from_slice-clause-good
returns-in-Ok-from_slice-clause-good c =
    let fields = c.in-Ok.ensures.fields in
    image_fault-length c.args.bytes.now None c.in-Ok.ensures.fault (sym (c.in-None.ensures.fault fields.0 fields.1 fields.4))

pub returns-in-Err-read_numbers-clause-bad : goal.returns-in-Err-read_numbers-clause-bad
returns-in-Err-read_numbers-clause-bad c =
    let fields = c.in-Ok.ensures.fields in
    short_fault c.args.bytes.now c.from.result (image_fault-length c.args.bytes.now None c.in-Ok.ensures.fault (sym (c.in-None.ensures.fault fields.0 fields.1 fields.4))) c.from.ensures

pub returns-in-Err-from_slice-clause-bad : goal.returns-in-Err-from_slice-clause-bad
returns-in-Err-from_slice-clause-bad c =
    let fields = c.in-Ok.ensures.fields in
    short_fault c.args.bytes.now c.from-in-Err-from_slice.result (image_fault-length c.args.bytes.now None c.in-Ok.ensures.fault (sym (c.in-None.ensures.fault fields.0 fields.1 fields.4))) c.from-in-Err-from_slice.ensures
