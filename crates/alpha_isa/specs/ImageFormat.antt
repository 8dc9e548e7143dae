-- The bytes of an image, versions 1 and 2.
use Rattle.std.specs.Prelude.{◌≡◌, ◌⊎◌, ℕ, List, [], ◌∷◌, ◌++◌, length, flat_map}
use Rattle.std.specs.Int.{w32, to_le_bytes}
use Rattle.alpha_isa.specs.Program.{Program, IsLawful}

-- a number in four bytes, the lowest first
abbrev pub four_bytes : ℕ → List ℕ
four_bytes n = to_le_bytes w32 n

-- the mark of an image: the bytes of `MSA1`
abbrev pub mark : List ℕ
mark = 0x4D ∷ 0x53 ∷ 0x41 ∷ 0x31 ∷ []

-- the mark, the version, how many words and bytes there are, the entry, the fields that the version has besides, then
-- the words and the bytes
abbrev pub spelling_with : ℕ → List ℕ → Program → List ℕ
spelling_with version fields p =
    mark ++ (four_bytes version
    ++ (four_bytes (length p.words)
    ++ (four_bytes (length p.bytes) ++ (four_bytes p.entry ++ (fields ++ (flat_map four_bytes p.words ++ p.bytes))))))

-- version 2, which is what is written, has a field for the zeros
unfoldable pub image_spelling : Program → List ℕ
image_spelling p = spelling_with 2 (four_bytes p.zeros) p

-- version 1 has no further field
unfoldable pub version_one_spelling : Program → List ℕ
version_one_spelling p = spelling_with 1 [] p

-- these are the bytes of an image: in version 2, or in version 1 if it has no zeros
pub record IsImage (bytes : List ℕ) (p : Program) : Type 0 where
  pub lawful : IsLawful p
  pub bytes_are : (bytes ≡ image_spelling p) ⊎ ((bytes ≡ version_one_spelling p) × (p.zeros ≡ 0))
