use Rattle.std.proofs.Common.{◌≡◌, ℕ, suc, ◌+◌, ◌<◌, Bool, true, false, cond, Some, List, length, get_or, drop, map, bytes_eq, sym, ◌∙◌, ap, add-one, drop-cons}
use Rattle.std.specs.Prelude.{String, Vec, string_bytes}
use Rattle.std.specs.Map.{lookup}
use Rattle.bk_io.specs.Memory.{name_and_bytes}
use Rattle.bk_io.proofs.memory.find.Goals as goal

-- one step of a look-up through the files from number i on, which stand at f
step : {A B : Type 0} (test : List ℕ → Bool) (files : List (String A × Vec ℕ B)) (i : ℕ) (f : String A × Vec ℕ B) (b : Bool) → i < length files → f ≡ get_or files i f → test (string_bytes f.0) ≡ b → lookup test (map name_and_bytes (drop i files)) ≡ cond b (Some f.1.items) (lookup test (map name_and_bytes (drop (i + 1) files)))
step test files i f b within is tested =
    ap (λ rest. lookup test (map name_and_bytes rest)) (drop-cons files i f within)
    ∙ ap (λ g. cond (test (string_bytes g.0)) (Some g.1.items) (lookup test (map name_and_bytes (drop (suc i) files)))) (sym is)
    ∙ ap (λ passes. cond passes (Some f.1.items) (lookup test (map name_and_bytes (drop (suc i) files)))) tested
    ∙ ap (λ next. cond b (Some f.1.items) (lookup test (map name_and_bytes (drop next files)))) (sym (add-one i))

pub returns-then-eq : goal.returns-then-eq
returns-then-eq c =
    let same : bytes_eq c.args.name.now (string_bytes c.file-item.result.0) ≡ true = cc in
    ap Some c.as_slice.ensures.value
    ∙ sym (step (bytes_eq c.args.name.now) c.args.files.now c.loop-file.file-index c.file-item.result true c.loop-file-test.true c.file-item.is same)
    ∙ c.loop-file.invariant

pub loop-file-preserved : goal.loop-file-preserved
loop-file-preserved c =
    let other : bytes_eq c.args.name.now (string_bytes c.file-item.result.0) ≡ false = cc in
    sym (step (bytes_eq c.args.name.now) c.args.files.now c.loop-file.file-index c.file-item.result false c.loop-file-test.true c.file-item.is other)
    ∙ c.loop-file.invariant
