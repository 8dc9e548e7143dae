use Rattle.std.proofs.Common.{arith, append-nil, ◌≤◌, ◌+◌, ◌*◌, ap, ◌∙◌}
use Rattle.alpha_isa.specs.Program.{Program, data_of, most_words, next_part, text_start}
use Rattle.alpha_items.specs.Layout.{text_words}
use Rattle.alpha_asm.proofs.Whole.{sound_items, count_of, plan_entry, assembled_items, words_few}
use Rattle.alpha_asm.proofs.assemble.image_of.Goals as goal

pub plan_of-requires : goal.plan_of-requires
plan_of-requires c = sound_items (record { items = c.args.items.now; bytes = c.args.bytes.now; fixes = c.args.fixes.now }) c.requires

pub new-image-requires-clause-some : goal.new-image-requires-clause-some
new-image-requires-clause-some c =
    let long = count_of c.args.items.now c.in_ok-plan.plan.layout.far.items c.data_start-start.result c.in_ok-words.words.items c.in_ok-words.ensures.words in
    omega (arith, long, c.in_ok-plan.ensures.entry_word)

pub new-image-requires-clause-words : goal.new-image-requires-clause-words
new-image-requires-clause-words c =
    let long = count_of c.args.items.now c.in_ok-plan.plan.layout.far.items c.data_start-start.result c.in_ok-words.words.items c.in_ok-words.ensures.words in
    omega (arith, long, c.count_of-count.ensures, c.if-count-gt-MOST_WORDS.false)

pub new-image-requires-clause-entry : goal.new-image-requires-clause-entry
new-image-requires-clause-entry c =
    let long = count_of c.args.items.now c.in_ok-plan.plan.layout.far.items c.data_start-start.result c.in_ok-words.words.items c.in_ok-words.ensures.words in
    let entry = plan_entry c.args.items.now c.in_ok-plan.plan.targets.of_items.items c.in_ok-plan.plan.targets.entry c.in_ok-plan.plan.layout.far.items
    c.in_ok-plan.plan.layout.places.items c.in_ok-plan.ensures in
    omega (arith, long, c.entry_of.ensures, entry.1)

pub returns-clause-image : goal.returns-clause-image
returns-clause-image c =
    let entry = plan_entry c.args.items.now c.in_ok-plan.plan.targets.of_items.items c.in_ok-plan.plan.targets.entry c.in_ok-plan.plan.layout.far.items
    c.in_ok-plan.plan.layout.places.items c.in_ok-plan.ensures in
    assembled_items (record { items = c.args.items.now; bytes = c.args.bytes.now; fixes = c.args.fixes.now }) c.in_ok-plan.plan.layout.far.items
    c.data_start-start.result c.cut_zeros.result c.in_ok-plan.ensures.least
    (c.data_start-start.ensures.start ∙ ap (λ n. next_part (text_start + 4 * n)) c.count_of-count.ensures)
    (c.cut_zeros.ensures.cut.holds.words ∙ ap (λ (p : Program). p.words) c.new-image.ensures.image ∙ c.in_ok-words.ensures.words)
    (c.cut_zeros.ensures.cut.holds.data_bytes ∙ ap data_of c.new-image.ensures.image ∙ append-nil c.in_ok-data.data.items ∙ c.in_ok-data.ensures.data_bytes)
    c.cut_zeros.ensures.cut.last
    (c.cut_zeros.ensures.cut.holds.entry ∙ ap (λ (p : Program). p.entry) c.new-image.ensures.image ∙ c.entry_of.ensures ∙ entry.0)

pub returns-clause-fits : goal.returns-clause-fits
returns-clause-fits c =
    let few : text_words c.args.items.now c.in_ok-plan.plan.layout.far.items ≤ most_words
    = omega (arith, c.count_of-count.ensures, c.if-count-gt-MOST_WORDS.false) in
    record {
      most = words_few (record { items = c.args.items.now; bytes = c.args.bytes.now; fixes = c.args.fixes.now }) c.in_ok-plan.plan.layout.far.items
          c.in_ok-plan.ensures.least few;
    }
