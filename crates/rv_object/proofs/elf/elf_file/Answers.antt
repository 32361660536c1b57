use Rattle.std.proofs.Common.{◌∙◌, List, map, refl, ap, arith}
use Rattle.std.proofs.lemmas.Result.{err_from_is_err_and}
use Rattle.rv_asm.specs.Seen.{seen}
use Rattle.rv_elf.specs.Symbols.{Symbol}
use Rattle.rv_object.specs.Placed.{all_labels, name_and_value}
use Rattle.rv_object.proofs.Labelled.{exceeds, few, labelled, most_is, size_is}
use Rattle.rv_object.proofs.elf.elf_file.Goals as goal

pub returns-clause-labels : goal.returns-clause-labels
returns-clause-labels c = labelled c.in_ok-file.file.items c.as_slice-3.result.now c.args.name.now
    (all_labels (seen c.args.listing)) c.in_ok-file.ensures.symbols
    (ap (λ (x : List Symbol). map name_and_value x) c.as_slice-3.ensures.value ∙ c.in_ok-symbols.ensures)

pub returns-clause-frames : goal.returns-clause-frames
returns-clause-frames c = rw c.in_ok-file.ensures.frames
    (c.as_slice.result.now, c.in_ok-tables.ensures.frames, c.in_ok-tables.ensures.size)

pub returns-clause-size : goal.returns-clause-size
returns-clause-size c = size_is c.in_ok-file.file.items _ c.as_slice-3.result.now c.as_slice-4.result.now
    c.args.name.now c.args.folder.now c.in_ok-tables.tables.frames.items c.in_ok-tables.tables.macros.items
    (seen c.args.listing) refl
    (ap (λ (x : List Symbol). map name_and_value x) c.as_slice-3.ensures.value ∙ c.in_ok-symbols.ensures)
    (c.as_slice-4.ensures.value ∙ c.in_ok-lines.ensures.value) c.in_ok-file.ensures.info c.in_ok-file.ensures.frames
    c.in_ok-file.ensures.macros c.in_ok-file.ensures.size

pub returns-clause-most : goal.returns-clause-most
returns-clause-most c = most_is c.in_ok-file.file.items c.as_slice-3.result.now c.args.name.now c.args.folder.now
    c.in_ok-tables.tables.frames.items c.in_ok-tables.tables.macros.items (seen c.args.listing)
    (ap (λ (x : List Symbol). map name_and_value x) c.as_slice-3.ensures.value ∙ c.in_ok-symbols.ensures)
    c.in_ok-file.ensures.info c.in_ok-file.ensures.frames c.in_ok-file.ensures.macros
    (few _ _ c.as_slice.result.now c.in_ok-functions.functions.items c.as_slice.ensures.value
    c.in_ok-tables.ensures.size c.in_ok-functions.ensures) c.in_ok-tables.ensures.macros

pub returns-in_err-file-clause-large : goal.returns-in_err-file-clause-large
returns-in_err-file-clause-large c =
    let e = err_from_is_err_and c.from_residual-in_err-file.result c.from_residual-in_err-file.ensures.1 in
    rw (e.1, e.2)
    (λ is fits.
    let above = exceeds _ c.as_slice-3.result.now c.as_slice-4.result.now c.args.name.now c.args.folder.now
    c.in_ok-tables.tables.frames.items c.in_ok-tables.tables.macros.items (seen c.args.listing) refl
    (ap (λ (x : List Symbol). map name_and_value x) c.as_slice-3.ensures.value ∙ c.in_ok-symbols.ensures)
    (c.as_slice-4.ensures.value ∙ c.in_ok-lines.ensures.value)
    (few _ _ c.as_slice.result.now c.in_ok-functions.functions.items c.as_slice.ensures.value
    c.in_ok-tables.ensures.size c.in_ok-functions.ensures) c.in_ok-tables.ensures.macros (c.in_err-file.ensures.large is) in
    omega (arith, above, fits.1))
