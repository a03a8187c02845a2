use Rattle.std.proofs.Common.{◌∙◌, ◌++◌, Some, refl, ap, sym}
use Rattle.std.specs.Prelude.{false, codes}
use Rattle.nd_npy_text.specs.HeaderDescription.{described}
use Rattle.nd_npy_text.specs.HeaderWriting.{padded, roomy_text, tuple_text}
use Rattle.nd_array_core.specs.ArrayMeaning.{meaning_of}
use Rattle.nd_npy_run.specs.OutputAndStatus.{bytes_made}
use Rattle.nd_npy_run.proofs.PrintedTextByItemKind.{wanted_comes}
use Rattle.nd_npy_run.proofs.Reducing.{reduced_comes}
use Rattle.nd_npy_run.proofs.wanted_outputs.wanted_bytes.Goals as goal

pub returns-in-File : goal.returns-in-File
returns-in-File g c = wanted_comes c.args.wanted _ c.args.item_type (meaning_of c.args.array.now) _ (bytes_made c.file_bytes.result) c.in-File.is refl c.file_bytes.ensures

pub returns-in-Description : goal.returns-in-Description
returns-in-Description g c =
    let shown = ap (λ shape. Some (padded (roomy_text (described c.args.item_type false shape)))) (sym (c.slice.ensures.lengths ∙ c.raw_dim.ensures)) in
    wanted_comes c.args.wanted _ c.args.item_type (meaning_of c.args.array.now) _ (bytes_made c.description_bytes.result) c.in-Description.is shown c.description_bytes.ensures

pub returns-in-Shape : goal.returns-in-Shape
returns-in-Shape g c =
    let shown = ap (λ shape. Some (tuple_text shape ++ codes "\n")) (sym (c.slice-in-Shape.ensures.lengths ∙ c.raw_dim-in-Shape.ensures)) in
    wanted_comes c.args.wanted _ c.args.item_type (meaning_of c.args.array.now) _ (bytes_made c.shape_bytes.result) c.in-Shape.is shown c.shape_bytes.ensures

pub returns-in-Reduced : goal.returns-in-Reduced
returns-in-Reduced g c = reduced_comes c.args.wanted c.in-Reduced.reduction c.in-Reduced.axis c.args.item_type (meaning_of c.args.array.now) _ c.in-Reduced.is c.reduced_bytes.ensures

pub returns-in-Text : goal.returns-in-Text
returns-in-Text g c = rw c.in-Text.is c.printed_bytes.ensures
