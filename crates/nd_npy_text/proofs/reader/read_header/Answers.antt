use Rattle.std.proofs.Common.{◌≡◌, ◌∙◌, ap, sym}
use Rattle.std.specs.Prelude.{Ok, Err}
use Rattle.nd_npy_text.specs.HeaderDescription.{description_of}
use Rattle.nd_npy_text.specs.HeaderReading.{dict_in, opening_in}
use Rattle.nd_npy_text.specs.DictEntries.{dict_of}
use Rattle.nd_npy_text.proofs.MemoryLackAfterHeader.{head_is, opening_not, told_memory}
use Rattle.nd_npy_text.proofs.OpeningEndsInside.{opening_inside}
use Rattle.nd_npy_text.proofs.WholeHeaders.{whole_read}
use Rattle.nd_npy_text.proofs.reader.read_header.Goals as goal

pub returns-in-Err-header_of-clause-memory : goal.returns-in-Err-header_of-clause-memory
returns-in-Err-header_of-clause-memory c is =
    let dict = c.in-Ok-dict_in.dict in
    let error = told_memory c.in-Err-header_of.error is in
    let lack = c.in-Err-header_of.ensures.memory (ap Err error) in
    let opening : opening_in c.args.bytes.now ≡ Ok (c.in-Ok.end, c.in-Ok.text.now) = sym c.in-Ok.ensures in
    let read : dict_in c.in-Ok.text.now ≡ Ok (dict_of dict) = sym c.in-Ok-dict_in.ensures.value in
    (dict_of dict, c.in-Ok.end, head_is c.args.bytes.now c.in-Ok.text.now c.in-Ok.end (dict_of dict) opening read lack.0, lack.1)

pub returns-in-Err-clause-memory : goal.returns-in-Err-clause-memory
returns-in-Err-clause-memory c is =
    let error = told_memory c.in-Err.error is in
    absurd (opening_not c.args.bytes.now (sym c.in-Err.ensures ∙ ap Err error))

pub returns-in-Ok-header_of-clause-whole : goal.returns-in-Ok-header_of-clause-whole
returns-in-Ok-header_of-clause-whole c = whole_read (dict_of c.in-Ok-dict_in.dict) (description_of c.in-Ok-header_of.header) c.in-Ok-header_of.ensures.read c.in-Ok-dict_in.ensures.order c.in-Ok-dict_in.ensures.axes

pub returns-in-Ok-header_of-clause-inside : goal.returns-in-Ok-header_of-clause-inside
returns-in-Ok-header_of-clause-inside c = opening_inside c.args.bytes.now (c.in-Ok.end, c.in-Ok.text.now) (sym c.in-Ok.ensures)
