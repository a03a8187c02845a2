use Rattle.std.proofs.Common.{sym}
use Rattle.nd_npy_text.proofs.BytesBehindOthers.{word_read}
use Rattle.nd_npy_text.proofs.item_words.item_word_in.Goals as goal

pub returns-in-Some-clause-value : goal.returns-in-Some-clause-value
returns-in-Some-clause-value c =
    let read = word_read c.args.text.now c.in-len2-up.len_at_least (sym c.if-not-is_kind_letter.ensures) in
    sym (rw (sym c.in-Ok.ensures, sym c.in-Some.ensures.value) at read)

pub returns-in-None-clause-value : goal.returns-in-None-clause-value
returns-in-None-clause-value c =
    let read = word_read c.args.text.now c.in-len2-up.len_at_least (sym c.if-not-is_kind_letter.ensures) in
    sym (rw (sym c.in-Ok.ensures, sym c.in-None.ensures.value) at read)

pub returns-in-Err-clause-value : goal.returns-in-Err-clause-value
returns-in-Err-clause-value c =
    let read = word_read c.args.text.now c.in-len2-up.len_at_least (sym c.if-not-is_kind_letter.ensures) in
    sym (rw (sym c.in-Err.ensures) at read)
