use Rattle.std.proofs.Common.{◌≡◌, ◌∙◌, ◌<◌, ◌≤◌, length, ap, sym, subst}
use Rattle.std.specs.Prelude.{Ok, Err, IfSome}
use Rattle.nd_array_core.specs.ArrayMeaning.{meaning_of}
use Rattle.nd_npy_text.specs.HeaderDescription.{description_of}
use Rattle.nd_npy_text.specs.HeaderReading.{npy_header_in}
use Rattle.nd_npy.specs.FileBytesAndArrays.{or_header_error, array_after_head, IsNpyCause}
use Rattle.nd_npy.specs.StreamReadsAndWrites.{bytes_ahead, ReadsStreamAs}
use Rattle.nd_npy_text.proofs.MemoryLackAfterHeader.{head_bytes, lengths_bytes}
use Rattle.nd_npy.proofs.ArraysFromStreams.{file_error, stream_of_head, stream_of_cause}
use Rattle.nd_npy.proofs.DataSizeAndErrorCauses.{header_is}
use Rattle.nd_npy.proofs.streams.array_behind.Goals as goal

pub returns-in-Ok-clause-read : goal.returns-in-Ok-clause-read
returns-in-Ok-clause-read g c =
    let front = c.args.front.now.items in
    let input = c.args.input.now in
    let d = description_of c.in-Ok.header in
    let start = c.in-Ok.start in
    let same = c.deref.ensures.value in
    let head : or_header_error (npy_header_in front) ≡ Ok (d, start) = ap (λ l. or_header_error (npy_header_in l)) (sym same) ∙ c.in-Ok.ensures.read in
    let inside : start ≤ length front = subst (λ l. start ≤ length l) same c.in-Ok.ensures.inside in
    let P = ReadsStreamAs meaning_of c.array_ahead.result in
    let holds = subst (λ l. IfSome (bytes_ahead g.R.Read.remaining l input) (λ bytes. P (array_after_head g.A.NpyItem d bytes))) c.drop_front.ensures.bytes c.array_ahead.ensures.read in
    stream_of_head c.heads_need_no_more.ensures front g.A.NpyItem (g.R.Read.remaining input.inner) c.requires.enough d start head inside P holds

pub returns-in-Ok-clause-memory : goal.returns-in-Ok-clause-memory
returns-in-Ok-clause-memory g c = λ is.
    let front = c.args.front.now.items in
    let head = header_is (npy_header_in front) _ (ap (λ l. or_header_error (npy_header_in l)) (sym c.deref.ensures.value) ∙ c.in-Ok.ensures.read) in
    head_bytes front _ head

pub returns-in-Err-clause-read : goal.returns-in-Err-clause-read
returns-in-Err-clause-read g c =
    let front = c.args.front.now.items in
    let error = c.in-Err.error in
    let cause : IsNpyCause error (or_header_error (npy_header_in front)) = subst (λ l. IsNpyCause error (or_header_error (npy_header_in l))) c.deref.ensures.value c.in-Err.ensures.read in
    stream_of_cause c.heads_need_no_more.ensures front g.A.NpyItem (g.R.Read.remaining c.args.input.now.inner) c.requires.enough error cause

pub returns-in-Err-clause-memory : goal.returns-in-Err-clause-memory
returns-in-Err-clause-memory g c = λ is. subst (λ l. 0 < length l) c.deref.ensures.value (lengths_bytes _ (c.in-Err.ensures.memory (ap Err (file_error _ _ is))))
