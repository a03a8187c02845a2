-- A head that was written, read back.
use Rattle.std.proofs.Common.{◌≡◌, ◌∙◌, ℕ, zero, suc, ◌+◌, ◌*◌, ◌/◌, ◌%◌, ◌<◌, ◌≤◌, ◌^◌, Bool, true, false, cond, List, [], ◌∷◌, ◌++◌, length, length-append, take, refl, sym, ap, arith, append_assoc}
use Rattle.std.specs.Prelude.{Result, Ok, Err, IsTrue, codes, nat_le}
use Rattle.std.specs.List.{flat_map}
use Rattle.std.specs.Fmt.{decimal}
use Rattle.std.proofs.lemmas.Bool.{le-leb}
use Rattle.std.proofs.lemmas.List.{length-replicate}
use Rattle.nd_npy_text.specs.declared.errors.HeaderError.{HeaderError}
use Rattle.nd_npy_text.specs.declared.errors.HeaderError.TheVariants.{TooShort, TooLarge}
use Rattle.nd_npy_text.specs.declared.errors.HeaderFlaw.TheVariants as flaws
use Rattle.nd_npy_text.specs.declared.header.Version.{Version}
use Rattle.nd_npy_text.specs.declared.header.Version.TheVariants.{One, Two, Three}
use Rattle.nd_npy_text.specs.declared.item_type.Kind.{Kind}
use Rattle.nd_npy_text.specs.declared.item_type.Kind.TheVariants as kinds
use Rattle.nd_npy_text.specs.declared.item_type.ItemType.{ItemType}
use Rattle.nd_npy_text.specs.ItemTypes.{kind_size, item_type_text, has_its_order}
use Rattle.nd_npy_text.specs.HeaderDescription.{Description, IsWholeHeader, fits_memory, product_without_zeros, text_start}
use Rattle.nd_npy_text.specs.HeaderTokens.{HeaderStop, ◌>>=◌, after_spaces, after_text, after_mark, truth_here}
use Rattle.nd_npy_text.specs.ItemTypeReading.{quoted_item_in, item_type_here}
use Rattle.nd_npy_text.specs.HeaderReading.{Parts, no_parts, with_item_type, with_order, with_shape, shape_here, key_end, key_in, value_in, entry_in, next_entry, entries_in, description_of_parts, line_end, dict_end, lengths_in, dict_in, first_bytes, opening_in, with_byte_counted, unless_too_large, npy_header_in, text_in}
use Rattle.nd_npy_text.specs.HeaderWriting.{python_truth_text, next_length, tuple_text, dict_text, growth_room, spaces, padding, roomy_text, padded, front_text, with_front, npy_header_text}
use Rattle.nd_npy_text.specs.HeaderLaws.{HeadersReadBack, HeadersAreAligned, VersionsAgree, in_version}
use Rattle.nd_npy_text.proofs.ItemTypesReadBack.{item_back}
use Rattle.nd_npy_text.proofs.LengthsReadBack.{lengths_back, none_back, only_back}
use Rattle.nd_npy_text.proofs.NonzeroProducts.{first_within, product_within}

-- ---- the end

skipped : (count : ℕ) (bytes : List ℕ) → after_spaces (spaces count ++ bytes) ≡ after_spaces bytes
skipped zero bytes = refl
skipped (suc count) bytes = skipped count bytes

-- what stands after the shape
abbrev end_text : ℕ → ℕ → List ℕ
end_text room pad = codes ", }" ++ (spaces room ++ (spaces pad ++ codes "\n"))

ending_back : (room pad : ℕ) → dict_end (end_text room pad) ≡ Ok []
unfolding dict_end after_mark
ending_back room pad = ap line_end (skipped room (spaces pad ++ codes "\n") ∙ skipped pad (codes "\n"))

-- ---- the shape

-- what was found before the shape
abbrev front_parts : ItemType → Bool → Parts
front_parts item order = with_order order (with_item_type item no_parts)

abbrev and_shape : ItemType → Bool → Result (List ℕ × List ℕ) HeaderStop → Result (Parts × List ℕ) HeaderStop
and_shape item order r = r >>= λ s. Ok (with_shape s.0 (front_parts item order), s.1)

shape_back : (item : ItemType) (order : Bool) (ns tail : List ℕ) → product_without_zeros ns < 2 ^ 63 → length ns ≤ 32 → next_entry (front_parts item order) (codes ", 'shape': " ++ (tuple_text ns ++ tail)) ≡ Ok (with_shape ns (front_parts item order), tail)
unfolding next_entry entry_in key_in key_end value_in shape_here after_mark
shape_back item order [] tail fits axes = ap (and_shape item order) (none_back true 32 tail)
shape_back item order (n ∷ []) tail fits axes = ap (and_shape item order) (ap (lengths_in true 32) (append_assoc (decimal n) (codes ",)") tail) ∙ only_back n tail (first_within n [] fits))
shape_back item order (n ∷ m ∷ ms) tail fits axes =
    let others = flat_map next_length (m ∷ ms) in
    let same = append_assoc (decimal n) (others ++ codes ")") tail ∙ ap (λ l. decimal n ++ l) (append_assoc others (codes ")") tail) in
    ap (and_shape item order) (ap (lengths_in true 32) same ∙ lengths_back n (m ∷ ms) true 32 tail fits axes refl)

-- ---- the dict

-- what is read after the word of an item type
abbrev closed : Result (ItemType × List ℕ) HeaderStop → Result (ItemType × List ℕ) HeaderStop
closed r = r >>= λ t. after_text flaws.ItemType (39 ∷ []) t.1 >>= λ rest. Ok (t.0, rest)

abbrev first_part : Result (ItemType × List ℕ) HeaderStop → Result (Parts × List ℕ) HeaderStop
first_part r = r >>= λ t. Ok (with_item_type t.0 no_parts, t.1)

abbrev after_item : Result (ItemType × List ℕ) HeaderStop → Result (Parts × List ℕ) HeaderStop
after_item r = first_part (closed r) >>= λ x. next_entry x.0 x.1 >>= λ y. next_entry y.0 y.1

front_back : (item : ItemType) (order : Bool) (tail : List ℕ) → IsTrue (has_its_order item)
    → entries_in (codes "'descr': '" ++ (item_type_text item ++ (codes "', 'fortran_order': " ++ (python_truth_text order ++ (codes ", 'shape': " ++ tail))))) ≡ next_entry (front_parts item order) (codes ", 'shape': " ++ tail)
unfolding entries_in next_entry entry_in value_in key_in key_end after_mark item_type_here quoted_item_in truth_here
front_back item true tail goes = ap after_item (item_back item (codes ", 'fortran_order': True, 'shape': " ++ tail) goes)
front_back item false tail goes = ap after_item (item_back item (codes ", 'fortran_order': False, 'shape': " ++ tail) goes)

dict_same : (d : Description) (tail : List ℕ) → dict_text d ++ tail ≡ codes "{'descr': '" ++ (item_type_text d.item_type ++ (codes "', 'fortran_order': " ++ (python_truth_text d.fortran_order ++ (codes ", 'shape': " ++ (tuple_text d.array_shape ++ (codes ", }" ++ tail))))))
dict_same d tail =
    let item = item_type_text d.item_type in
    let truth = python_truth_text d.fortran_order in
    let tuple = tuple_text d.array_shape in
    let third = append_assoc tuple (codes ", }") tail in
    let second = append_assoc truth (codes ", 'shape': " ++ (tuple ++ codes ", }")) tail ∙ ap (λ l. truth ++ (codes ", 'shape': " ++ l)) third in
    let first = append_assoc item (codes "', 'fortran_order': " ++ (truth ++ (codes ", 'shape': " ++ (tuple ++ codes ", }")))) tail ∙ ap (λ l. item ++ (codes "', 'fortran_order': " ++ l)) second in
    ap (λ l. codes "{'descr': '" ++ l) first

some_bytes : (kind : Kind) → 1 ≤ kind_size kind
some_bytes kinds.Bool = omega arith
some_bytes kinds.Int8 = omega arith
some_bytes kinds.Int16 = omega arith
some_bytes kinds.Int32 = omega arith
some_bytes kinds.Int64 = omega arith
some_bytes kinds.UInt8 = omega arith
some_bytes kinds.UInt16 = omega arith
some_bytes kinds.UInt32 = omega arith
some_bytes kinds.UInt64 = omega arith
some_bytes kinds.Float16 = omega arith
some_bytes kinds.Float32 = omega arith
some_bytes kinds.Float64 = omega arith
some_bytes kinds.Complex64 = omega arith
some_bytes kinds.Complex128 = omega arith

dict_back : (d : Description) (room pad : ℕ) → IsWholeHeader d → dict_in (dict_text d ++ (spaces room ++ (spaces pad ++ codes "\n"))) ≡ Ok d
unfolding dict_in after_mark
dict_back d room pad whole =
    let fits = product_within (kind_size d.item_type.kind) d.array_shape (some_bytes d.item_type.kind) whole.size_allowed in
    let e = end_text room pad in
    let entries = front_back d.item_type d.fortran_order (tuple_text d.array_shape ++ e) whole.order_allowed ∙ shape_back d.item_type d.fortran_order d.array_shape e fits whole.axes_allowed in
    ap dict_in (dict_same d (spaces room ++ (spaces pad ++ codes "\n")))
    ∙ ap (λ r. r >>= λ x. dict_end x.1 >>= λ rest. description_of_parts x.0.item_type x.0.fortran_order x.0.shape_found) entries
    ∙ ap (λ r. r >>= λ rest. Ok d) (ending_back room pad)

-- ---- what stands in front

taken : (body rest : List ℕ) → take (length body) (body ++ rest) ≡ body
taken [] rest = refl
taken (b ∷ bs) rest = ap (λ l. b ∷ l) (taken bs rest)

front_is : (body rest : List ℕ) (size : ℕ) → size ≡ length body → first_bytes size (body ++ rest) ≡ Ok body
front_is body rest size is =
    let long = length-append body rest in
    let enough : nat_le (length body) (length (body ++ rest)) ≡ true = le-leb (length body) (length (body ++ rest)) (omega (arith, long)) in
    ap (λ n. first_bytes n (body ++ rest)) is ∙ ap (λ t. cond t (Ok (take (length body) (body ++ rest))) (Err TooShort)) enough ∙ ap Ok (taken body rest)

-- four bytes of a number, joined
four : (n : ℕ) → n % 256 + n / 256 % 256 * 256 + n / 256 / 256 % 256 * 65536 + n / 256 / 256 / 256 * 16777216 ≡ n
four n = omega arith

-- where the elements begin, and the text whose length was written before it as this
abbrev placed : ℕ → Result (List ℕ) HeaderError → Result (ℕ × List ℕ) HeaderError
placed start r = r >>= λ text. Ok (start, text)

found : (start size : ℕ) (text rest : List ℕ) → size ≡ length text → placed (start + size) (first_bytes size (text ++ rest)) ≡ Ok (start + length text, text)
found start size text rest is = ap (placed (start + size)) (front_is text rest size is) ∙ ap (λ m. Ok (start + m, text)) is

opening_back : (version : Version) (text rest : List ℕ) → opening_in (in_version version text ++ rest) ≡ Ok (text_start version + length text, text)
unfolding opening_in text_in
opening_back One text rest =
    let n = length text in
    found 10 (n % 256 + n / 256 * 256) text rest (omega arith)
opening_back Two text rest =
    let n = length text in
    found 12 (n % 256 + n / 256 % 256 * 256 + n / 256 / 256 % 256 * 65536 + n / 256 / 256 / 256 * 16777216) text rest (four n)
opening_back Three text rest =
    let n = length text in
    found 12 (n % 256 + n / 256 % 256 * 256 + n / 256 / 256 % 256 * 65536 + n / 256 / 256 / 256 * 16777216) text rest (four n)

-- ---- the head

header_length : (body : List ℕ) → length (with_front body) ≡ 10 + length body
header_length body = length-append (front_text (length body)) body

small_enough : (d : Description) → IsTrue (fits_memory (kind_size d.item_type.kind) d.array_shape) → unless_too_large d ≡ Ok d
small_enough d fits = ap (λ t. cond t (Ok d) (Err TooLarge)) fits

pub versions_agree : VersionsAgree
unfolding npy_header_in
versions_agree version d rest whole =
    let room = growth_room d.fortran_order d.array_shape in
    let text = roomy_text d in
    let pad = padding (length text) in
    let body = padded text in
    let same : body ≡ dict_text d ++ (spaces room ++ (spaces pad ++ codes "\n")) = append_assoc (dict_text d) (spaces room) (spaces pad ++ codes "\n") in
    let dict : dict_in body ≡ Ok d = ap dict_in same ∙ dict_back d room pad whole in
    let end = text_start version + length body in
    ap (λ r. r >>= λ o. with_byte_counted o.0 (dict_in o.1) >>= λ d. unless_too_large d >>= λ whole. Ok (whole, o.0)) (opening_back version body rest)
    ∙ ap (λ r. with_byte_counted end r >>= λ d. unless_too_large d >>= λ whole. Ok (whole, end)) dict
    ∙ ap (λ r. r >>= λ whole. Ok (whole, end)) (small_enough d whole.size_allowed)

pub headers_back : HeadersReadBack
unfolding npy_header_text
headers_back d rest whole = versions_agree One d rest whole ∙ ap (λ n. Ok (d, n)) (sym (header_length (padded (roomy_text d))))

pub headers_aligned : HeadersAreAligned
unfolding npy_header_text
headers_aligned d =
    let text = roomy_text d in
    let pad = padding (length text) in
    let whole = header_length (padded text) in
    let body = length-append text (spaces pad ++ codes "\n") in
    let end = length-append (spaces pad) (codes "\n") in
    let gap = length-replicate {A = ℕ} pad 32 in
    omega (arith, whole, body, end, gap)
