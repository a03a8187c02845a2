-- A head of at most 32 axes is short; and the spaces that end it.
use Rattle.std.proofs.Common.{◌≡◌, ◌∙◌, ℕ, suc, ◌+◌, ◌-◌, ◌*◌, ◌%◌, ◌<◌, ◌≤◌, ◌^◌, Bool, true, false, List, [], ◌∷◌, ◌++◌, length, length-append, append_assoc, get_or, take, take_all, sym, ap, arith}
use Rattle.std.specs.Prelude.{codes, nat_eq, if◌then◌else◌}
use Rattle.std.specs.List.{flat_map}
use Rattle.std.specs.Fmt.{decimal}
use Rattle.std.proofs.lemmas.Fmt.{length-decimal-le}
use Rattle.std.proofs.lemmas.List.{length-replicate, replicate-append-replicate}
use Rattle.nd_npy_text.specs.declared.item_type.Kind.{Kind}
use Rattle.nd_npy_text.specs.declared.item_type.Kind.TheVariants as kinds
use Rattle.nd_npy_text.specs.declared.item_type.ItemType.{ItemType}
use Rattle.nd_npy_text.specs.ItemTypes.{kind_code, item_type_text}
use Rattle.nd_npy_text.specs.HeaderDescription.{described}
use Rattle.nd_npy_text.specs.HeaderWriting.{python_truth_text, next_length, tuple_text, dict_text, growth_room, growing_length, spaces, padding, padded}

code_short : (kind : Kind) → length (kind_code kind) ≤ 3
code_short kinds.Bool = omega arith
code_short kinds.Int8 = omega arith
code_short kinds.Int16 = omega arith
code_short kinds.Int32 = omega arith
code_short kinds.Int64 = omega arith
code_short kinds.UInt8 = omega arith
code_short kinds.UInt16 = omega arith
code_short kinds.UInt32 = omega arith
code_short kinds.UInt64 = omega arith
code_short kinds.Float16 = omega arith
code_short kinds.Float32 = omega arith
code_short kinds.Float64 = omega arith
code_short kinds.Complex64 = omega arith
code_short kinds.Complex128 = omega arith

truth_short : (truth : Bool) → length (python_truth_text truth) ≤ 5
truth_short true = omega arith
truth_short false = omega arith

-- each length is a `usize`
abbrev pub AreSizes : List ℕ → Type 0
AreSizes ns = (k : ℕ) → get_or ns k 0 < 2 ^ 64

digits_short : (n : ℕ) → n < 2 ^ 64 → length (decimal n) ≤ 20
digits_short n small = length-decimal-le 20 n (omega arith) (omega (arith, small)) small

rest_sizes : (n : ℕ) (ns : List ℕ) → AreSizes (n ∷ ns) → AreSizes ns
rest_sizes n ns sizes k = sizes (suc k)

next_short : (ns : List ℕ) → AreSizes ns → length (flat_map next_length ns) ≤ 22 * length ns
next_short [] sizes = omega arith
next_short (n ∷ ns) sizes =
    let one = digits_short n (sizes 0) in
    let others = next_short ns (rest_sizes n ns sizes) in
    let whole = length-append (next_length n) (flat_map next_length ns) in
    omega (arith, one, others, whole)

tuple_short : (ns : List ℕ) → AreSizes ns → length (tuple_text ns) ≤ 22 * length ns + 3
tuple_short [] sizes = omega arith
tuple_short (n ∷ []) sizes =
    let one = digits_short n (sizes 0) in
    let whole = length-append (decimal n) (codes ",)") in
    omega (arith, one, whole)
tuple_short (n ∷ m ∷ ns) sizes =
    let one = digits_short n (sizes 0) in
    let others = next_short (m ∷ ns) (rest_sizes n (m ∷ ns) sizes) in
    let end = length-append (flat_map next_length (m ∷ ns)) (codes ")") in
    let whole = length-append (decimal n) (flat_map next_length (m ∷ ns) ++ codes ")") in
    omega (arith, one, others, end, whole)

room_short : (order : Bool) (shape : List ℕ) → growth_room order shape ≤ 21
room_short order shape = by_test (nat_eq (length shape) 0) (length (decimal (growing_length order shape)))
  where
    by_test : (none : Bool) (count : ℕ) → (if none then 0 else 21 - count) ≤ 21
    by_test true count = omega arith
    by_test false count = omega arith

pub text_short : (item : ItemType) (order : Bool) (shape : List ℕ) → length shape ≤ 32 → AreSizes shape → length (dict_text (described item order shape)) + growth_room order shape ≤ 800
text_short item order shape axes sizes =
    let code = code_short item.kind in
    let word = truth_short order in
    let tuple = tuple_short shape sizes in
    let room = room_short order shape in
    let a = length-append (tuple_text shape) (codes ", }") in
    let b = length-append (python_truth_text order) (codes ", 'shape': " ++ (tuple_text shape ++ codes ", }")) in
    let c = length-append (item_type_text item) (codes "', 'fortran_order': " ++ (python_truth_text order ++ (codes ", 'shape': " ++ (tuple_text shape ++ codes ", }")))) in
    omega (arith, code, word, tuple, room, axes, a, b, c)

-- a text with spaces up to the length `end`
spaced : (text new : List ℕ) (room pad end : ℕ) → end ≡ length text + room + pad → new ≡ take end text ++ spaces (end - length text) → new ≡ (text ++ spaces room) ++ spaces pad
spaced text new room pad end is so =
    let more : end - length text ≡ room + pad = omega (arith, is) in
    let all : length text ≤ end = omega (arith, is) in
    so
    ∙ ap (λ l. l ++ spaces (end - length text)) (take_all end text all)
    ∙ ap (λ n. text ++ spaces n) more
    ∙ ap (λ l. text ++ l) (sym (replicate-append-replicate room pad 32))
    ∙ sym (append_assoc text (spaces room) (spaces pad))

-- the text of a dict, with spaces up to the length `end` and a line feed after them
pub padded_is : (text new : List ℕ) (room end : ℕ) → end ≡ length text + room + 64 - (11 + (length text + room)) % 64 → new ≡ take end text ++ spaces (end - length text) → new ++ codes "\n" ≡ padded (text ++ spaces room)
padded_is text new room end is so =
    let long : length (text ++ spaces room) ≡ length text + room = omega (arith, length-append text (spaces room), length-replicate {A = ℕ} room 32) in
    let least : (11 + (length text + room)) % 64 < 64 = omega arith in
    let far : end ≡ length text + room + padding (length (text ++ spaces room)) = rw long (omega (arith, is, least)) in
    let pad = padding (length (text ++ spaces room)) in
    ap (λ l. l ++ codes "\n") (spaced text new room pad end far so) ∙ append_assoc (text ++ spaces room) (spaces pad) (codes "\n")
