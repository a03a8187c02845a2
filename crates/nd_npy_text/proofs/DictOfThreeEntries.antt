-- Three entries of a dict are all its parts.
use Rattle.std.proofs.Common.{◌≡◌, ◌∙◌, ℕ, ◌+◌, Bool, List, length, refl, sym, ap, arith}
use Rattle.std.specs.Prelude.{Result, Ok, Err, Option, None, Some, IsTrue, is_some}
use Rattle.nd_npy_text.specs.declared.dict.Key.{Key}
use Rattle.nd_npy_text.specs.declared.dict.Key.TheVariants.{Descr, FortranOrder, Shape}
use Rattle.nd_npy_text.specs.declared.errors.HeaderFlaw.TheVariants as flaws
use Rattle.nd_npy_text.specs.declared.item_type.ItemType.{ItemType}
use Rattle.nd_npy_text.specs.HeaderTokens.{HeaderStop, ◌>>=◌, after_mark, after_spaces, truth_here}
use Rattle.nd_npy_text.specs.ItemTypeReading.{item_type_here}
use Rattle.nd_npy_text.specs.HeaderReading.{Parts, no_parts, key_in, shape_here, value_in, entry_in, next_entry, entries_in}
use Rattle.nd_npy_text.specs.HeaderLaws.{EntriesAreWhole}

-- how many parts there are
abbrev one : {X : Type 0} → Option X → ℕ
one None = 0
one (Some x) = 1

abbrev count : Parts → ℕ
count p = one p.item_type + one p.fortran_order + one p.shape_found

-- what is read, if anything, has so many parts
abbrev Counts : ℕ → Result (Parts × List ℕ) HeaderStop → Type 0
Counts n r = (q : Parts) (rest : List ℕ) → r ≡ Ok (q, rest) → count q ≡ n

ok_counts : (n : ℕ) (p : Parts) (after : List ℕ) → count p ≡ n → Counts n (Ok (p, after))
ok_counts n p after is q rest read =
    let same : ◌≡◌ {A = Parts × List ℕ} (p, after) (q, rest) = cc in
    ap (λ x. count x.0) (sym same) ∙ is

stop_counts : (n : ℕ) (stop : HeaderStop) → Counts n (Err stop)
stop_counts n stop q rest read = absurd cc

bind_counts : {A : Type 0} (n : ℕ) (r : Result A HeaderStop) (f : A → Result (Parts × List ℕ) HeaderStop) → ((a : A) → Counts n (f a)) → Counts n (r >>= f)
bind_counts n (Ok a) f all = all a
bind_counts n (Err stop) f all = stop_counts n stop

then_counts : (n m : ℕ) (r : Result (Parts × List ℕ) HeaderStop) (f : Parts × List ℕ → Result (Parts × List ℕ) HeaderStop) → Counts n r → ((p : Parts) (after : List ℕ) → count p ≡ n → Counts m (f (p, after))) → Counts m (r >>= f)
then_counts n m (Ok x) f first all = all x.0 x.1 (first x.0 x.1 refl)
then_counts n m (Err stop) f first all = stop_counts m stop

-- a value is one more part
item_counts : (item : Option ItemType) (order : Option Bool) (shape : Option (List ℕ)) (left : ℕ) (bytes : List ℕ) →
    let p : Parts = record { item_type = item; fortran_order = order; shape_found = shape } in
    Counts (count p + 1) (value_in Descr p left bytes)
unfolding value_in
item_counts (Some t) order shape left bytes = stop_counts (1 + one order + one shape + 1) (left, flaws.KeyAgain)
item_counts None order shape left bytes =
    bind_counts (0 + one order + one shape + 1) (item_type_here (after_spaces bytes)) _ (λ t. ok_counts (0 + one order + one shape + 1) (record { item_type = Some t.0; fortran_order = order; shape_found = shape }) t.1 (omega arith))

order_counts : (item : Option ItemType) (order : Option Bool) (shape : Option (List ℕ)) (left : ℕ) (bytes : List ℕ) →
    let p : Parts = record { item_type = item; fortran_order = order; shape_found = shape } in
    Counts (count p + 1) (value_in FortranOrder p left bytes)
unfolding value_in
order_counts item (Some o) shape left bytes = stop_counts (one item + 1 + one shape + 1) (left, flaws.KeyAgain)
order_counts item None shape left bytes =
    bind_counts (one item + 0 + one shape + 1) (truth_here (after_spaces bytes)) _ (λ o. ok_counts (one item + 0 + one shape + 1) (record { item_type = item; fortran_order = Some o.0; shape_found = shape }) o.1 (omega arith))

shape_counts : (item : Option ItemType) (order : Option Bool) (shape : Option (List ℕ)) (left : ℕ) (bytes : List ℕ) →
    let p : Parts = record { item_type = item; fortran_order = order; shape_found = shape } in
    Counts (count p + 1) (value_in Shape p left bytes)
unfolding value_in
shape_counts item order (Some s) left bytes = stop_counts (one item + one order + 1 + 1) (left, flaws.KeyAgain)
shape_counts item order None left bytes =
    bind_counts (one item + one order + 0 + 1) (shape_here bytes) _ (λ s. ok_counts (one item + one order + 0 + 1) (record { item_type = item; fortran_order = order; shape_found = Some s.0 }) s.1 (omega arith))

value_counts : (key : Key) (p : Parts) (left : ℕ) (bytes : List ℕ) → Counts (count p + 1) (value_in key p left bytes)
value_counts Descr p left bytes = item_counts p.item_type p.fortran_order p.shape_found left bytes
value_counts FortranOrder p left bytes = order_counts p.item_type p.fortran_order p.shape_found left bytes
value_counts Shape p left bytes = shape_counts p.item_type p.fortran_order p.shape_found left bytes

entry_counts : (p : Parts) (bytes : List ℕ) → Counts (count p + 1) (entry_in p bytes)
unfolding entry_in
entry_counts p bytes = bind_counts (count p + 1) (key_in bytes) _ (λ k. value_counts k.0 p (length (after_spaces bytes)) k.1)

next_counts : (n : ℕ) (p : Parts) (bytes : List ℕ) → count p ≡ n → Counts (n + 1) (next_entry p bytes)
unfolding next_entry
next_counts n p bytes is = bind_counts (n + 1) (after_mark flaws.Comma 44 bytes) _ (λ rest q end read. entry_counts p rest q end read ∙ ap (λ m. m + 1) is)

entries_count : (bytes : List ℕ) → Counts 3 (entries_in bytes)
unfolding entries_in
entries_count bytes =
    then_counts 1 3 (entry_in no_parts bytes) _ (entry_counts no_parts bytes)
    (λ x after first. then_counts 2 3 (next_entry x after) _ (next_counts 1 x after first) (λ y end second. next_counts 2 y end second))

all_there : (item : Option ItemType) (order : Option Bool) (shape : Option (List ℕ)) → one item + one order + one shape ≡ 3 → IsTrue (is_some item) × IsTrue (is_some order) × IsTrue (is_some shape)
all_there (Some t) (Some o) (Some s) is = (refl, refl, refl)
all_there (Some t) (Some o) None is = absurd (omega (arith, is))
all_there (Some t) None (Some s) is = absurd (omega (arith, is))
all_there (Some t) None None is = absurd (omega (arith, is))
all_there None (Some o) (Some s) is = absurd (omega (arith, is))
all_there None (Some o) None is = absurd (omega (arith, is))
all_there None None (Some s) is = absurd (omega (arith, is))
all_there None None None is = absurd (omega (arith, is))

pub entries_whole : EntriesAreWhole
entries_whole bytes rest p read = all_there p.item_type p.fortran_order p.shape_found (entries_count bytes p rest read)
