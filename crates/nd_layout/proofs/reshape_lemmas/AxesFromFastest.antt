-- Lists of axes from the fastest on: in row-major order they are reversed.
use Rattle.nd_layout.proofs.NamesFromOtherCrates.{ℕ, zero, suc, ⊎_elim, ◌+◌, ◌-◌, ◌*◌, ◌<◌, ◌≡◌, List, [], ◌∷◌, ◌++◌, length, reverse, get_or, set, ltb, ◌&&◌, true, arith, refl, ap, sym, ◌∙◌, ℤ, pos, ◌+ℤ◌, ◌*ℤ◌, reverse-cons, mul_comm, mul_assoc, cases_eq, length-reverse, length-set, get_or-reverse, get_or-set_same, get_or-set_other, reverse-reverse, ext_get_or, in_box, size_of, row_rank, column_rank, displacement_of, span_of, span_within, IsSeparated, Order, RowMajor, ColumnMajor, length-in_box, column_rank_below}
use Rattle.nd_layout.specs.RanksAndReshapeStrides.{rank_in, Serves, fastest_first, axis_in, at_rank, ServesRanks, column_index}
use Rattle.nd_layout.specs.StridesAfterLayoutCalls.{RestsAtOnes}
use Rattle.nd_layout.proofs.Integers.{sums}
use Rattle.nd_layout.proofs.AxisRemovedOrInserted.{and_swap}
use Rattle.nd_layout.proofs.NthElementInColumnMajor.{at_rank-column_rank, in_box-column_index, column_rank-column_index}
use Rattle.nd_layout.proofs.SeparationByAxes.{EachApart, EachApart-append, EachApart-weaker, EachApart-from_separated, separated_from_each, span_within-append, span_of-append}
use Rattle.nd_layout.proofs.reshape_lemmas.RegroupedAxes.{size_of-append}

-- as many axes
pub length-ordered : {X : Type 0} (o : Order) (xs : List X) → length (fastest_first o xs) ≡ length xs
length-ordered RowMajor xs = length-reverse xs
length-ordered ColumnMajor xs = refl

-- twice is back
pub ordered-ordered : {X : Type 0} (o : Order) (xs : List X) → fastest_first o (fastest_first o xs) ≡ xs
ordered-ordered RowMajor xs = reverse-reverse xs
ordered-ordered ColumnMajor xs = refl

-- what stands at the k-th fastest axis
pub get_or-ordered : {X : Type 0} (o : Order) (xs : List X) (k : ℕ) (d : X) → k < length xs → get_or (fastest_first o xs) k d ≡ get_or xs (axis_in o (length xs) k) d
get_or-ordered RowMajor xs k d h = get_or-reverse xs k d h
get_or-ordered ColumnMajor xs k d h = refl

reverse-set : {X : Type 0} (xs : List X) (k : ℕ) (v : X) → k < length xs → reverse (set xs (length xs - 1 - k) v) ≡ set (reverse xs) k v
reverse-set xs k v h =
    let a = length xs - 1 - k in
    let l = length-set xs a v in
    let r = length-reverse xs in
    ext_get_or v (reverse (set xs a v)) (set (reverse xs) k v) (length-reverse (set xs a v) ∙ l ∙ sym (length-set (reverse xs) k v ∙ r))
    (λ j within.
    let j_in : j < length xs = omega (arith, length-reverse (set xs a v)) in
    let left : get_or (reverse (set xs a v)) j v ≡ get_or (set xs a v) (length xs - 1 - j) v =
    get_or-reverse (set xs a v) j v (omega arith) ∙ ap (λ n. get_or (set xs a v) (n - 1 - j) v) l in
    ⊎_elim
    (λ (is : j ≡ k).
    left ∙ ap (λ n. get_or (set xs a v) (length xs - 1 - n) v) is ∙ get_or-set_same xs a v v (omega arith)
    ∙ sym (ap (λ n. get_or (set (reverse xs) k v) n v) is ∙ get_or-set_same (reverse xs) k v v (omega arith)))
    (λ (other : j ≡ k → ⊥).
    left ∙ get_or-set_other xs a (length xs - 1 - j) v v (λ e. other (omega arith))
    ∙ sym (get_or-set_other (reverse xs) k j v v other ∙ get_or-reverse xs j v j_in))
    (cases_eq j k))

-- a write at the k-th fastest axis
pub ordered-set : {X : Type 0} (o : Order) (xs : List X) (k : ℕ) (v : X) → k < length xs → fastest_first o (set xs (axis_in o (length xs) k) v) ≡ set (fastest_first o xs) k v
ordered-set RowMajor xs k v h = reverse-set xs k v h
ordered-set ColumnMajor xs k v h = refl

-- ---- one more axis at the end
in_box-push : (ns i : List ℕ) (n k : ℕ) → length i ≡ length ns → in_box (ns ++ n ∷ []) (i ++ k ∷ []) ≡ (ltb k n && in_box ns i)
in_box-push [] [] n k e = refl
in_box-push [] (x ∷ i) n k e = absurd (omega arith)
in_box-push (m ∷ ns) [] n k e = absurd (omega arith)
in_box-push (m ∷ ns) (x ∷ i) n k e = ap (λ b. ltb x m && b) (in_box-push ns i n k (omega arith)) ∙ and_swap (ltb x m) (ltb k n) (in_box ns i)

displacement_of-push : (ss : List ℤ) (i : List ℕ) (s : ℤ) (k : ℕ) → length i ≡ length ss → displacement_of (ss ++ s ∷ []) (i ++ k ∷ []) ≡ (pos k *ℤ s) +ℤ displacement_of ss i
displacement_of-push [] [] s k e = refl
displacement_of-push [] (x ∷ i) s k e = absurd (omega arith)
displacement_of-push (t ∷ ss) [] s k e = absurd (omega arith)
displacement_of-push (t ∷ ss) (x ∷ i) s k e = omega (arith, sums, displacement_of-push ss i s k (omega arith))

column_rank-push : (ns i : List ℕ) (n k : ℕ) → length i ≡ length ns → column_rank (ns ++ n ∷ []) (i ++ k ∷ []) ≡ k * size_of ns + column_rank ns i
column_rank-push [] [] n k e = omega arith
column_rank-push [] (x ∷ i) n k e = absurd (omega arith)
column_rank-push (m ∷ ns) [] n k e = absurd (omega arith)
column_rank-push (m ∷ ns) (x ∷ i) n k e =
    let r = column_rank-push ns i n k (omega arith) in
    let a : m * (k * size_of ns) ≡ k * (m * size_of ns) = sym (mul_assoc m k (size_of ns)) ∙ ap (λ v. v * size_of ns) (mul_comm m k) ∙ mul_assoc k m (size_of ns) in
    rw r (omega arith)

size_of-reverse : (ns : List ℕ) → size_of (reverse ns) ≡ size_of ns
size_of-reverse [] = refl
size_of-reverse (n ∷ ns) = rw (reverse-cons n ns, size_of-append (reverse ns) (n ∷ []), size_of-reverse ns) (let c = mul_comm (size_of ns) n in omega arith)

in_box-reverse : (ns i : List ℕ) → length i ≡ length ns → in_box (reverse ns) (reverse i) ≡ in_box ns i
in_box-reverse [] [] e = refl
in_box-reverse [] (k ∷ i) e = absurd (omega arith)
in_box-reverse (n ∷ ns) [] e = absurd (omega arith)
in_box-reverse (n ∷ ns) (k ∷ i) e =
    rw (reverse-cons n ns, reverse-cons k i)
    (in_box-push (reverse ns) (reverse i) n k (length-reverse i ∙ (omega arith) ∙ sym (length-reverse ns)) ∙ ap (λ b. ltb k n && b) (in_box-reverse ns i (omega arith)))

displacement_of-reverse : (ss : List ℤ) (i : List ℕ) → length i ≡ length ss → displacement_of (reverse ss) (reverse i) ≡ displacement_of ss i
displacement_of-reverse [] [] e = refl
displacement_of-reverse [] (k ∷ i) e = absurd (omega arith)
displacement_of-reverse (s ∷ ss) [] e = absurd (omega arith)
displacement_of-reverse (s ∷ ss) (k ∷ i) e =
    rw (reverse-cons s ss, reverse-cons k i)
    (displacement_of-push (reverse ss) (reverse i) s k (length-reverse i ∙ (omega arith) ∙ sym (length-reverse ss)) ∙ ap (λ v. (pos k *ℤ s) +ℤ v) (displacement_of-reverse ss i (omega arith)))

column_rank-reverse : (ns i : List ℕ) → length i ≡ length ns → column_rank (reverse ns) (reverse i) ≡ row_rank ns i
column_rank-reverse [] [] e = refl
column_rank-reverse [] (k ∷ i) e = absurd (omega arith)
column_rank-reverse (n ∷ ns) [] e = absurd (omega arith)
column_rank-reverse (n ∷ ns) (k ∷ i) e =
    rw (reverse-cons n ns, reverse-cons k i)
    (column_rank-push (reverse ns) (reverse i) n k (length-reverse i ∙ (omega arith) ∙ sym (length-reverse ns))
    ∙ ap (λ v. k * v + column_rank (reverse ns) (reverse i)) (size_of-reverse ns)
    ∙ ap (λ v. k * size_of ns + v) (column_rank-reverse ns i (omega arith)))

span_of-reverse : (ns : List ℕ) (ss : List ℤ) → length ss ≡ length ns → span_of (reverse ns) (reverse ss) ≡ span_of ns ss
span_of-reverse [] [] e = refl
span_of-reverse [] (s ∷ ss) e = absurd (omega arith)
span_of-reverse (n ∷ ns) [] e = absurd (omega arith)
span_of-reverse (n ∷ ns) (s ∷ ss) e =
    let l : length (reverse ss) ≡ length (reverse ns) = length-reverse ss ∙ (omega arith) ∙ sym (length-reverse ns) in
    rw (reverse-cons n ns, reverse-cons s ss)
    (omega (arith, span_of-append (reverse ns) (reverse ss) (n ∷ []) (s ∷ []) l, span_of-reverse ns ss (omega arith)))

span_within-reverse : (g : ℕ) (ns : List ℕ) (ss : List ℤ) → length ss ≡ length ns → span_within g (reverse ns) (reverse ss) ≡ span_within g ns ss
span_within-reverse g [] [] e = refl
span_within-reverse g [] (s ∷ ss) e = absurd (omega arith)
span_within-reverse g (n ∷ ns) [] e = absurd (omega arith)
span_within-reverse g (n ∷ ns) (s ∷ ss) e =
    let l : length (reverse ss) ≡ length (reverse ns) = length-reverse ss ∙ (omega arith) ∙ sym (length-reverse ns) in
    rw (reverse-cons n ns, reverse-cons s ss)
    (omega (arith, span_within-append g (reverse ns) (reverse ss) (n ∷ []) (s ∷ []) l, span_within-reverse g ns ss (omega arith)))

EachApart-reverse : (W : ℕ → ℕ) (ns : List ℕ) (ss : List ℤ) → length ss ≡ length ns → EachApart W ns ss → EachApart W (reverse ns) (reverse ss)
EachApart-reverse W [] [] e h = tt
EachApart-reverse W [] (s ∷ ss) e h = absurd (omega arith)
EachApart-reverse W (n ∷ ns) [] e h = absurd (omega arith)
EachApart-reverse W (n ∷ ns) (s ∷ ss) e h =
    let l : length (reverse ss) ≡ length (reverse ns) = length-reverse ss ∙ (omega arith) ∙ sym (length-reverse ns) in
    rw (reverse-cons n ns, reverse-cons s ss)
    (EachApart-append W (reverse ns) (reverse ss) (n ∷ []) (s ∷ []) l (EachApart-reverse W ns ss (omega arith) h.1) (h.0, tt))

IsSeparated-reverse : (ns : List ℕ) (ss : List ℤ) → length ss ≡ length ns → IsSeparated ns ss → IsSeparated (reverse ns) (reverse ss)
IsSeparated-reverse ns ss e apart =
    let W : ℕ → ℕ = λ g. span_within g ns ss in
    separated_from_each (reverse ns) (reverse ss) (length-reverse ss ∙ e ∙ sym (length-reverse ns))
    (EachApart-weaker (λ g. span_within g (reverse ns) (reverse ss)) W (λ g. span_within g (reverse ns) (reverse ss)) (reverse ns) (reverse ss) (λ g. omega arith) (λ n x _ _ p. rw (span_within-reverse x ns ss e) p)
    (EachApart-reverse W ns ss e (EachApart-from_separated ns ss apart)))

-- ---- in either order
pub size_of-ordered : (o : Order) (ns : List ℕ) → size_of (fastest_first o ns) ≡ size_of ns
size_of-ordered RowMajor ns = size_of-reverse ns
size_of-ordered ColumnMajor ns = refl

-- the box
pub in_box-ordered : (o : Order) (ns i : List ℕ) → length i ≡ length ns → in_box (fastest_first o ns) (fastest_first o i) ≡ in_box ns i
in_box-ordered RowMajor ns i e = in_box-reverse ns i e
in_box-ordered ColumnMajor ns i e = refl

-- the displacement
pub displacement_of-ordered : (o : Order) (ss : List ℤ) (i : List ℕ) → length i ≡ length ss → displacement_of (fastest_first o ss) (fastest_first o i) ≡ displacement_of ss i
displacement_of-ordered RowMajor ss i e = displacement_of-reverse ss i e
displacement_of-ordered ColumnMajor ss i e = refl

-- the rank, which is the column-major one of the axes from the fastest on
pub rank_in-ordered : (o : Order) (ns i : List ℕ) → length i ≡ length ns → column_rank (fastest_first o ns) (fastest_first o i) ≡ rank_in o ns i
rank_in-ordered RowMajor ns i e = column_rank-reverse ns i e
rank_in-ordered ColumnMajor ns i e = refl

-- the span
pub span_of-ordered : (o : Order) (ns : List ℕ) (ss : List ℤ) → length ss ≡ length ns → span_of (fastest_first o ns) (fastest_first o ss) ≡ span_of ns ss
span_of-ordered RowMajor ns ss e = span_of-reverse ns ss e
span_of-ordered ColumnMajor ns ss e = refl

-- separation
pub IsSeparated-ordered : (o : Order) (ns : List ℕ) (ss : List ℤ) → length ss ≡ length ns → IsSeparated ns ss → IsSeparated (fastest_first o ns) (fastest_first o ss)
IsSeparated-ordered RowMajor ns ss e apart = IsSeparated-reverse ns ss e apart
IsSeparated-ordered ColumnMajor ns ss e apart = apart

-- separation, back
pub IsSeparated-unordered : (o : Order) (ns : List ℕ) (ss : List ℤ) → length ss ≡ length ns → IsSeparated (fastest_first o ns) (fastest_first o ss) → IsSeparated ns ss
IsSeparated-unordered RowMajor ns ss e apart =
    let back = IsSeparated-reverse (reverse ns) (reverse ss) (length-reverse ss ∙ e ∙ sym (length-reverse ns)) apart in
    rw (reverse-reverse ns, reverse-reverse ss) at back
IsSeparated-unordered ColumnMajor ns ss e apart = apart

-- ---- strides that serve, by index and by rank
-- the displacement of an index is that of its rank
-- an axis of length 1 is one
pub one_within : (ns : List ℕ) (a : ℕ) → get_or ns a 0 ≡ 1 → a < length ns
one_within [] a h = absurd (omega (arith, h))
one_within (n ∷ ns) zero h = omega arith
one_within (n ∷ ns) (suc a) h = let rest = one_within ns a h in omega (arith, rest)

-- strides of 0 at length 1, from the fastest axis on and as they stand
pub rests-unordered : (o : Order) (ns : List ℕ) (ss : List ℤ) → length ss ≡ length ns → RestsAtOnes (fastest_first o ns) (fastest_first o ss) → RestsAtOnes ns ss
rests-unordered ColumnMajor ns ss e rests a one = rests a one
rests-unordered RowMajor ns ss e rests a one =
    let on : a < length ns = one_within ns a one in
    let there : length ns - 1 - a < length ns = omega (arith, on) in
    let back : length ns - 1 - (length ns - 1 - a) ≡ a = omega (arith, on) in
    let same : get_or (reverse ns) (length ns - 1 - a) 0 ≡ get_or ns a 0 = get_or-reverse ns (length ns - 1 - a) 0 there ∙ ap (λ k. get_or ns k 0) back in
    let stride : get_or (reverse ss) (length ns - 1 - a) (pos 0) ≡ get_or ss a (pos 0) =
    get_or-reverse ss (length ns - 1 - a) (pos 0) (omega (arith, there, e)) ∙ ap (λ k. get_or ss k (pos 0)) (ap (λ n. n - 1 - (length ns - 1 - a)) e ∙ back) in
    sym stride ∙ rests (length ns - 1 - a) (same ∙ one)

pub displacement-at_rank : (o : Order) (ns : List ℕ) (ss : List ℤ) (i : List ℕ) → length ss ≡ length ns → in_box ns i ≡ true → at_rank (fastest_first o ns) (fastest_first o ss) (rank_in o ns i) ≡ displacement_of ss i
displacement-at_rank o ns ss i e h =
    let l = length-in_box ns i h in
    ap (λ r. at_rank (fastest_first o ns) (fastest_first o ss) r) (sym (rank_in-ordered o ns i l))
    ∙ at_rank-column_rank (fastest_first o ns) (fastest_first o ss) (fastest_first o i) (in_box-ordered o ns i l ∙ h)
    ∙ displacement_of-ordered o ss i (l ∙ sym e)

-- a rank is below the size
pub rank_in-below : (o : Order) (ns i : List ℕ) → in_box ns i ≡ true → rank_in o ns i < size_of ns
rank_in-below o ns i h =
    let l = length-in_box ns i h in
    let b = column_rank_below (fastest_first o ns) (fastest_first o i) (in_box-ordered o ns i l ∙ h) in
    omega (arith, size_of-ordered o ns, rank_in-ordered o ns i l)

-- each rank has its index
pub index_of_rank : (o : Order) (ns : List ℕ) (r : ℕ) → r < size_of ns → (i : List ℕ) × (in_box ns i ≡ true) × (rank_in o ns i ≡ r)
index_of_rank o ns r h =
    let h' : r < size_of (fastest_first o ns) = omega (arith, size_of-ordered o ns) in
    let k = column_index (fastest_first o ns) r in
    let inside = in_box-column_index (fastest_first o ns) r h' in
    let l : length (fastest_first o k) ≡ length ns = length-ordered o k ∙ length-in_box (fastest_first o ns) k inside ∙ length-ordered o ns in
    let back = ordered-ordered o k in (
      fastest_first o k,
      sym (in_box-ordered o ns (fastest_first o k) l) ∙ ap (λ x. in_box (fastest_first o ns) x) back ∙ inside,
      sym (rank_in-ordered o ns (fastest_first o k) l) ∙ ap (λ x. column_rank (fastest_first o ns) x) back ∙ column_rank-column_index (fastest_first o ns) r h',
    )

-- what serves each rank serves each index
pub Serves-from_ranks : (o : Order) (ns : List ℕ) (ss : List ℤ) (ms : List ℕ) (ts : List ℤ) → length ss ≡ length ns → ServesRanks (fastest_first o ns) (fastest_first o ss) (fastest_first o ms) (fastest_first o ts) → Serves o ns ss ms ts
Serves-from_ranks o ns ss ms ts e serves =
    let l : length ts ≡ length ms = sym (length-ordered o ts) ∙ serves.as_many ∙ length-ordered o ms in
    record {
      as_many = l;
      same_displacement = λ i j h q same.
          let within : rank_in o ms j < size_of (fastest_first o ms) = omega (arith, rank_in-below o ms j q, size_of-ordered o ms) in
          sym (displacement-at_rank o ms ts j l q)
          ∙ serves.same (rank_in o ms j) within
          ∙ ap (λ r. at_rank (fastest_first o ns) (fastest_first o ss) r) (sym same)
          ∙ displacement-at_rank o ns ss i e h;
    }

-- and the other way
pub ranks_from_Serves : (o : Order) (ns : List ℕ) (ss : List ℤ) (ms : List ℕ) (ts : List ℤ) → length ss ≡ length ns → size_of ns ≡ size_of ms → Serves o ns ss ms ts → ServesRanks (fastest_first o ns) (fastest_first o ss) (fastest_first o ms) (fastest_first o ts)
ranks_from_Serves o ns ss ms ts e sizes serves = record {
  as_many = length-ordered o ts ∙ serves.as_many ∙ sym (length-ordered o ms);
  same = λ r h.
      let new = index_of_rank o ms r (omega (arith, size_of-ordered o ms)) in
      let old = index_of_rank o ns r (omega (arith, size_of-ordered o ms)) in
      ap (λ x. at_rank (fastest_first o ms) (fastest_first o ts) x) (sym new.2)
      ∙ displacement-at_rank o ms ts new.0 serves.as_many new.1
      ∙ serves.same_displacement old.0 new.0 old.1 new.1 (old.2 ∙ sym new.2)
      ∙ sym (displacement-at_rank o ns ss old.0 e old.1)
      ∙ ap (λ x. at_rank (fastest_first o ns) (fastest_first o ss) x) old.2;
}
